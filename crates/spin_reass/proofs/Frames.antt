-- Frames and their headers.
use Rattle.std.proofs.Common.{◌≡◌, ◌≤◌, ℕ, List, length, nat_lt, Ok, Err, cond, inl, inr}
use Rattle.std.proofs.lemmas.Bool.{cases_lt, lt-ltb, cond-true}
use Rattle.spin_headers.specs.declared.ether.Ether.{Ether}
use Rattle.spin_headers.specs.declared.fault.HeaderFault.TheVariants as fault
use Rattle.spin_headers.specs.Headers.{ether_of}

-- a frame with a header is as long as that
pub ether_long : (bytes : List ℕ) (header : Ether) → ether_of bytes ≡ Ok header → 14 ≤ length bytes
unfolding ether_of
ether_long bytes header e =
    elim (cases_lt (length bytes) 14) [
      | inl short ↦ (let wrong : ether_of bytes ≡ Err fault.Short = cond-true (nat_lt (length bytes) 14) (Err fault.Short) _ (lt-ltb (length bytes) 14 short) in absurd (cc (e, wrong)))
      | inr long ↦ long
    ]
