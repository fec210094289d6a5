-- A record at the front of what is held, as more comes.
use Rattle.std.proofs.Common.{◌≡◌, ◌≤◌, ◌-◌, ℕ, List, length, take, drop, sym, ap, ◌∙◌, arith}
use Rattle.std.proofs.lemmas.List.{take_rest}
use Rattle.spin_pcap.specs.declared.order.Order.{Order}
use Rattle.spin_pcap.specs.Captures.{ordered_number, captured_length}
use Rattle.spin_pcap.proofs.WholeRecords.{number_at-front}
use Rattle.spin_pcap.specs.Windows.{Grows}

-- the captured length is that of the front
pub says-still : (way : Order) (held held' : List ℕ) → 16 ≤ length held → Grows held held' → captured_length way held' ≡ captured_length way held
says-still way held held' size g = ap (λ ys. captured_length way ys) g.1 ∙ number_at-front way 8 4 held g.0 (omega (arith, size))

-- what the header at the front of what is held says
pub says : (way : Order) (held held' : List ℕ) (read : ℕ) → held ≡ held' → read ≡ ordered_number way 4 (take (length held - 8) (drop 8 held)) → captured_length way held' ≡ read
says way held held' read same is =
    ap (λ ys. captured_length way ys) (sym same) ∙ ap (λ ys. ordered_number way 4 ys) (sym (take_rest held 8)) ∙ sym is
