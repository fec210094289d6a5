-- What calls do to the shelf, one after the other, a file that is too large, and a line that has nothing.
use Rattle.std.proofs.Common.{◌≡◌, ◌<◌, ◌+◌, ℕ, Option, Some, None, List, [], length, refl, ap, subst, ◌∙◌, arith, IfSome, inl, inr}
use Rattle.std.proofs.Math.ListN.{replicate}
use Rattle.std.proofs.lemmas.List.{length-replicate}
use Rattle.spin_outside.specs.Counts.{Rose}
use Rattle.spin_outside.specs.Files.{File, IsWholeFile}
use Rattle.spin_outside.specs.Seen.{ShelfSeen, SinkSeen}
use Rattle.spin_inputs.specs.Ends.{Tells}
use Rattle.spin_inputs.specs.Loading.{IsOver}
use Rattle.spin_inputs.specs.Shelves.{ShelfFailed, ShelfLacked, ShelfStood}

pub same_stood : (a b : ShelfSeen) → b ≡ a → ShelfStood a b
same_stood a b same = record { files = ap (λ s. s.files) same; faults = ap (λ s. s.faults) same; absences = ap (λ s. s.absences) same }

pub stood_stood : (a b c : ShelfSeen) → ShelfStood a b → ShelfStood b c → ShelfStood a c
stood_stood a b c s t = record { files = t.files ∙ s.files; faults = t.faults ∙ s.faults; absences = t.absences ∙ s.absences }

pub stood_failed : (a b c : ShelfSeen) → ShelfStood a b → ShelfFailed b c → ShelfFailed a c
stood_failed a b c s t = record { files = t.files ∙ s.files; faults = subst (λ n. Rose n c.faults) s.faults t.faults; absences = t.absences ∙ s.absences }

pub stood_lacked : (a b c : ShelfSeen) → ShelfStood a b → ShelfLacked b c → ShelfLacked a c
stood_lacked a b c s t = record { files = t.files ∙ s.files; faults = t.faults ∙ s.faults; absences = subst (λ n. Rose n c.absences) s.absences t.absences }

-- what is too much to take is more than the limit; of a shelf that doesn't tell, any text of more bytes may be there
pub too_large_file : (files : Option (List File)) (name : List ℕ) (left : Option (List ℕ)) (limit : ℕ)
    → IsWholeFile files name left → IfSome left (λ bytes. limit < length bytes) → IsOver limit files name
too_large_file None name left limit whole large =
    let byte : ℕ = 0 in
    let long : length (replicate (limit + 1) byte) ≡ limit + 1 = length-replicate (limit + 1) byte in
    (replicate (limit + 1) byte, tt, omega (arith, long))
too_large_file (Some held) name left limit whole large =
    (whole.0, whole.1, let P : Option (List ℕ) → Type 0 = λ o. IfSome o (λ bytes. limit < length bytes) in subst P whole.2 large)

-- what holds of each value that it may have
pub if_some : {X : Type 0} (o : Option X) (P : X → Type 0) → ((x : X) → o ≡ Some x → P x) → IfSome o P
if_some None P all = tt
if_some (Some x) P all = all x refl

-- nothing was to be written
pub tells_nothing : (a b : SinkSeen) → Tells a b [] → b.faults ≡ a.faults
tells_nothing a b (inl w) = w.0
tells_nothing a b (inr w) = absurd (omega (arith, w.1))
