-- The header of a capture that is read off the front of what is left.
use Rattle.std.proofs.Common.{◌≡◌, ◌≤◌, ◌+◌, ◌==◌, subst, ℕ, List, [], length, drop, Option, Some, None, IfSome, refl, sym, ap, ◌∙◌, arith, Ok}
use Rattle.std.specs.Io.KnownBytes.{Consumes}
use Rattle.spin_outside.specs.Sources.{SourceSeen}
use Rattle.spin_pcap.specs.Captures.{header_of, ordered_number_at}
use Rattle.spin_pcap.specs.Passing.{Passes, left_for}
use Rattle.spin_pcap.proofs.FileHeaders.{header-long, starts}
use Rattle.spin_pcap.proofs.WholeRecords.{number_at-front}
use Rattle.spin_frames.specs.declared.head.Head.{Head}
use Rattle.spin_frames.specs.Heads.{IsHead}
use Rattle.spin_filter.proofs.RecordsRead.{consumed}

-- the header of what is held is that of all that was left
head-held : (held : List ℕ) (a b : Option (List ℕ)) (head : Head) → Consumes (left_for [] a) (left_for held b) [] → IsHead held head
    → IfSome a (λ file. (header_of file ≡ Ok head.order) × (left_for (drop 24 held) b ≡ Some (drop 24 file)))
    → IfSome a (λ file. IsHead file head × (left_for (drop 24 held) b ≡ Some (drop 24 file)))
head-held held None b head c is h = tt
head-held held (Some file) b head c is h =
    let more = consumed (Some file) b held file refl c in
    let long : 24 ≤ length held = header-long held head.order is.order in
    let at : (place : ℕ) → place + 4 ≤ 24 → ordered_number_at head.order place 4 held ≡ ordered_number_at head.order place 4 file =
    λ place le. sym (number_at-front head.order place 4 held more.0 (omega (arith, le, long))) ∙ ap (λ bytes. ordered_number_at head.order place 4 bytes) (sym more.2) in (
      record {
        order = h.0;
        nano = is.nano ∙ ap (λ n. n == 0xa1b23c4d) (at 0 (omega arith));
        snap = is.snap ∙ at 16 (omega arith);
      },
      h.1,
    )

pub head-read : (held left : List ℕ) (source source' : SourceSeen) (head : Head) → Passes [] [] source held source' → IsHead held head → left ≡ drop 24 held
    → IfSome source.left (λ file. IsHead file head × (left_for left source'.left ≡ Some (drop 24 file)))
head-read held left source source' head p is skipped =
    subst (λ (ys : List ℕ). IfSome source.left (λ file. IsHead file head × (left_for ys source'.left ≡ Some (drop 24 file)))) (sym skipped)
    (head-held held source.left source'.left head p.left is (starts [] held (drop 24 held) source source' head.order refl p is.order refl))
