use Rattle.std.proofs.Common.{◌≡◌, ◌+◌, ◌-◌, ◌∷◌, List, ℕ, length, get_or, refl, ap, arith}
use Rattle.std.specs.Prelude.{Some, decimal}
use Rattle.spin_report.proofs.PlainWords.{decimal_word}
use Rattle.spin_check.proofs.LineWords.{lane_stands}
use Rattle.spin_check.proofs.told.lane_told.Goals as goal

pub returns-then-rest-lt2 : goal.returns-then-rest-lt2
returns-then-rest-lt2 c = λ entry few begins.
    let s = lane_stands c.args.report.now entry few begins in
    let rest = c.behind_word-rest.ensures (decimal entry.place) 32 ((48 + entry.lane) ∷ s.0) (decimal_word entry.place) refl s.1 in
    absurd (omega (arith, c.if-rest-lt2.true, ap length rest))

pub returns-then-digit-lt48 : goal.returns-then-digit-lt48
returns-then-digit-lt48 c = λ entry few begins.
    let s = lane_stands c.args.report.now entry few begins in
    let rest = c.behind_word-rest.ensures (decimal entry.place) 32 ((48 + entry.lane) ∷ s.0) (decimal_word entry.place) refl s.1 in
    let digit : get_or c.behind_word-rest.result.now 1 0 ≡ 48 + entry.lane = ap (λ (l : List ℕ). get_or l 1 0) rest in
    absurd (omega (arith, c.if-digit-lt48.true, digit))

pub returns : goal.returns
returns c = λ entry few begins.
    let s = lane_stands c.args.report.now entry few begins in
    let rest = c.behind_word-rest.ensures (decimal entry.place) 32 ((48 + entry.lane) ∷ s.0) (decimal_word entry.place) refl s.1 in
    let digit : get_or c.behind_word-rest.result.now 1 0 ≡ 48 + entry.lane = ap (λ (l : List ℕ). get_or l 1 0) rest in
    let lane : get_or c.behind_word-rest.result.now 1 0 - 48 ≡ entry.lane = omega (arith, digit) in
    ap Some lane
