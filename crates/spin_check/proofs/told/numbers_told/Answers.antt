use Rattle.std.proofs.Common.{◌≡◌, ◌++◌, ◌∷◌, [], ℕ, List, get_or, length, sym, ap, ◌∙◌, append_assoc}
use Rattle.std.specs.Prelude.{Some, decimal}
use Rattle.std.proofs.lemmas.List.{append-nil}
use Rattle.spin_report.proofs.PlainWords.{decimal_word}
use Rattle.spin_check.proofs.LineWords.{number_stands, numbers_end, low_here}
use Rattle.spin_check.proofs.told.numbers_told.Goals as goal
use Rattle.spin_check.proofs.told.numbers_told.Goals.{in-Some+then-first-ne32, in_default}

pub returns-in_default-number_told : goal.returns-in_default-number_told
returns-in_default-number_told c = λ ns more low is.
    let inv = c.loop-first.invariant ns more low is in
    let s = number_stands inv.0 more c.loop-first.rest.now c.in-Some.first.now c.in-Some.after.now c.in-Some.ensures.cases.0 c.if-first-ne32.false inv.2 in
    let word = c.split_word.ensures.word (decimal s.0) s.2 s.3 (decimal_word s.0) s.6 s.5 in
    let fits = low_here c.loop-first.numbers inv.0 ns s.0 s.1 inv.1 s.4 low in
    absurd (let told = c.in_default-number_told.ensures s.0 fits word.0 in cc (told))

pub loop-first-preserved : goal.loop-first-preserved
loop-first-preserved c = λ ns more low is.
    let inv = c.loop-first.invariant ns more low is in
    let s = number_stands inv.0 more c.loop-first.rest.now c.in-Some.first.now c.in-Some.after.now c.in-Some.ensures.cases.0 c.if-first-ne32.false inv.2 in
    let word = c.split_word.ensures.word (decimal s.0) s.2 s.3 (decimal_word s.0) s.6 s.5 in
    let fits = low_here c.loop-first.numbers inv.0 ns s.0 s.1 inv.1 s.4 low in
    let told : c.in-Some-number_told.number ≡ s.0 = let some_is = c.in-Some-number_told.ensures s.0 fits word.0 in cc (some_is) in
    let pushed : c.push.new.self ≡ c.loop-first.numbers ++ s.0 ∷ [] = c.in_ok-push.ensures.ok ∙ ap (λ n. c.loop-first.numbers ++ n ∷ []) told in
    (s.1, inv.1 ∙ ap (λ l. c.loop-first.numbers ++ l) s.4 ∙ sym (append_assoc c.loop-first.numbers (s.0 ∷ []) s.1) ∙ ap (λ l. l ++ s.1) (sym pushed), word.1 ∙ s.7)

pub returns : goal.returns
returns c = λ ns more low is.
    let inv = c.loop-first.invariant ns more low is in
    let ended : (get_or c.loop-first.rest.now 0 0 ≡ 32 → ⊥) → c.loop-first.numbers ≡ ns =
    λ other. sym (inv.1 ∙ ap (λ l. c.loop-first.numbers ++ l) (numbers_end inv.0 more c.loop-first.rest.now other inv.2) ∙ append-nil c.loop-first.numbers) in
    ap Some
    (elim c.match-split_first.branch [
      | in-Some+then-first-ne32 w ↦ ended (λ space. w.if-first-ne32.true (sym (ap (λ (l : List ℕ). get_or l 0 0) w.in-Some.ensures.cases.0) ∙ space))
      | in_default w ↦ ended (λ space. none_there c.loop-first.rest.now w.in_default.ensures.cases space)
    ])
  where
    none_there : (rest : List ℕ) → length rest ≡ 0 → get_or rest 0 0 ≡ 32 → ⊥
    none_there [] none space = cc (space)
    none_there (x ∷ rest) none space = cc (none)
