-- Entries of one lane that answer lines in the order of the text stand in the order of their moments.
use Rattle.std.proofs.Common.{◌≡◌, inl, inr, ℕ, zero, suc, ◌+◌, ◌<◌, Bool, true, false, not, cond, List, [], ◌∷◌, map, get_or, refl, sym, ap, subst, ◌∙◌, arith}
use Rattle.std.specs.Prelude.{◌==◌, nat_lt, All, AllPairs, Option, Some, None, MatchOption}
use Rattle.std.specs.Ordering.{is_lt, nat_cmp, bool_cmp, ordering_then}
use Rattle.std.specs.declared.cmp.Ordering.TheVariants as ordering
use Rattle.std.proofs.lemmas.Bool.Decides.{nat_tests}
use Rattle.std.proofs.lemmas.List.Elements.{All-head, All-tail}
use Rattle.spin_place.proofs.NumberLists.{AllPairs-head, AllPairs-tail}
use Rattle.spin_word.specs.declared.command.Command.{Command}
use Rattle.spin_table.specs.declared.refusal.Refusal.{Refusal}
use Rattle.spin_table.specs.declared.refusal.Verdicted.TheVariants as verdicted
use Rattle.spin_table.specs.Setups.{SetupData}
use Rattle.spin_table.specs.States.{State}
use Rattle.spin_table.specs.Refusals.{refusal_of}
use Rattle.spin_table.specs.Steps.{ChangesTo, IsStep}
use Rattle.spin_report.specs.declared.entry.What.{What}
use Rattle.spin_report.specs.declared.entry.What.TheVariants as what
use Rattle.spin_report.specs.declared.entry.Entry.{Entry}
use Rattle.spin_report.specs.Asked.{asked_of}
use Rattle.spin_report.specs.Legal.{Answers, IsNextEntry, IsLegal}
use Rattle.spin_report.specs.Segments.{is_accepted, moment, moment_cmp, IsInOrder}
use Rattle.spin_report.proofs.Asking.{IsLater}

above : (a b : ℕ) → b < a → nat_cmp a b ≡ ordering.Greater
above a b less =
    let one : nat_lt a b ≡ false = grind (arith, nat_tests) in
    let two : (a == b) ≡ false = grind (arith, nat_tests) in
    ap (λ t. cond t ordering.Less (cond (a == b) ordering.Equal ordering.Greater)) one ∙ ap (λ t. cond t ordering.Equal ordering.Greater) two

level : (a b : ℕ) → a ≡ b → nat_cmp a b ≡ ordering.Equal
level a b same =
    let one : nat_lt a b ≡ false = grind (arith, nat_tests) in
    let two : (a == b) ≡ true = grind (arith, nat_tests) in
    ap (λ t. cond t ordering.Less (cond (a == b) ordering.Equal ordering.Greater)) one ∙ ap (λ t. cond t ordering.Equal ordering.Greater) two

-- at a later place it isn't earlier
later_place : (a b : ℕ × Bool × ℕ × ℕ × ℕ) → b.0 < a.0 → is_lt (moment_cmp a b) ≡ false
later_place a b less =
    ap (λ o. is_lt (ordering_then (ordering_then (ordering_then (ordering_then o (bool_cmp a.1 b.1)) (nat_cmp a.2 b.2)) (nat_cmp a.3 b.3)) (nat_cmp a.4 b.4)))
    (above a.0 b.0 less)

-- nor is it at the same place what one lane asks later, where it is no command that was accepted
later_line : (p : ℕ) (y : Bool) (lane : ℕ) (a b : Entry) → IsLater (asked_of a) (asked_of b)
    → is_lt (moment_cmp (p, true, lane, b.line, b.part) (p, y, lane, a.line, a.part)) ≡ false
later_line p false lane a b later =
    ap (λ o. is_lt (ordering_then (ordering_then (ordering_then (ordering_then o (bool_cmp true false)) (nat_cmp lane lane)) (nat_cmp b.line a.line)) (nat_cmp b.part a.part))) (level p p refl)
later_line p true lane a b (inl less) =
    let place = level p p refl in
    let lanes = level lane lane refl in
    let lines = above b.line a.line less in
    λ t. is_lt (ordering_then (ordering_then (ordering_then (ordering_then (place t) (bool_cmp true true)) (lanes t)) (lines t)) (nat_cmp b.part a.part))
later_line p true lane a b (inr same) =
    let place = level p p refl in
    let lanes = level lane lane refl in
    let lines = level b.line a.line (sym same.0) in
    let parts = above b.part a.part same.1 in
    λ t. is_lt (ordering_then (ordering_then (ordering_then (ordering_then (place t) (bool_cmp true true)) (lanes t)) (lines t)) (parts t))

-- a command that is accepted moves the place on by one, and one that is refused leaves it
accepted_place : (d : SetupData) (s next : State) (c : Command) → IsStep d s c verdicted.Accepted next → next.place ≡ s.place + 1
accepted_place d s next c h = by_refusal (refusal_of d s c) h where
  by_refusal : (o : Option Refusal) → MatchOption o (ChangesTo d s c verdicted.Accepted next) (λ q. (verdicted.Accepted ≡ verdicted.Refused q) × (next ≡ s)) → next.place ≡ s.place + 1
  by_refusal (Some q) k = absurd (cc (k.0))
  by_refusal None k = ap (λ (t : State). t.place) k.0

refused_place : (d : SetupData) (s next : State) (c : Command) (r : Refusal) → IsStep d s c (verdicted.Refused r) next → next.place ≡ s.place
refused_place d s next c r h = by_refusal (refusal_of d s c) h where
  by_refusal : (o : Option Refusal) → MatchOption o (ChangesTo d s c (verdicted.Refused r) next) (λ q. (verdicted.Refused r ≡ verdicted.Refused q) × (next ≡ s)) → next.place ≡ s.place
  by_refusal (Some q) k = ap (λ (t : State). t.place) k.1
  by_refusal None k = ap (λ (t : State). t.place) k.0

not_earlier : (d : SetupData) (s next : State) (a b : Entry) → a.place ≡ s.place → IsNextEntry d s b next → b.lane ≡ a.lane → IsLater (asked_of a) (asked_of b)
    → is_lt (moment_cmp (moment b) (moment a)) ≡ false
not_earlier d s next a b at is lane later = go b.what refl is.0 where
  there : ℕ → Bool → ℕ → ℕ × Bool × ℕ × ℕ × ℕ
  there p x l = (p, x, l, b.line, b.part)

  same : (w : What) → b.what ≡ w → is_accepted w ≡ false → next.place ≡ s.place → is_lt (moment_cmp (moment b) (moment a)) ≡ false
  same w here refused stays =
      let place : b.place ≡ a.place = is.1 ∙ stays ∙ sym at in
      let flag : not (is_accepted b.what) ≡ true = ap (λ x. not (is_accepted x)) here ∙ ap not refused in
      (λ i. is_lt (moment_cmp (there (place i) (flag i) (lane i)) (moment a))) ∙ later_line a.place (not (is_accepted a.what)) a.lane a b later

  go : (w : What) → b.what ≡ w → Answers d s w next → is_lt (moment_cmp (moment b) (moment a)) ≡ false
  go (what.Command c verdicted.Accepted) here answers = later_place (moment b) (moment a) (omega (arith, at, is.1, accepted_place d s next c answers))
  go (what.Command c (verdicted.Refused r)) here answers = same (what.Command c (verdicted.Refused r)) here refl (refused_place d s next c r answers)
  go (what.Deed asked reply) here answers = same (what.Deed asked reply) here refl (ap (λ (t : State). t.place) answers.1)

one_more : (a b : Entry) (entries : List Entry) → is_lt (moment_cmp (moment b) (moment a)) ≡ false → IsInOrder (b ∷ entries) → IsInOrder (a ∷ (b ∷ entries))
one_more a b entries first rest zero d low lt = first
one_more a b entries first rest (suc k) d low lt =
    let at : suc (k + 1) ≡ suc k + 1 = omega arith in
    subst (λ i. is_lt (moment_cmp (moment (get_or (a ∷ (b ∷ entries)) i d)) (moment (get_or (b ∷ entries) k d))) ≡ false) at (rest k d (omega arith) (omega (arith, lt)))

-- entries of one lane that follow on one another, and answer in the order of the text, stand in order
pub in_order : (d : SetupData) (s last : State) (lane : ℕ) (entries : List Entry) → IsLegal d s entries last → AllPairs IsLater (map asked_of entries)
    → All (λ (entry : Entry). entry.lane ≡ lane) entries → IsInOrder entries
in_order d s last lane [] legal later own = λ k e low lt. absurd (omega (arith, lt))
in_order d s last lane (a ∷ []) legal later own = λ k e low lt. absurd (omega (arith, lt))
in_order d s last lane (a ∷ (b ∷ entries)) (next, one, (then, two, rest)) later own =
    let asked = map asked_of entries in
    let first = All-head (IsLater (asked_of a)) (asked_of b) asked (AllPairs-head IsLater (asked_of a) (asked_of b ∷ asked) later) in
    let others = All-tail (λ (entry : Entry). entry.lane ≡ lane) a (b ∷ entries) own in
    let lanes : b.lane ≡ a.lane = All-head (λ (entry : Entry). entry.lane ≡ lane) b entries others ∙ sym (All-head (λ (entry : Entry). entry.lane ≡ lane) a (b ∷ entries) own) in
    one_more a b entries (not_earlier d next then a b one.1 two lanes first)
    (in_order d next last lane (b ∷ entries) (then, two, rest) (AllPairs-tail IsLater (asked_of a) (asked_of b ∷ asked) later) others)
