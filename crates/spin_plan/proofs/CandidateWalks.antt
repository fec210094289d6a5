-- A walk from candidate to candidate.
use Rattle.std.proofs.Common.{◌≡◌, ℕ, zero, suc, ◌+◌, ◌-◌, ◌<◌, ◌≤◌, Bool, true, false, not, ◌||◌, ◌==◌, List, [], ◌∷◌, ◌++◌, length, take, drop}
use Rattle.std.proofs.Common.{get_or, Option, Some, None, is_some, refl, sym, ap, subst, ◌∙◌, arith, cond, slice_get, filter, nat_le, sum_by, ⊎_elim}
use Rattle.std.specs.Prelude.{IfSome, IsSomeAnd}
use Rattle.std.specs.List.{find, All}
use Rattle.std.specs.List.Sorted.{IsNonDecreasing}
use Rattle.std.specs.Option.{option_map_or}
use Rattle.std.proofs.lemmas.Bool.{cases_lt}
use Rattle.std.proofs.lemmas.Grind.{common_steps}
use Rattle.std.proofs.lemmas.List.{append-nil, take_all, drop-append-le}
use Rattle.std.proofs.lemmas.List.Elements.{filter-append}
use Rattle.std.proofs.lemmas.List.Sums.{sum_by-append, sum_by-cons}
use Rattle.std.proofs.lemmas.Option.{slice_get_within, get_or_from_slice_get}
use Rattle.std.proofs.Math.Seq.{take-suc}
use Rattle.spin_values.specs.declared.values.Value.{Value}
use Rattle.spin_code.specs.declared.expr.Expr.{Expr}
use Rattle.spin_code.specs.declared.test.Test.{Test}
use Rattle.spin_code.specs.Value.{value_of}
use Rattle.spin_place.specs.declared.binding.Binding.{Binding}
use Rattle.spin_plan.specs.Next.{IsNext, NonePass, guards_hold}
use Rattle.spin_plan.specs.Keys.{binding_requires, wanted, may_fire, guards_in}
use Rattle.spin_plan.specs.Planned.{Planned, IsOver, positions_from, positions_at, positions_under, key_value, wants, least}
use Rattle.spin_plan.proofs.Positions.{next_position, next_of_both, positions_rise}
use Rattle.spin_plan.proofs.RequirementLemmas.{cannot_fire}

next_same : {X : Type 0} (p q : X → Bool) (xs : List X) (from : ℕ) (r : Option ℕ) → ((x : X) → p x ≡ q x) → IsNext p xs from r → IsNext q xs from r
next_same p q xs from r same next = subst (λ t. IsNext t xs from r) (λ i x. same x i) next

never_passes : {X : Type 0} (xs : List X) (from : ℕ) → IsNext (λ x. false) xs from None
never_passes {X} xs from k le lt = by_entry (slice_get xs k)
  where
    by_entry : (o : Option X) → IfSome o (λ x. false ≡ false)
    by_entry None = tt
    by_entry (Some x) = refl

-- the next candidate
candidate_of : (tests : List Test) (args : List Value) (bs : List Binding) (free : List ℕ) (keyed : List (ℕ × List ℕ)) (from : ℕ) (key : Option Expr)
    → free ≡ positions_from (λ b. not (is_some (wanted tests key b))) 0 bs
    → ((c : ℕ) → positions_at keyed c ≡ positions_from (λ b. wants c (wanted tests key b)) 0 bs)
    → IsNext (may_fire tests key args) bs from (least (find (nat_le from) free) (find (nat_le from) (positions_under keyed (key_value key args))))
candidate_of tests args bs free keyed from None is_free is_keyed =
    next_of_both (λ b. true) (λ b. false) bs from _ None
    (subst (λ positions. IsNext (λ b. true) bs from (find (nat_le from) positions)) (sym is_free) (next_position (λ b. true) bs from))
    (never_passes bs from)
candidate_of tests args bs free keyed from (Some e) is_free is_keyed =
    let c = value_of e args in
    next_same (λ b. not (is_some (binding_requires tests e b)) || wants c (binding_requires tests e b)) (may_fire tests (Some e) args) bs from _
    (λ b. agrees (binding_requires tests e b))
    (next_of_both (λ b. not (is_some (binding_requires tests e b))) (λ b. wants c (binding_requires tests e b)) bs from _ _
    (subst (λ positions. IsNext (λ b. not (is_some (binding_requires tests e b))) bs from (find (nat_le from) positions))
    (sym is_free) (next_position (λ b. not (is_some (binding_requires tests e b))) bs from))
    (subst (λ positions. IsNext (λ b. wants c (binding_requires tests e b)) bs from (find (nat_le from) positions))
    (sym (is_keyed c)) (next_position (λ b. wants c (binding_requires tests e b)) bs from)))
  where
    agrees : (o : Option ℕ) → (not (is_some o) || wants (value_of e args) o) ≡ option_map_or (λ c. value_of e args == c) o true
    agrees None = refl
    agrees (Some n) = refl

pub candidate_is : (tests : List Test) (args : List Value) (p : Planned) (from : ℕ) → IsOver tests p
    → IsNext (may_fire tests p.key args) p.bindings from (least (find (nat_le from) p.free) (find (nat_le from) (positions_under p.keyed (key_value p.key args))))
candidate_is tests args p from over = candidate_of tests args p.bindings p.free p.keyed from p.key over.free over.keyed

-- ---- the bindings from one position up to another

one_more : {X : Type 0} (xs : List X) (from k : ℕ) (x : X) → from ≤ k → slice_get xs k ≡ Some x → drop from (take (k + 1) xs) ≡ drop from (take k xs) ++ x ∷ []
one_more xs from k x le there =
    let within = slice_get_within xs k x there in
    let read : get_or xs k x ≡ x = get_or_from_slice_get xs k x x there in
    grind (arith, common_steps, take-suc xs k x within, drop-append-le, read)

is_past : {X : Type 0} (xs : List X) (k : ℕ) → k < length xs → slice_get xs k ≡ None → ⊥
is_past [] k lt none = absurd (omega (arith, lt))
is_past (x ∷ xs) zero lt none = absurd cc
is_past (x ∷ xs) (suc k) lt none = is_past xs k (omega (arith, lt)) none

-- none that passes is between them
none_between : {X : Type 0} (p : X → Bool) (xs : List X) (from at m : ℕ) → from ≤ at → at + m ≤ length xs
    → NonePass p xs at (at + m) → filter p (drop from (take (at + m) xs)) ≡ filter p (drop from (take at xs))
none_between p xs from at zero le within none = ap (λ n. filter p (drop from (take n xs))) (omega arith)
none_between {X} p xs from at (suc m) le within none =
    by_entry (none_between p xs from at m le (omega (arith, within)) (λ k low lt. none k low (omega (arith, lt))))
    (slice_get xs (at + m)) refl (none (at + m) (omega arith) (omega arith))
  where
    by_entry : filter p (drop from (take (at + m) xs)) ≡ filter p (drop from (take at xs)) → (o : Option X) → slice_get xs (at + m) ≡ o
        → IfSome o (λ x. p x ≡ false) → filter p (drop from (take (at + suc m) xs)) ≡ filter p (drop from (take at xs))
    by_entry before None there fails = absurd (not_past there)
      where
        not_past : slice_get xs (at + m) ≡ None → ⊥
        not_past none_there = is_past xs (at + m) (omega (arith, within)) none_there
    by_entry before (Some x) there fails =
        ap (λ n. filter p (drop from (take n xs))) (omega arith)
        ∙ ap (filter p) (one_more xs from (at + m) x (omega (arith, le)) there)
        ∙ filter-append p (drop from (take (at + m) xs)) (x ∷ [])
        ∙ ap (λ b. filter p (drop from (take (at + m) xs)) ++ cond b (x ∷ []) []) fails
        ∙ append-nil (filter p (drop from (take (at + m) xs)))
        ∙ before

none_up_to : {X : Type 0} (p : X → Bool) (xs : List X) (from at to : ℕ) → from ≤ at → at ≤ to → to ≤ length xs
    → NonePass p xs at to → filter p (drop from (take to xs)) ≡ filter p (drop from (take at xs))
none_up_to p xs from at to le le' within none =
    let is : to ≡ at + (to - at) = omega (arith, le') in
    ap (λ n. filter p (drop from (take n xs))) is
    ∙ none_between p xs from at (to - at) le (omega (arith, le', within)) (λ k low lt. none k low (omega (arith, lt, le')))

-- how many guards the candidates have from one position up to another
abbrev pub asked : List Test → Option Expr → List Value → List Binding → ℕ → ℕ → ℕ
asked tests key args bs from to = sum_by guards_in (filter (may_fire tests key args) (drop from (take to bs)))

pub asked_none : (tests : List Test) (key : Option Expr) (args : List Value) (bs : List Binding) (from : ℕ) → asked tests key args bs from from ≡ 0
asked_none tests key args bs from = ap (λ xs. sum_by guards_in (filter (may_fire tests key args) xs)) nothing
  where
    nothing : drop from (take from bs) ≡ []
    nothing = grind (arith, common_steps)

-- up to the next candidate and with it
pub asked_more : (tests : List Test) (key : Option Expr) (args : List Value) (bs : List Binding) (from at c : ℕ) (b : Binding) → from ≤ at
    → IsNext (may_fire tests key args) bs at (Some c) → slice_get bs c ≡ Some b → asked tests key args bs from (c + 1) ≡ asked tests key args bs from at + guards_in b
asked_more tests key args bs from at c b le (le', fires, none) there =
    let p = may_fire tests key args in
    let within = slice_get_within bs c b there in
    let passes : p b ≡ true = subst (λ o. IsSomeAnd o (λ x. p x ≡ true)) there fires in
    let list : filter p (drop from (take (c + 1) bs)) ≡ filter p (drop from (take at bs)) ++ b ∷ [] =
    ap (filter p) (one_more bs from c b (omega (arith, le, le')) there)
    ∙ filter-append p (drop from (take c bs)) (b ∷ [])
    ∙ ap (λ t. filter p (drop from (take c bs)) ++ cond t (b ∷ []) []) passes
    ∙ ap (λ xs. xs ++ b ∷ []) (none_up_to p bs from at c le le' (omega (arith, within)) none) in
    ap (sum_by guards_in) list
    ∙ sum_by-append guards_in (filter p (drop from (take at bs))) (b ∷ [])
    ∙ ap (λ n. sum_by guards_in (filter p (drop from (take at bs))) + n) (sum_by-cons guards_in b [] ∙ omega arith)

-- where there is no key, each binding is the next candidate in its turn
pub in_turn : (tests : List Test) (args : List Value) (bs : List Binding) (at : ℕ) (b : Binding) → slice_get bs at ≡ Some b → IsNext (may_fire tests None args) bs at (Some at)
in_turn tests args bs at b there =
    (omega arith, subst (λ o. IsSomeAnd o (λ (x : Binding). true ≡ true)) (sym there) refl, λ k low high. absurd (omega (arith, low, high)))

-- to the end, where no candidate is left
pub asked_rest : (tests : List Test) (key : Option Expr) (args : List Value) (bs : List Binding) (from at : ℕ) → from ≤ at
    → IsNext (may_fire tests key args) bs at None → asked tests key args bs from (length bs) ≡ asked tests key args bs from at
asked_rest tests key args bs from at le none =
    ap (sum_by guards_in)
    (⊎_elim
    (λ inside. none_up_to (may_fire tests key args) bs from at (length bs) le (omega (arith, inside)) (omega arith) none)
    (λ past. ap (λ xs. filter (may_fire tests key args) (drop from xs)) (take_all _ _ (omega arith) ∙ sym (take_all _ _ past)))
    (cases_lt at (length bs)))

-- ---- what the walk has passed

both_fail : (p q : Binding → Bool) → ((b : Binding) → p b ≡ false → q b ≡ false) → (o : Option Binding) → IfSome o (λ b. p b ≡ false) → IfSome o (λ b. q b ≡ false)
both_fail p q fails None h = tt
both_fail p q fails (Some b) h = fails b h

-- none holds up to the next candidate
pub none_holds : (tests : List Test) (key : Option Expr) (args : List Value) (bs : List Binding) (from at to : ℕ)
    → NonePass (guards_hold tests args) bs from at → NonePass (may_fire tests key args) bs at to → NonePass (guards_hold tests args) bs from to
none_holds tests key args bs from at to passed none k le lt =
    ⊎_elim (λ before. passed k le before)
    (λ later. both_fail (may_fire tests key args) (guards_hold tests args) (cannot_fire tests key args) (slice_get bs k) (none k later lt))
    (cases_lt k at)

-- nor with it, where its guards don't
pub none_with : (tests : List Test) (args : List Value) (bs : List Binding) (from c : ℕ) (b : Binding) → NonePass (guards_hold tests args) bs from c
    → slice_get bs c ≡ Some b → guards_hold tests args b ≡ false → NonePass (guards_hold tests args) bs from (c + 1)
none_with tests args bs from c b passed there fails k le lt =
    ⊎_elim (λ before. passed k le before)
    (λ at. let is : k ≡ c = omega (arith, at, lt) in subst (λ o. IfSome o (λ x. guards_hold tests args x ≡ false)) (sym (ap (slice_get bs) is ∙ there)) fails)
    (cases_lt k c)

-- ---- the lists rise

pub free_rises : (tests : List Test) (p : Planned) → IsOver tests p → IsNonDecreasing p.free
free_rises tests p over = subst IsNonDecreasing (sym over.free) (positions_rise (λ b. not (is_some (wanted tests p.key b))) 0 p.bindings)

pub keyed_rises : (tests : List Test) (p : Planned) (value : Option ℕ) → IsOver tests p → IsNonDecreasing (positions_under p.keyed value)
keyed_rises tests p None over i j d le lt = absurd (omega (arith, lt))
keyed_rises tests p (Some c) over i j d le lt = subst IsNonDecreasing (sym (over.keyed c)) (positions_rise (λ b. wants c (wanted tests p.key b)) 0 p.bindings) i j d le lt

-- ---- what the code finds

pub found_next : (tests : List Test) (args : List Value) (p : Planned) (from : ℕ) (keyed : List ℕ) (r : Option ℕ) → IsOver tests p
    → keyed ≡ positions_under p.keyed (key_value p.key args)
    → r ≡ least (find (nat_le from) p.free) (find (nat_le from) keyed)
    → IsNext (may_fire tests p.key args) p.bindings from r
found_next tests args p from keyed r over is found =
    subst (IsNext (may_fire tests p.key args) p.bindings from) (sym (found ∙ ap (λ ks. least (find (nat_le from) p.free) (find (nat_le from) ks)) is))
    (candidate_is tests args p from over)

pub next_within : {X : Type 0} (q : X → Bool) (xs : List X) (from at : ℕ) → IsNext q xs from (Some at) → at < length xs
next_within {X} q xs from at (le, passes, none) = there xs at passes
  where
    there : (ys : List X) (k : ℕ) → IsSomeAnd (slice_get ys k) (λ x. q x ≡ true) → k < length ys
    there [] k h = absurd h
    there (y ∷ ys) zero h = omega arith
    there (y ∷ ys) (suc k) h = omega (arith, there ys k h)

pub all_at : {X : Type 0} (P : X → Type 0) (xs : List X) (k : ℕ) (x : X) → All P xs → slice_get xs k ≡ Some x → P x
all_at P xs k x all there = subst P (get_or_from_slice_get xs k x x there) (all k x (slice_get_within xs k x there))
