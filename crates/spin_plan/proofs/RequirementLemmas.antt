-- What a binding requires: where its guards hold, the value is the constant.
use Rattle.std.proofs.Common.{◌≡◌, ℕ, zero, suc, ◌+◌, ◌-◌, ◌<◌, Bool, true, false, ◌||◌, ◌==◌, List, [], ◌∷◌, ◌++◌, length}
use Rattle.std.proofs.Common.{take, get_or, Option, Some, None, is_some, refl, sym, ap, ◌∙◌, arith, cond, slice_get}
use Rattle.std.specs.List.{list_all}
use Rattle.std.specs.Option.{option_or, option_and_then, option_map_or}
use Rattle.std.proofs.lemmas.Option.{same_Some, option_and_then_some}
use Rattle.std.proofs.lemmas.Bool.Decides.{nat_tests}
use Rattle.spin_values.specs.declared.values.Value.{Value}
use Rattle.spin_code.specs.declared.expr.Expr.{Expr}
use Rattle.spin_code.specs.declared.test.Test.{Test}
use Rattle.spin_code.specs.Value.{value_of}
use Rattle.spin_code.specs.Truth.{holds_if, admits_at}
use Rattle.spin_code.specs.Required.{required_by}
use Rattle.spin_code.proofs.Requirements.{is_met, first_of_both, second_of_both}
use Rattle.spin_place.specs.declared.binding.Binding.{Binding}
use Rattle.spin_plan.specs.Next.{guard_holds, guards_hold}
use Rattle.spin_plan.proofs.Positions.{take_push}
use Rattle.spin_plan.specs.Keys.{guard_requires, first_required, binding_requires, may_fire}

-- of two the first that is there
one_of : {P : Type 0} (o p : Option ℕ) (c : ℕ) → option_or o p ≡ Some c → (o ≡ Some c → P) → (p ≡ Some c → P) → P
one_of (Some n) p c h left right = left h
one_of None p c h left right = right h

guard_met : (tests : List Test) (e : Expr) (args : List Value) (guard c : ℕ) → guard_requires tests e guard ≡ Some c → guard_holds tests args guard ≡ true → value_of e args ≡ c
guard_met tests e args guard c = by_number (guard == 0)
  where
    by_number : (none : Bool) → cond none None (option_and_then (λ t. required_by t e) (slice_get tests (guard - 1))) ≡ Some c → (none || admits_at tests guard args) ≡ true → value_of e args ≡ c
    by_number true h holds = absurd cc
    by_number false h holds =
        option_and_then_some (λ t. required_by t e) (slice_get tests (guard - 1)) c h
        (λ t there requires. is_met t e args c requires (sym (ap (λ o. holds_if o args) there) ∙ holds))

guards_met : (tests : List Test) (e : Expr) (args : List Value) (guards : List ℕ) (c : ℕ)
    → first_required tests e guards ≡ Some c → list_all (guard_holds tests args) guards ≡ true → value_of e args ≡ c
guards_met tests e args [] c h holds = absurd cc
guards_met tests e args (guard ∷ guards) c h holds =
    one_of (guard_requires tests e guard) (first_required tests e guards) c h
    (λ left. guard_met tests e args guard c left (first_of_both _ _ holds))
    (λ right. guards_met tests e args guards c right (second_of_both _ _ holds))

-- what may not fire has a guard that doesn't hold
pub cannot_fire : (tests : List Test) (key : Option Expr) (args : List Value) (b : Binding) → may_fire tests key args b ≡ false → guards_hold tests args b ≡ false
cannot_fire tests None args b h = absurd cc
cannot_fire tests (Some e) args b h = by_constant (binding_requires tests e b) refl h
  where
    by_truth : (c : ℕ) (t : Bool) → guards_hold tests args b ≡ t → binding_requires tests e b ≡ Some c → (value_of e args == c) ≡ false → t ≡ false
    by_truth c false is requires differs = refl
    by_truth c true is requires differs =
        let met : value_of e args ≡ c = guards_met tests e args (b.own_guard ∷ b.imposed) c requires is in
        absurd (grind (arith, nat_tests, met, differs))

    by_constant : (o : Option ℕ) → binding_requires tests e b ≡ o → option_map_or (λ c. value_of e args == c) o true ≡ false → guards_hold tests args b ≡ false
    by_constant None is differs = absurd cc
    by_constant (Some c) is differs = by_truth c (guards_hold tests args b) refl is differs

-- ---- the first constant of several guards

first_append : (tests : List Test) (e : Expr) (xs ys : List ℕ) → first_required tests e (xs ++ ys) ≡ option_or (first_required tests e xs) (first_required tests e ys)
first_append tests e [] ys = refl
first_append tests e (x ∷ xs) ys =
    ap (option_or (guard_requires tests e x)) (first_append tests e xs ys)
    ∙ sym (or_assoc (guard_requires tests e x) (first_required tests e xs) (first_required tests e ys))
  where
    or_assoc : (a b c : Option ℕ) → option_or (option_or a b) c ≡ option_or a (option_or b c)
    or_assoc None b c = refl
    or_assoc (Some n) b c = refl

-- the first guards require none, and the next one does
pub first_at : (tests : List Test) (e : Expr) (guards : List ℕ) (i guard : ℕ) (o : Option ℕ) → first_required tests e (take i guards) ≡ None
    → slice_get guards i ≡ Some guard → o ≡ guard_requires tests e guard → is_some o ≡ true → o ≡ first_required tests e guards
first_at tests e [] i guard o none there is some = absurd cc
first_at tests e (x ∷ xs) zero guard o none there is some =
    let same : guard_requires tests e x ≡ o = ap (guard_requires tests e) (same_Some _ _ there) ∙ sym is in
    taken o (first_required tests e xs) some ∙ ap (λ p. option_or p (first_required tests e xs)) (sym same)
  where
    taken : (p q : Option ℕ) → is_some p ≡ true → p ≡ option_or p q
    taken (Some n) q h = refl
    taken None q h = absurd cc
first_at tests e (x ∷ xs) (suc i) guard o none there is some =
    first_at tests e xs i guard o (second_none (guard_requires tests e x) _ none) there is some
    ∙ ap (λ p. option_or p (first_required tests e xs)) (sym (first_none (guard_requires tests e x) _ none))
  where
    first_none : (p q : Option ℕ) → option_or p q ≡ None → p ≡ None
    first_none None q h = refl
    first_none (Some n) q h = h

    second_none : (p q : Option ℕ) → option_or p q ≡ None → q ≡ None
    second_none None q h = h
    second_none (Some n) q h = absurd cc

pub none_more : (tests : List Test) (e : Expr) (own : ℕ) (guards : List ℕ) (i guard : ℕ) (o : Option ℕ) → first_required tests e (own ∷ take i guards) ≡ None
    → i < length guards → guard ≡ get_or guards i guard → o ≡ guard_requires tests e guard → is_some o ≡ false → first_required tests e (own ∷ take (i + 1) guards) ≡ None
none_more tests e own guards i guard o none lt at is out =
    ap (λ gs. first_required tests e (own ∷ gs)) (take_push guards i guard lt at)
    ∙ first_append tests e (own ∷ take i guards) (guard ∷ [])
    ∙ ap (λ p. option_or p (option_or (guard_requires tests e guard) None)) none
    ∙ ap (λ p. option_or p None) (sym is ∙ empty o out)
  where
    empty : (p : Option ℕ) → is_some p ≡ false → p ≡ None
    empty None h = refl
    empty (Some n) h = absurd cc
