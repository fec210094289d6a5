-- What a bare value and the value have in common.
use Rattle.std.proofs.Common.{◌≡◌, ℕ, suc, ◌+◌, Bool, List, [], ◌∷◌, map, sum_by, fold, refl, ap, ◌∙◌}
use Rattle.std.specs.List.{list_all, list_any, flat_map}
use Rattle.spin_values.specs.declared.types.Param.{Param}
use Rattle.spin_values.specs.declared.types.EventType.{EventType}
use Rattle.spin_code.specs.declared.expr.Expr.{Expr}
use Rattle.spin_code.specs.declared.expr.Expr.TheVariants as expr
use Rattle.spin_code.specs.declared.test.Test.{Test}
use Rattle.spin_code.specs.declared.test.Test.TheVariants as test
use Rattle.spin_code.specs.declared.act.Part.{Part}
use Rattle.spin_code.specs.declared.act.Part.TheVariants as part
use Rattle.spin_code.specs.declared.act.ActStep.{ActStep}
use Rattle.spin_code.specs.declared.act.ActStep.TheVariants as step
use Rattle.spin_code.specs.declared.merge.Merge.{Merge}
use Rattle.spin_code.specs.declared.merge.Merge.TheVariants as merge
use Rattle.spin_code.specs.Size.{expr_depth, expr_nodes, test_depth, test_nodes, is_part_deep, part_nodes, is_step_deep, step_nodes}
use Rattle.spin_code.specs.Uses.{Use, expr_uses, test_uses, part_uses, step_uses, is_known, is_right, is_step_known, is_step_right}
use Rattle.spin_code.specs.Check.{sets_var, is_result, act_check, test_check, merge_check}
use Rattle.spin_grammar.specs.Bare.{bare_expr, bare_test, bare_part, bare_step, bare_merge}

-- ---- lists

pub any_alike : {A : Type 0} (p : A → Bool) (f : A → A) → ((x : A) → p (f x) ≡ p x) → (xs : List A) → list_any p (map f xs) ≡ list_any p xs
any_alike p f h [] = refl
any_alike p f h (x ∷ xs) = rw (h x, any_alike p f h xs) refl

pub all_alike : {A : Type 0} (p : A → Bool) (f : A → A) → ((x : A) → p (f x) ≡ p x) → (xs : List A) → list_all p (map f xs) ≡ list_all p xs
all_alike p f h [] = refl
all_alike p f h (x ∷ xs) = rw (h x, all_alike p f h xs) refl

fold_alike : {A : Type 0} (p : A → ℕ) (f : A → A) → ((x : A) → p (f x) ≡ p x) → (n : ℕ) (xs : List A) → fold (λ (a : ℕ) (x : A). a + p x) n (map f xs) ≡ fold (λ (a : ℕ) (x : A). a + p x) n xs
fold_alike p f h n [] = refl
fold_alike {A} p f h n (x ∷ xs) =
    ap (λ (m : ℕ). fold (λ (a : ℕ) (y : A). a + p y) m (map f xs)) (ap (λ (m : ℕ). n + m) (h x)) ∙ fold_alike p f h (n + p x) xs

pub sum_alike : {A : Type 0} (p : A → ℕ) (f : A → A) → ((x : A) → p (f x) ≡ p x) → (xs : List A) → sum_by p (map f xs) ≡ sum_by p xs
sum_alike p f h xs = fold_alike p f h 0 xs

pub flat_alike : {A B : Type 0} (p : A → List B) (f : A → A) → ((x : A) → p (f x) ≡ p x) → (xs : List A) → flat_map p (map f xs) ≡ flat_map p xs
flat_alike p f h [] = refl
flat_alike p f h (x ∷ xs) = rw (h x, flat_alike p f h xs) refl

-- ---- expressions and tests

pub expr_depth_alike : (e : Expr) → expr_depth (bare_expr e) ≡ expr_depth e
expr_depth_alike (expr.Const n) = refl
expr_depth_alike (expr.Arg k) = refl
expr_depth_alike (expr.Field a o w) = refl
expr_depth_alike (expr.Plus' p x q y) = rw (expr_depth_alike x, expr_depth_alike y) refl
expr_depth_alike (expr.And' p x q y) = rw (expr_depth_alike x, expr_depth_alike y) refl
expr_depth_alike (expr.Or' p x q y) = rw (expr_depth_alike x, expr_depth_alike y) refl

pub expr_nodes_alike : (e : Expr) → expr_nodes (bare_expr e) ≡ expr_nodes e
expr_nodes_alike (expr.Const n) = refl
expr_nodes_alike (expr.Arg k) = refl
expr_nodes_alike (expr.Field a o w) = refl
expr_nodes_alike (expr.Plus' p x q y) = rw (expr_nodes_alike x, expr_nodes_alike y) refl
expr_nodes_alike (expr.And' p x q y) = rw (expr_nodes_alike x, expr_nodes_alike y) refl
expr_nodes_alike (expr.Or' p x q y) = rw (expr_nodes_alike x, expr_nodes_alike y) refl

pub expr_uses_alike : (e : Expr) → expr_uses (bare_expr e) ≡ expr_uses e
expr_uses_alike (expr.Const n) = refl
expr_uses_alike (expr.Arg k) = refl
expr_uses_alike (expr.Field a o w) = refl
expr_uses_alike (expr.Plus' p x q y) = rw (expr_uses_alike x, expr_uses_alike y) refl
expr_uses_alike (expr.And' p x q y) = rw (expr_uses_alike x, expr_uses_alike y) refl
expr_uses_alike (expr.Or' p x q y) = rw (expr_uses_alike x, expr_uses_alike y) refl

pub test_depth_alike : (t : Test) → test_depth (bare_test t) ≡ test_depth t
test_depth_alike test.True = refl
test_depth_alike (test.Compare c x y) = rw (expr_depth_alike x, expr_depth_alike y) refl
test_depth_alike (test.HasBytes a n) = refl
test_depth_alike (test.Not' p x) = rw (test_depth_alike x) refl
test_depth_alike (test.All' p x q y) = rw (test_depth_alike x, test_depth_alike y) refl
test_depth_alike (test.Any' p x q y) = rw (test_depth_alike x, test_depth_alike y) refl

pub test_nodes_alike : (t : Test) → test_nodes (bare_test t) ≡ test_nodes t
test_nodes_alike test.True = refl
test_nodes_alike (test.Compare c x y) = rw (expr_nodes_alike x, expr_nodes_alike y) refl
test_nodes_alike (test.HasBytes a n) = refl
test_nodes_alike (test.Not' p x) = rw (test_nodes_alike x) refl
test_nodes_alike (test.All' p x q y) = rw (test_nodes_alike x, test_nodes_alike y) refl
test_nodes_alike (test.Any' p x q y) = rw (test_nodes_alike x, test_nodes_alike y) refl

pub test_uses_alike : (t : Test) → test_uses (bare_test t) ≡ test_uses t
test_uses_alike test.True = refl
test_uses_alike (test.Compare c x y) = rw (expr_uses_alike x, expr_uses_alike y) refl
test_uses_alike (test.HasBytes a n) = refl
test_uses_alike (test.Not' p x) = test_uses_alike x
test_uses_alike (test.All' p x q y) = rw (test_uses_alike x, test_uses_alike y) refl
test_uses_alike (test.Any' p x q y) = rw (test_uses_alike x, test_uses_alike y) refl

-- ---- parts and steps

pub part_deep_alike : (p : Part) → is_part_deep (bare_part p) ≡ is_part_deep p
part_deep_alike (part.Word e) = rw expr_depth_alike refl
part_deep_alike (part.Bytes a o) = refl

pub part_nodes_alike : (p : Part) → part_nodes (bare_part p) ≡ part_nodes p
part_nodes_alike (part.Word e) = rw expr_nodes_alike refl
part_nodes_alike (part.Bytes a o) = refl

pub part_uses_alike : (p : Part) → part_uses (bare_part p) ≡ part_uses p
part_uses_alike (part.Word e) = expr_uses_alike e
part_uses_alike (part.Bytes a o) = refl

pub step_deep_alike : (s : ActStep) → is_step_deep (bare_step s) ≡ is_step_deep s
step_deep_alike (step.Set a e) = rw expr_depth_alike refl
step_deep_alike (step.Send p a o) = refl
step_deep_alike (step.Result e) = rw expr_depth_alike refl
step_deep_alike (step.Up event parts) = any_alike is_part_deep bare_part part_deep_alike parts
step_deep_alike (step.Layer k event) = refl

pub step_nodes_alike : (s : ActStep) → step_nodes (bare_step s) ≡ step_nodes s
step_nodes_alike (step.Set a e) = rw expr_nodes_alike refl
step_nodes_alike (step.Send p a o) = refl
step_nodes_alike (step.Result e) = rw expr_nodes_alike refl
step_nodes_alike (step.Up event parts) = ap suc (sum_alike part_nodes bare_part part_nodes_alike parts)
step_nodes_alike (step.Layer k event) = refl

pub step_uses_alike : (s : ActStep) → step_uses (bare_step s) ≡ step_uses s
step_uses_alike (step.Set a e) = rw expr_uses_alike refl
step_uses_alike (step.Send p a o) = refl
step_uses_alike (step.Result e) = expr_uses_alike e
step_uses_alike (step.Up event parts) = flat_alike part_uses bare_part part_uses_alike parts
step_uses_alike (step.Layer k event) = refl

pub step_known_alike : (params : List Param) (s : ActStep) → is_step_known params (bare_step s) ≡ is_step_known params s
step_known_alike params s = ap (λ (us : List Use). list_all (is_known params) us) (step_uses_alike s)

pub step_right_alike : (params : List Param) (s : ActStep) → is_step_right params (bare_step s) ≡ is_step_right params s
step_right_alike params (step.Set a e) = ap (λ (us : List Use). list_all (is_right params) us) (step_uses_alike (step.Set a e))
step_right_alike params (step.Send p a o) = refl
step_right_alike params (step.Result e) = ap (λ (us : List Use). list_all (is_right params) us) (step_uses_alike (step.Result e))
step_right_alike params (step.Up event parts) = ap (λ (us : List Use). list_all (is_right params) us) (step_uses_alike (step.Up event parts))
step_right_alike params (step.Layer k event) = refl

pub sets_alike : (params : List Param) (s : ActStep) → sets_var params (bare_step s) ≡ sets_var params s
sets_alike params (step.Set a e) = refl
sets_alike params (step.Send p a o) = refl
sets_alike params (step.Result e) = refl
sets_alike params (step.Up event parts) = refl
sets_alike params (step.Layer k event) = refl

pub result_alike : (s : ActStep) → is_result (bare_step s) ≡ is_result s
result_alike (step.Set a e) = refl
result_alike (step.Send p a o) = refl
result_alike (step.Result e) = refl
result_alike (step.Up event parts) = refl
result_alike (step.Layer k event) = refl

-- ---- checks

pub act_check_alike : (steps : List ActStep) (sig : EventType) → act_check (record { steps = map bare_step steps }) sig ≡ act_check (record { steps = steps }) sig
act_check_alike steps sig =
    rw (
      any_alike is_step_deep bare_step step_deep_alike steps,
      sum_alike step_nodes bare_step step_nodes_alike steps,
      all_alike (is_step_known sig.params) bare_step (step_known_alike sig.params) steps,
      all_alike (is_step_right sig.params) bare_step (step_right_alike sig.params) steps,
      all_alike (sets_var sig.params) bare_step (sets_alike sig.params) steps,
      any_alike is_result bare_step result_alike steps,
    )
    refl

pub test_check_alike : (t : Test) (sig : EventType) → test_check (bare_test t) sig ≡ test_check t sig
test_check_alike t sig = rw (test_depth_alike t, test_nodes_alike t, test_uses_alike t) refl

pub merge_check_alike : (m : Merge) → merge_check (bare_merge m) ≡ merge_check m
merge_check_alike merge.Last = refl
merge_check_alike (merge.Fold e) = rw (expr_depth_alike e, expr_nodes_alike e, expr_uses_alike e) refl
