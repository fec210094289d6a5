-- How often an argument or a field stands in what bindings require is how many bindings require it.
use Rattle.std.proofs.Common.{◌≡◌, ℕ, ◌+◌, ◌-◌, Bool, true, false, ◌&&◌, ◌||◌, ◌==◌, List, [], ◌∷◌, ◌++◌, Option, Some, None, is_some, refl, sym, ap, subst, ◌∙◌, arith, cond, slice_get, fold}
use Rattle.std.specs.List.{list_all, flat_map}
use Rattle.std.specs.Option.{option_or, option_and_then}
use Rattle.std.proofs.lemmas.Bool.{false≢true}
use Rattle.std.proofs.lemmas.List.Folds.{list_any-append, list_all-append}
use Rattle.std.proofs.lemmas.List.Sums.{sum_by-append, sum_by-cons}
use Rattle.spin_code.specs.declared.expr.Expr.{Expr}
use Rattle.spin_code.specs.declared.expr.Expr.TheVariants.{Const, Arg, Field, Plus', And', Or'}
use Rattle.spin_code.specs.declared.test.Cmp.TheVariants.{Eq, Ne, Lt, Le}
use Rattle.spin_code.specs.declared.test.Test.{Test}
use Rattle.spin_code.specs.declared.test.Test.TheVariants.{True, Compare, HasBytes, Not', All', Any'}
use Rattle.spin_code.specs.Required.{is_same_read, constant_beside, required_by}
use Rattle.spin_code.proofs.Requirements.{same_is, first_of_both, second_of_both}
use Rattle.spin_place.specs.declared.binding.Binding.{Binding}
use Rattle.spin_plan.specs.Keys.{guard_requires, first_required, binding_requires, requiring}
use Rattle.spin_plan.specs.Inner.Reads.{is_read, is_constant, reads_beside, reads_of, reads_if, guard_reads, has_read, with_read, binding_reads, times_in}

some_cond : (b : Bool) (c : ℕ) → is_some (cond b (Some c) None) ≡ (b || false)
some_cond true c = refl
some_cond false c = refl

some_or : (a b : Option ℕ) → is_some (option_or a b) ≡ (is_some a || is_some b)
some_or None b = refl
some_or (Some n) b = refl

beside : (d b e : Expr) → is_some (constant_beside d b e) ≡ has_read (reads_beside d b) e
beside (Const n) (Const c) e = refl
beside (Arg a) (Const c) e = some_cond (is_same_read (Arg a) e) c
beside (Field a o w) (Const c) e = some_cond (is_same_read (Field a o w) e) c
beside (Plus' p a q b) (Const c) e = refl
beside (And' p a q b) (Const c) e = refl
beside (Or' p a q b) (Const c) e = refl
beside d (Arg a) e = refl
beside d (Field a o w) e = refl
beside d (Plus' p a q b) e = refl
beside d (And' p a q b) e = refl
beside d (Or' p a q b) e = refl

of_test : (t : Test) (e : Expr) → is_some (required_by t e) ≡ has_read (reads_of t) e
of_test True e = refl
of_test (Compare Eq a b) e =
    some_or (constant_beside a b e) (constant_beside b a e)
    ∙ ap (λ t. t || is_some (constant_beside b a e)) (beside a b e)
    ∙ ap (λ t. has_read (reads_beside a b) e || t) (beside b a e)
    ∙ sym (list_any-append (λ d. is_same_read d e) (reads_beside a b) (reads_beside b a))
of_test (Compare Ne a b) e = refl
of_test (Compare Lt a b) e = refl
of_test (Compare Le a b) e = refl
of_test (HasBytes a n) e = refl
of_test (Not' p t) e = refl
of_test (All' p a q b) e =
    some_or (required_by a e) (required_by b e)
    ∙ ap (λ t. t || is_some (required_by b e)) (of_test a e)
    ∙ ap (λ t. has_read (reads_of a) e || t) (of_test b e)
    ∙ sym (list_any-append (λ d. is_same_read d e) (reads_of a) (reads_of b))
of_test (Any' p a q b) e = refl

of_guard : (tests : List Test) (e : Expr) (guard : ℕ) → is_some (guard_requires tests e guard) ≡ has_read (guard_reads tests guard) e
of_guard tests e guard = by_number (guard == 0) (slice_get tests (guard - 1))
  where
    by_number : (none : Bool) (o : Option Test) → is_some (cond none None (option_and_then (λ t. required_by t e) o)) ≡ has_read (cond none [] (reads_if o)) e
    by_number true o = refl
    by_number false None = refl
    by_number false (Some t) = of_test t e

of_guards : (tests : List Test) (e : Expr) (guards : List ℕ) → is_some (first_required tests e guards) ≡ has_read (flat_map (guard_reads tests) guards) e
of_guards tests e [] = refl
of_guards tests e (guard ∷ guards) =
    some_or (guard_requires tests e guard) (first_required tests e guards)
    ∙ ap (λ t. t || is_some (first_required tests e guards)) (of_guard tests e guard)
    ∙ ap (λ t. has_read (guard_reads tests guard) e || t) (of_guards tests e guards)
    ∙ sym (list_any-append (λ d. is_same_read d e) (guard_reads tests guard) (flat_map (guard_reads tests) guards))

-- ---- each once

pub times_push : (es : List Expr) (x e : Expr) → times_in (es ++ x ∷ []) e ≡ times_in es e + cond (is_same_read x e) 1 0
times_push es x e =
    sum_by-append (λ d. cond (is_same_read d e) 1 0) es (x ∷ [])
    ∙ ap (λ n. times_in es e + n) (sum_by-cons (λ d. cond (is_same_read d e) 1 0) x [] ∙ omega arith)

has_push : (es : List Expr) (x e : Expr) → has_read (es ++ x ∷ []) e ≡ (has_read es e || is_same_read x e)
has_push es x e = list_any-append (λ d. is_same_read d e) es (x ∷ []) ∙ ap (λ t. has_read es e || t) (or_false (is_same_read x e))
  where
    or_false : (b : Bool) → (b || false) ≡ b
    or_false true = refl
    or_false false = refl

or_assoc : (a b c : Bool) → ((a || b) || c) ≡ (a || (b || c))
or_assoc true b c = refl
or_assoc false b c = refl

or_absorb : (a b c : Bool) → (b ≡ true → a ≡ true) → (a || (b || c)) ≡ (a || c)
or_absorb true b c h = refl
or_absorb false true c h = absurd (false≢true (h refl))
or_absorb false false c h = refl

module _ (e : Expr) where
  -- it stands there once or not at all
  IsOnce : List Expr → Type 0
  IsOnce es = times_in es e ≡ cond (has_read es e) 1 0

  with_once : (es : List Expr) (x : Expr) → IsOnce es → IsOnce (with_read es x)
  unfolding IsOnce
  with_once es x once = by_there (has_read es x) refl
    where
      by_same : has_read es x ≡ false → (b : Bool) → is_same_read x e ≡ b → times_in es e + cond b 1 0 ≡ cond (has_read es e || b) 1 0
      by_same out true is =
          let same = same_is x e is in
          let none : has_read es e ≡ false = subst (λ d. has_read es d ≡ false) same out in
          ap (λ n. n + 1) (once ∙ ap (λ b. cond b 1 0) none) ∙ sym (ap (λ b. cond (b || true) 1 0) none)
      by_same out false is = omega (arith, once) ∙ ap (λ b. cond b 1 0) (sym (or_false (has_read es e)))
        where
          or_false : (b : Bool) → (b || false) ≡ b
          or_false true = refl
          or_false false = refl

      by_there : (b : Bool) → has_read es x ≡ b → times_in (cond b es (es ++ x ∷ [])) e ≡ cond (has_read (cond b es (es ++ x ∷ [])) e) 1 0
      by_there true is = once
      by_there false is =
          times_push es x e
          ∙ by_same is (is_same_read x e) refl
          ∙ ap (λ b. cond b 1 0) (sym (has_push es x e))

  with_has : (es : List Expr) (x : Expr) → has_read (with_read es x) e ≡ (has_read es e || is_same_read x e)
  with_has es x = by_there (has_read es x) refl
    where
      by_there : (b : Bool) → has_read es x ≡ b → has_read (cond b es (es ++ x ∷ [])) e ≡ (has_read es e || is_same_read x e)
      by_there true is = sym (or_absorb (has_read es e) (is_same_read x e) false (λ same. subst (λ d. has_read es d ≡ true) (same_is x e same) is) ∙ or_false (has_read es e))
          ∙ ap (λ t. has_read es e || t) (or_false (is_same_read x e))
        where
          or_false : (b : Bool) → (b || false) ≡ b
          or_false true = refl
          or_false false = refl
      by_there false is = has_push es x e

  fold_once : (es xs : List Expr) → IsOnce es → IsOnce (fold with_read es xs)
  fold_once es [] once = once
  fold_once es (x ∷ xs) once = fold_once (with_read es x) xs (with_once es x once)

  fold_has : (es xs : List Expr) → has_read (fold with_read es xs) e ≡ (has_read es e || has_read xs e)
  fold_has es [] = sym (or_false (has_read es e))
    where
      or_false : (b : Bool) → (b || false) ≡ b
      or_false true = refl
      or_false false = refl
  fold_has es (x ∷ xs) =
      fold_has (with_read es x) xs
      ∙ ap (λ t. t || has_read xs e) (with_has es x)
      ∙ or_assoc (has_read es e) (is_same_read x e) (has_read xs e)

  of_binding : (tests : List Test) (b : Binding) → times_in (binding_reads tests b) e ≡ cond (is_some (binding_requires tests e b)) 1 0
  unfolding IsOnce
  of_binding tests b =
      let xs = flat_map (guard_reads tests) (b.own_guard ∷ b.imposed) in
      fold_once [] xs refl
      ∙ ap (λ t. cond t 1 0) (fold_has [] xs ∙ sym (of_guards tests e (b.own_guard ∷ b.imposed)))

  pub of_all : (tests : List Test) (bs : List Binding) → times_in (flat_map (binding_reads tests) bs) e ≡ requiring tests bs e
  of_all tests [] = refl
  of_all tests (b ∷ bs) =
      sum_by-append (λ d. cond (is_same_read d e) 1 0) (binding_reads tests b) (flat_map (binding_reads tests) bs)
      ∙ ap (λ n. n + times_in (flat_map (binding_reads tests) bs) e) (of_binding tests b)
      ∙ ap (λ n. cond (is_some (binding_requires tests e b)) 1 0 + n) (of_all tests bs)
      ∙ sym (sum_by-cons (λ x. cond (is_some (binding_requires tests e x)) 1 0) b bs)

-- ---- each is an argument or a field

true_and : (a b : Bool) → a ≡ true → b ≡ true → (a && b) ≡ true
true_and true b h g = g
true_and false b h g = absurd cc

joined : (xs ys : List Expr) → list_all is_read xs ≡ true → list_all is_read ys ≡ true → list_all is_read (xs ++ ys) ≡ true
joined xs ys h g = list_all-append is_read xs ys ∙ true_and (list_all is_read xs) (list_all is_read ys) h g

beside_are : (d e : Expr) → list_all is_read (reads_beside d e) ≡ true
beside_are d e = by_constant (is_constant e) (is_read d) refl
  where
    by_constant : (b c : Bool) → is_read d ≡ c → list_all is_read (cond (b && c) (d ∷ []) []) ≡ true
    by_constant true true is = ap (λ t. t && true) is
    by_constant true false is = refl
    by_constant false c is = refl

test_are : (t : Test) → list_all is_read (reads_of t) ≡ true
test_are True = refl
test_are (Compare Eq a b) = joined (reads_beside a b) (reads_beside b a) (beside_are a b) (beside_are b a)
test_are (Compare Ne a b) = refl
test_are (Compare Lt a b) = refl
test_are (Compare Le a b) = refl
test_are (HasBytes a n) = refl
test_are (Not' p t) = refl
test_are (All' p a q b) = joined (reads_of a) (reads_of b) (test_are a) (test_are b)
test_are (Any' p a q b) = refl

guard_are : (tests : List Test) (guard : ℕ) → list_all is_read (guard_reads tests guard) ≡ true
guard_are tests guard = by_number (guard == 0) (slice_get tests (guard - 1))
  where
    by_number : (none : Bool) (o : Option Test) → list_all is_read (cond none [] (reads_if o)) ≡ true
    by_number true o = refl
    by_number false None = refl
    by_number false (Some t) = test_are t

guards_are : (tests : List Test) (guards : List ℕ) → list_all is_read (flat_map (guard_reads tests) guards) ≡ true
guards_are tests [] = refl
guards_are tests (guard ∷ guards) = joined (guard_reads tests guard) (flat_map (guard_reads tests) guards) (guard_are tests guard) (guards_are tests guards)

with_are : (es : List Expr) (x : Expr) → list_all is_read es ≡ true → is_read x ≡ true → list_all is_read (with_read es x) ≡ true
with_are es x h is = by_there (has_read es x)
  where
    by_there : (b : Bool) → list_all is_read (cond b es (es ++ x ∷ [])) ≡ true
    by_there true = h
    by_there false = joined es (x ∷ []) h (ap (λ t. t && true) is)

fold_are : (es xs : List Expr) → list_all is_read es ≡ true → list_all is_read xs ≡ true → list_all is_read (fold with_read es xs) ≡ true
fold_are es [] h g = h
fold_are es (x ∷ xs) h g = fold_are (with_read es x) xs (with_are es x h (first_of_both (is_read x) (list_all is_read xs) g)) (second_of_both (is_read x) (list_all is_read xs) g)

pub all_are : (tests : List Test) (bs : List Binding) → list_all is_read (flat_map (binding_reads tests) bs) ≡ true
all_are tests [] = refl
all_are tests (b ∷ bs) =
    joined (binding_reads tests b) (flat_map (binding_reads tests) bs)
    (fold_are [] (flat_map (guard_reads tests) (b.own_guard ∷ b.imposed)) refl (guards_are tests (b.own_guard ∷ b.imposed)))
    (all_are tests bs)
