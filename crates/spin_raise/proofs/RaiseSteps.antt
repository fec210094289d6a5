-- One step of a raise, by what is to come.
use Rattle.std.proofs.Common.{◌≡◌, ℕ, suc, ◌+◌, Bool, true, false, not, ◌&&◌, cond, List, [], ◌∷◌, length, drop}
use Rattle.std.proofs.Common.{slice_get, Option, Some, None, IsSomeAnd, refl, sym, ap, subst, ◌∙◌, add-one, arith, ◌==◌}
use Rattle.std.specs.List.{All}
use Rattle.std.proofs.lemmas.Option.{get_or_from_slice_get, slice_get_within}
use Rattle.spin_values.specs.declared.values.Value.{Value}
use Rattle.spin_code.specs.declared.merge.Merge.{Merge}
use Rattle.spin_objects.specs.declared.item.Item.{Item}
use Rattle.spin_objects.specs.Doing.{args_after, items_of, last_result}
use Rattle.spin_place.specs.declared.binding.Binding.{Binding}
use Rattle.spin_plan.specs.Next.{guards_hold, IsNext}
use Rattle.spin_raise.specs.declared.answer.Answer.{Answer}
use Rattle.spin_raise.specs.declared.bound.Runner.{Runner}
use Rattle.spin_raise.specs.declared.answer.Answer.TheVariants as answer
use Rattle.spin_raise.specs.declared.stepping.Progress.{Progress}
use Rattle.spin_raise.specs.declared.stepping.Stepped.TheVariants as stepped
use Rattle.spin_raise.specs.Firing.{Units, Bound, Firing, Did, Apart, ByDefault, steps_at, is_async, leaves_jobs, firing_of, firings, or_default, left_by, merged_by, one_if}
use Rattle.spin_raise.specs.Progress.{default_now, to_come, ran, with_result, answer_after, IsFired, IsIdle, IsStep}
use Rattle.spin_raise.proofs.HandlerWalk.{firings_skip, firings_end, firings_here}

pub all_here : (P : Binding → Type 0) (xs : List Binding) (at : ℕ) (b : Binding) → All P xs → slice_get xs at ≡ Some b → P b
all_here P xs at b h there = subst P (get_or_from_slice_get xs at b b there) (h at b (slice_get_within xs at b there))

some_here : (P : Binding → Type 0) (o : Option Binding) (b : Binding) → IsSomeAnd o P → o ≡ Some b → P b
some_here P o b h e = let Q : Option Binding → Type 0 = λ o. IsSomeAnd o P in subst Q e h

no_default : (u : Units) (args : List Value) (fs : List Firing) → or_default u 0 args fs ≡ fs
no_default u args [] = refl
no_default u args (f ∷ fs) = refl

after_ran : (a : Answer) (d : ℕ) → default_now (ran a) d ≡ 0
after_ran (answer.Value n) d = refl
after_ran answer.Done d = refl
after_ran (answer.Default o) d = refl
after_ran answer.NoHandler d = refl

after_result : (m : Merge) (a : Answer) (o : Option ℕ) (d : ℕ) → default_now (with_result m a o) d ≡ 0
after_result m a None d = after_ran a d
after_result m (answer.Value n) (Some next) d = refl
after_result m answer.Done (Some next) d = refl
after_result m (answer.Default o) (Some next) d = refl
after_result m answer.NoHandler (Some next) d = refl

-- once something fired, no default is next
pub after_firing : (m : Merge) (a : Answer) (f : Firing) (d : ℕ) → default_now (answer_after m a f) d ≡ 0
after_firing m a (Did n true given left) d = after_result m a (last_result given) d
after_firing m a (Did n false given left) d = after_ran a d
after_firing m a (Apart n args) d = after_ran a d
after_firing m a (ByDefault given left) d = refl

pub is_full : (m : Merge) (room : Bool) (before after : List Firing) (f : Firing) (fs : List Firing) (p p' : Progress) (out out' : List Item)
    → before ≡ f ∷ fs → room ≡ false → after ≡ f ∷ fs → IsIdle p p' out out' → IsStep m room stepped.Full before after p p' out out'
is_full m room before after f fs p p' out out' e h same idle =
    let P : List Firing → Type 0 = λ xs. IsStep m room stepped.Full xs after p p' out out' in
    subst P (sym e) (h, same, idle)

pub is_ran : (m : Merge) (room : Bool) (before after : List Firing) (f : Firing) (fs : List Firing) (p p' : Progress) (out out' : List Item)
    → before ≡ f ∷ fs → room ≡ true → after ≡ fs → IsFired m f p p' out out' → IsStep m room stepped.Ran before after p p' out out'
is_ran m room before after f fs p p' out out' e h rest fired =
    let P : List Firing → Type 0 = λ xs. IsStep m room stepped.Ran xs after p p' out out' in
    subst P (sym e) (h, rest, fired)

-- the answer after a firing, by the result that is merged
one_same : (o w : Option ℕ) → one_if o ≡ one_if w → w ≡ o
one_same None None e = refl
one_same None (Some n) e = cc
one_same (Some m) None e = cc
one_same (Some m) (Some n) e = cc

pub merged_after : (m : Merge) (a : Answer) (by : Runner) (u : Units) (b : Binding) (args : List Value) (w : Option ℕ)
    → merged_by (firing_of by u b args) ≡ one_if w → with_result m a w ≡ answer_after m a (firing_of by u b args)
merged_after m a by u b args w = choose (is_async b.mode) (leaves_jobs by)
  where
    choose : (t s : Bool) → merged_by (cond (t && s) (Apart b.number args) (Did b.number (not t) (items_of (steps_at u b.handler) args) (args_after (steps_at u b.handler) args))) ≡ one_if w
        → with_result m a w ≡ answer_after m a (cond (t && s) (Apart b.number args) (Did b.number (not t) (items_of (steps_at u b.handler) args) (args_after (steps_at u b.handler) args)))
    choose true true e = ap (with_result m a) (one_same None w e)
    choose true false e = ap (with_result m a) (one_same None w e)
    choose false s e = ap (with_result m a) (one_same (last_result (items_of (steps_at u b.handler) args)) w e)

-- a binding fires
pub comes_binding : (by : Runner) (u : Units) (e : Bound) (p : Progress) (at : ℕ) (b : Binding) → IsNext (guards_hold u.tests p.args) e.bindings p.from (Some at)
    → slice_get e.bindings at ≡ Some b → to_come by u e p ≡ firing_of by u b p.args ∷ firings by u (drop (suc at) e.bindings) (left_by (firing_of by u b p.args))
comes_binding by u e p at b next there =
    ap (λ fs. or_default u (default_now p.answer e.default) p.args fs)
    (firings_skip by u e.bindings p.args p.from at next.0 next.2
    ∙ firings_here by u e.bindings b p.args at there (some_here (λ b. guards_hold u.tests p.args b ≡ true) (slice_get e.bindings at) b next.1 there))

-- what is to come after it
pub comes_after : (by : Runner) (u : Units) (e : Bound) (m : Merge) (a a' : Answer) (f : Firing) (args' : List Value) (at : ℕ) → a' ≡ answer_after m a f
    → args' ≡ left_by f → to_come by u e record { from = at + 1; answer = a'; args = args' } ≡ firings by u (drop (suc at) e.bindings) (left_by f)
comes_after by u e m a a' f args' at ea eargs =
    ap (λ d. or_default u d args' (firings by u (drop (at + 1) e.bindings) args')) (ap (λ x. default_now x e.default) ea ∙ after_firing m a f e.default)
    ∙ no_default u args' (firings by u (drop (at + 1) e.bindings) args')
    ∙ ap (λ n. firings by u (drop n e.bindings) args') (add-one at)
    ∙ ap (λ xs. firings by u (drop (suc at) e.bindings) xs) eargs

-- nothing is to come
pub comes_nothing : (by : Runner) (u : Units) (e : Bound) (p : Progress) (d : ℕ)
    → IsNext (guards_hold u.tests p.args) e.bindings p.from None → d ≡ default_now p.answer e.default → d ≡ 0 → to_come by u e p ≡ []
comes_nothing by u e p d next is at_0 =
    ap (λ fs. or_default u (default_now p.answer e.default) p.args fs) (firings_end by u e.bindings p.args p.from next)
    ∙ ap (λ d. or_default u d p.args []) (sym is ∙ at_0)

-- the default is to come
pub comes_default : (by : Runner) (u : Units) (e : Bound) (p : Progress) (d : ℕ) → IsNext (guards_hold u.tests p.args) e.bindings p.from None
    → d ≡ default_now p.answer e.default → (d == 0) ≡ false → to_come by u e p ≡ ByDefault (items_of (steps_at u d) p.args) (args_after (steps_at u d) p.args) ∷ []
comes_default by u e p d next is some =
    ap (λ fs. or_default u (default_now p.answer e.default) p.args fs) (firings_end by u e.bindings p.args p.from next)
    ∙ ap (λ d. or_default u d p.args []) (sym is)
    ∙ ap (λ t. cond t [] (ByDefault (items_of (steps_at u d) p.args) (args_after (steps_at u d) p.args) ∷ [])) some

-- nothing is to come at the end of the plan, once the answer is there
pub comes_no_more : (by : Runner) (u : Units) (e : Bound) (from : ℕ) (o : Option ℕ) (args : List Value)
    → from ≡ length e.bindings → to_come by u e record { from = from; answer = answer.Default o; args = args } ≡ []
comes_no_more by u e from o args is =
    no_default u args (firings by u (drop from e.bindings) args)
    ∙ ap (λ n. firings by u (drop n e.bindings) args) is
    ∙ firings_end by u e.bindings args (length e.bindings) (λ k low high. absurd (omega (arith, low, high)))
