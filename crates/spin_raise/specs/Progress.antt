-- A raise under way.
use Rattle.std.specs.Prelude.{ℕ, ◌≡◌, ◌++◌, Bool, true, false, List, [], ◌∷◌, drop, Option}
use Rattle.std.specs.Prelude.{Some, None}
use Rattle.spin_code.specs.declared.merge.Merge.{Merge}
use Rattle.spin_objects.specs.declared.item.Item.{Item}
use Rattle.spin_objects.specs.Doing.{last_result}
use Rattle.spin_raise.specs.declared.answer.Answer.{Answer}
use Rattle.spin_raise.specs.declared.answer.Answer.TheVariants as answer
use Rattle.spin_raise.specs.declared.bound.Runner.{Runner}
use Rattle.spin_raise.specs.declared.stepping.Progress.{Progress}
use Rattle.spin_raise.specs.declared.stepping.Stepped.{Stepped}
use Rattle.spin_raise.specs.declared.stepping.Stepped.TheVariants as stepped
use Rattle.spin_raise.specs.Firing.{Units, Bound, Firing, Did, Apart, ByDefault, firings}
use Rattle.spin_raise.specs.Firing.{or_default, items_by, left_by, combine}

abbrev pub default_now : Answer → ℕ → ℕ
default_now answer.NoHandler default = default
default_now a default = 0

-- what is still to fire where a raise stands
abbrev pub to_come : Runner → Units → Bound → Progress → List Firing
to_come by u e p =
    or_default u (default_now p.answer e.default) p.args
    (firings by u (drop p.from e.bindings) p.args)

-- some handler ran, with no result yet
abbrev pub ran : Answer → Answer
ran answer.NoHandler = answer.Done
ran a = a

abbrev pub with_result : Merge → Answer → Option ℕ → Answer
with_result m a None = ran a
with_result m (answer.Value n) (Some next) = answer.Value (combine m n next)
with_result m a (Some next) = answer.Value next

-- the answer so far, after one more firing
abbrev pub answer_after : Merge → Answer → Firing → Answer
answer_after m a (Did number true given left) = with_result m a (last_result given)
answer_after m a (Did number false given left) = ran a
answer_after m a (Apart number args) = ran a
answer_after m a (ByDefault given left) = answer.Default (last_result given)

-- one firing was done
pub record IsFired (m : Merge) (f : Firing) (p p' : Progress) (out out' : List Item) : Type 0 where
  pub items : out' ≡ out ++ items_by f
  pub so_far : p'.answer ≡ answer_after m p.answer f
  pub left : p'.args ≡ left_by f

-- nothing was done
abbrev pub IsIdle : Progress → Progress → List Item → List Item → Type 0
IsIdle p p' out out' = (p' ≡ p) × (out' ≡ out)

-- one step of a raise, by what was to come before and what is to come after it: what is next fires where there is room
-- for it, and else nothing is done
abbrev pub IsStep : Merge → Bool → Stepped → List Firing → List Firing
    → Progress → Progress → List Item → List Item → Type 0
IsStep m room stepped.End before after p p' out out' = (before ≡ []) × IsIdle p p' out out'
IsStep m room stepped.Full [] after p p' out out' = ⊥
IsStep m room stepped.Full (f ∷ fs) after p p' out out' =
    (room ≡ false) × (after ≡ f ∷ fs) × IsIdle p p' out out'
IsStep m room stepped.Ran [] after p p' out out' = ⊥
IsStep m room stepped.Ran (f ∷ fs) after p p' out out' =
    (room ≡ true) × (after ≡ fs) × IsFired m f p p' out out'
