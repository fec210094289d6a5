-- One raise of one event: which bindings fire, what they give, and the answer.
use Rattle.std.specs.Prelude.{ℕ, ◌<◌, ◌≤◌, ◌==◌, Bool, true, false, not, ◌&&◌, if◌then◌else◌}
use Rattle.std.specs.Prelude.{List, [], ◌∷◌, length, fold, Option, Some, None}
use Rattle.std.specs.List.{All, flat_map}
use Rattle.spin_values.specs.declared.values.Value.{Value}
use Rattle.spin_values.specs.declared.values.Value.TheVariants as value
use Rattle.spin_code.specs.declared.act.Act.{Act}
use Rattle.spin_code.specs.declared.act.ActStep.{ActStep}
use Rattle.spin_code.specs.declared.test.Test.{Test}
use Rattle.spin_code.specs.declared.merge.Merge.{Merge}
use Rattle.spin_code.specs.declared.merge.Merge.TheVariants as merge
use Rattle.spin_code.specs.Value.{value_of}
use Rattle.spin_objects.specs.declared.item.Item.{Item}
use Rattle.spin_objects.specs.declared.item.Item.TheVariants as item
use Rattle.spin_objects.specs.declared.catalogue.Catalogue.{Catalogue}
use Rattle.spin_objects.specs.Doing.{args_after, items_of, last_result}
use Rattle.spin_objects.specs.Units.{acts_of, tests_of, act_at}
use Rattle.spin_place.specs.declared.binding.Binding.{Binding}
use Rattle.spin_word.specs.declared.command.Mode.{Mode}
use Rattle.spin_word.specs.declared.command.Mode.TheVariants as mode
use Rattle.spin_plan.specs.Next.{guards_hold, IsGuard}
use Rattle.spin_raise.specs.declared.bound.Bound as given
use Rattle.spin_raise.specs.declared.bound.Runner.{Runner}
use Rattle.spin_raise.specs.declared.bound.Runner.TheVariants as runner
use Rattle.spin_raise.specs.declared.answer.Answer.{Answer}
use Rattle.spin_raise.specs.declared.answer.Answer.TheVariants as answer

-- the handlers' acts and the guards' tests, both numbered from 1
pub record Units : Type 0 where
  pub acts : List Act
  pub tests : List Test

abbrev pub units_of : {A C E : Type 0} {B : A → Type 0} {D : C → Type 0} {F : E → Type 0}
    → Catalogue A C E B D F → Units
units_of c = record { acts = acts_of c; tests = tests_of c }

-- an event as a raise finds it: its bindings in order, how results are merged, and its default, 0 being none
pub record Bound : Type 0 where
  pub bindings : List Binding
  pub merge : Merge
  pub default : ℕ

-- an event with these bindings in order, this merge and this default
abbrev pub bound_of : List Binding → Merge → ℕ → Bound
bound_of bindings m default = record { bindings = bindings; merge = m; default = default }

-- the event that a raise is handed, so
abbrev pub as_found : given.Bound → Bound
as_found b = bound_of b.plan.now.bindings b.merge.now b.default

-- who does a raise: a job where it runs apart from its raiser
abbrev pub runner_of : Bool → Runner
runner_of true = runner.Job
runner_of false = runner.Raiser

-- a job does all itself, and a raiser leaves to jobs what is asynchronous
abbrev pub leaves_jobs : Runner → Bool
leaves_jobs runner.Raiser = true
leaves_jobs runner.Job = false

-- what fired: a handler that was done, whether its result is merged, what its act gave and the arguments that it left;
-- a job of these arguments; or the default
pub data Firing : Type 0 where
  Did : (number : ℕ) (merged : Bool) (given : List Item) (left : List Value) → Firing
  Apart : (number : ℕ) (args : List Value) → Firing
  ByDefault : (given : List Item) (left : List Value) → Firing

-- the steps of the handler of this number
abbrev pub steps_at : Units → ℕ → List ActStep
steps_at u handler = (act_at u.acts handler).steps

-- it runs apart from the raiser
abbrev pub is_async : Mode → Bool
is_async mode.Async = true
is_async m = false

-- a binding's act is done, or is left to a job where it is asynchronous and the raise isn't itself a job
abbrev pub firing_of : Runner → Units → Binding → List Value → Firing
firing_of by u b args =
    if is_async b.mode && leaves_jobs by
    then Apart b.number args
    else Did b.number (not (is_async b.mode)) (items_of (steps_at u b.handler) args)
    (args_after (steps_at u b.handler) args)

-- the arguments as a firing leaves them
abbrev pub left_by : Firing → List Value
left_by (Did number merged given left) = left
left_by (Apart number args) = args
left_by (ByDefault given left) = left

-- along the bindings: each fires where its guards hold on the arguments as they stand
abbrev pub firings : Runner → Units → List Binding → List Value → List Firing
firings by u [] args = []
firings by u (b ∷ bs) args =
    if guards_hold u.tests args b
    then firing_of by u b args ∷ firings by u bs (left_by (firing_of by u b args))
    else firings by u bs args

-- the default's act is done where nothing fired
abbrev pub or_default : Units → ℕ → List Value → List Firing → List Firing
or_default u default args [] =
    if default == 0
    then []
    else ByDefault (items_of (steps_at u default) args) (args_after (steps_at u default) args) ∷ []
or_default u default args (f ∷ fs) = f ∷ fs

-- all that fires in a raise
abbrev pub fired : Runner → Units → Bound → List Value → List Firing
fired by u e args = or_default u e.default args (firings by u e.bindings args)

-- what a firing gives, under its number
abbrev pub items_by : Firing → List Item
items_by (Did number merged given left) = item.Ran number ∷ given
items_by (Apart number args) = item.Job number args ∷ []
items_by (ByDefault given left) = item.Ran 0 ∷ given

-- a list of that number, or the empty list where there is none
abbrev pub one_if : Option ℕ → List ℕ
one_if None = []
one_if (Some n) = n ∷ []

-- the result that a firing adds to the merge, if it gave one
abbrev pub merged_by : Firing → List ℕ
merged_by (Did number true given left) = one_if (last_result given)
merged_by (Did number false given left) = []
merged_by (Apart number args) = []
merged_by (ByDefault given left) = []

-- the merge so far and the next result
abbrev pub combine : Merge → ℕ → ℕ → ℕ
combine merge.Last so_far next = next
combine (merge.Fold e) so_far next = value_of e (value.Word so_far ∷ value.Word next ∷ [])

-- the answer where these results are merged: done where there is none, else their merge, from the first on
abbrev pub answer_of_results : Merge → List ℕ → Answer
answer_of_results m [] = answer.Done
answer_of_results m (n ∷ ns) = answer.Value (fold (combine m) n ns)

-- no handler where nothing fired; the default with its result, if any; else what the merged results come to
abbrev pub answer_of : Merge → List Firing → Answer
answer_of m [] = answer.NoHandler
answer_of m (ByDefault given left ∷ fs) = answer.Default (last_result given)
answer_of m (f ∷ fs) = answer_of_results m (flat_map merged_by (f ∷ fs))

-- the arguments after a raise
abbrev pub args_left : List Value → List Firing → List Value
args_left args fs = fold (λ before f. left_by f) args fs

abbrev pub IsHandler : ℕ → Binding → Type 0
IsHandler count b = (0 < b.handler) × (b.handler ≤ count)

-- the handlers and guards that an event names are there
pub record IsThere (u : Units) (e : Bound) : Type 0 where
  pub handlers : All (IsHandler (length u.acts)) e.bindings
  pub default : e.default ≤ length u.acts
  pub own : All (λ b. b.own_guard ≤ length u.tests) e.bindings
  pub imposed : All (λ b. All (IsGuard (length u.tests)) b.imposed) e.bindings
