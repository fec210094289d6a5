-- A turn of a raise: one firing, whose items are noted as they are given.
use Rattle.std.specs.Prelude.{ℕ, ◌<◌, ◌≡◌, true, List, [], ◌∷◌, ◌++◌, fold, Option, Some, None}
use Rattle.std.specs.List.{flat_map}
use Rattle.spin_values.specs.declared.values.Value.{Value}
use Rattle.spin_code.specs.declared.act.ActStep.{ActStep}
use Rattle.spin_code.specs.declared.merge.Merge.{Merge}
use Rattle.spin_objects.specs.declared.item.Item.{Item}
use Rattle.spin_objects.specs.Doing.{step_args, step_items, result_after}
use Rattle.spin_raise.specs.declared.stepping.Progress.{Progress}
use Rattle.spin_raise.specs.declared.stepping.Stepped.{Stepped}
use Rattle.spin_raise.specs.declared.stepping.Stepped.TheVariants as stepped
use Rattle.spin_raise.specs.Firing.{Firing, items_by, left_by, merged_by, one_if}
use Rattle.spin_raise.specs.Progress.{IsStep}
use Rattle.spin_proto.specs.declared.walk.Upward.{Upward}
use Rattle.spin_proto.specs.declared.walk.Walk.{Walk}
use Rattle.spin_proto.specs.Whole.{marks_at, ups_of, starts}
use Rattle.spin_proto.specs.Inner.Walks.{Gained, Notes}

-- a step of an act was done and noted, and the act's result so far is told; or it has more starts than were left
abbrev pub IsStepNoted : Option (Option ℕ) → ActStep → ℕ → Option ℕ → (args args' : List Value)
    → (ups ups' : List Upward) → Walk → Walk → Type 0
IsStepNoted None s event last args args' ups ups' w w' =
    w.left < starts (flat_map (marks_at event) (step_items s args))
IsStepNoted (Some word) s event last args args' ups ups' w w' =
    (word ≡ fold result_after last (step_items s args))
    × (args' ≡ step_args s args)
    × (ups' ≡ ups ++ ups_of (step_items s args))
    × Gained (flat_map (marks_at event) (step_items s args)) w w'

-- a firing was done and noted, and the result that it adds to the merge is told; or it has more starts than were left
abbrev pub IsNoted : Option (Option ℕ) → ℕ → Firing → List Value → List Upward → Walk → Walk → Type 0
IsNoted None event f args ups w w' = w.left < starts (flat_map (marks_at event) (items_by f))
IsNoted (Some word) event f args ups w w' =
    (merged_by f ≡ one_if word) × (args ≡ left_by f) × Notes true ups event (items_by f) w w'

-- what comes first has more starts than were left
abbrev pub IsShort : ℕ → List Firing → Walk → Type 0
IsShort event [] w = ⊥
IsShort event (f ∷ fs) w = w.left < starts (flat_map (marks_at event) (items_by f))

-- one turn, by what was to come before it and what is to come after
abbrev pub IsTurn : Merge → ℕ → Stepped → List Firing → List Firing → Progress → Progress
    → List Upward → Walk → Walk → Type 0
IsTurn m event stepped.End before after p p' ups w w' =
    (before ≡ []) × (p' ≡ p) × (ups ≡ []) × (w' ≡ w)
IsTurn m event stepped.Full before after p p' ups w w' = IsShort event before w
IsTurn m event stepped.Ran before after p p' ups w w' =
    (given : List Item) × IsStep m true stepped.Ran before after p p' [] given × Notes true ups event given w w'
