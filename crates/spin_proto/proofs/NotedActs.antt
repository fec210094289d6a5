-- An act that is done step by step, each noted at once.
use Rattle.std.proofs.Common.{◌≡◌, ℕ, List, ◌∷◌, ◌++◌, fold, Option}
use Rattle.std.specs.List.{flat_map}
use Rattle.spin_values.specs.declared.values.Value.{Value}
use Rattle.spin_code.specs.declared.act.ActStep.{ActStep}
use Rattle.spin_objects.specs.declared.item.Item.TheVariants as item
use Rattle.spin_objects.specs.Doing.{args_after, items_of, result_after, last_result}
use Rattle.spin_proto.specs.declared.walk.Upward.{Upward}
use Rattle.spin_proto.specs.declared.walk.Walk.{Walk}
use Rattle.spin_proto.specs.Whole.{marks_at, ups_of}
use Rattle.spin_proto.proofs.WalkLemmas.{Owes}

-- so many steps are done, and these are left
pub record Doing (event number : ℕ) (all rest : List ActStep) (args_0 args : List Value) (ups : List Upward) (last : Option ℕ) (w_0 w : Walk) : Type 0 where
  pub left : args_after rest args ≡ args_after all args_0
  pub noted : Owes (flat_map (marks_at event) (item.Ran number ∷ items_of all args_0)) (flat_map (marks_at event) (items_of rest args)) w_0 w
  pub kept : ups ++ ups_of (items_of rest args) ≡ ups_of (items_of all args_0)
  pub told : fold result_after last (items_of rest args) ≡ last_result (items_of all args_0)
