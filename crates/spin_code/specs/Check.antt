-- What is wrong with a test, an act or a merge: the first of a list of faults with their conditions.
use Rattle.std.specs.Prelude.{ℕ, Bool, true, false, not, ◌&&◌, List, [], ◌∷◌, Option}
use Rattle.std.specs.Prelude.{Some, None, Result, Ok, nat_lt, slice_get, sum_by}
use Rattle.std.specs.List.{list_all, list_any}
use Rattle.spin_values.specs.First.{unless}
use Rattle.spin_values.specs.declared.types.Kind.TheVariants as kind
use Rattle.spin_values.specs.declared.types.Param.{Param}
use Rattle.spin_values.specs.declared.types.EventType.{EventType}
use Rattle.spin_code.specs.declared.test.Test.{Test}
use Rattle.spin_code.specs.declared.act.Act.{Act}
use Rattle.spin_code.specs.declared.act.ActStep.{ActStep}
use Rattle.spin_code.specs.declared.act.ActStep.TheVariants as step
use Rattle.spin_code.specs.declared.merge.Merge.{Merge}
use Rattle.spin_code.specs.declared.merge.Merge.TheVariants.{Last, Fold}
use Rattle.spin_code.specs.declared.check.ActFault.{ActFault}
use Rattle.spin_code.specs.declared.check.ActFault.TheVariants.{TooDeep, TooLong, BadArg, BadKind, NotVar, NoResult}
use Rattle.spin_code.specs.declared.depth.TheConstants.{MAX_DEPTH}
use Rattle.spin_code.specs.declared.nodes.TheConstants.{MAX_NODES}
use Rattle.spin_code.specs.Size.{expr_depth, expr_nodes, test_depth, test_nodes, is_step_deep, step_nodes}
use Rattle.spin_code.specs.Uses.{Use, expr_uses, test_uses, is_known, is_right, is_step_known, is_step_right}

-- the faults of what has this depth, these nodes and these uses
abbrev pub faults : List Param → ℕ → ℕ → List Use → List (Bool × ActFault)
faults params depth nodes uses =
    (nat_lt MAX_DEPTH depth, TooDeep)
    ∷ (nat_lt MAX_NODES nodes, TooLong)
    ∷ (not (list_all (is_known params) uses), BadArg)
    ∷ (not (list_all (is_right params) uses), BadKind)
    ∷ []

-- the first fault of a test that is asked of these parameters, if it has one
abbrev pub test_check : Test → EventType → Result (Unit {0}) ActFault
test_check t sig = unless (faults sig.params (test_depth t) (test_nodes t) (test_uses t)) tt

-- the parameters of a fold: the merge so far and the next result
abbrev pub two_words : List Param
two_words = record { kind = kind.Word; var = false } ∷ record { kind = kind.Word; var = false } ∷ []

-- the first fault of a merge, if it has one: a fold is an expression of two words, and `last` has no fault
abbrev pub merge_check : Merge → Result (Unit {0}) ActFault
merge_check Last = Ok tt
merge_check (Fold e) = unless (faults two_words (expr_depth e) (expr_nodes e) (expr_uses e)) tt

-- the parameter is there and may be changed
abbrev pub is_var : Option Param → Bool
is_var None = false
is_var (Some p) = p.var

-- what a step sets is a parameter that may be changed
abbrev pub sets_var : List Param → ActStep → Bool
sets_var params (step.Set a e) = is_var (slice_get params a)
sets_var params s = true

-- the step gives a result
abbrev pub is_result : ActStep → Bool
is_result (step.Result e) = true
is_result s = false

-- the first fault of an act for events of this signature, if it has one
abbrev pub act_check : Act → EventType → Result (Unit {0}) ActFault
act_check act sig =
    unless (
    (list_any is_step_deep act.steps, TooDeep)
    ∷ (nat_lt MAX_NODES (sum_by step_nodes act.steps), TooLong)
    ∷ (not (list_all (is_step_known sig.params) act.steps), BadArg)
    ∷ (not (list_all (is_step_right sig.params) act.steps), BadKind)
    ∷ (not (list_all (sets_var sig.params) act.steps), NotVar)
    ∷ (not sig.gives && list_any is_result act.steps, NoResult)
    ∷ []) tt
