-- How deep expressions, tests and steps are, and how many nodes they have.
use Rattle.std.specs.Prelude.{ℕ, suc, ◌+◌, max, Bool, false, nat_lt, sum_by}
use Rattle.std.specs.List.{list_any}
use Rattle.spin_code.specs.declared.expr.Expr.{Expr}
use Rattle.spin_code.specs.declared.expr.Expr.TheVariants.{Const, Arg, Field, Plus', And', Or'}
use Rattle.spin_code.specs.declared.test.Test.{Test}
use Rattle.spin_code.specs.declared.test.Test.TheVariants.{True, Compare, HasBytes, Not', All', Any'}
use Rattle.spin_code.specs.declared.depth.TheConstants.{MAX_DEPTH}
use Rattle.spin_code.specs.declared.act.Part.{Part}
use Rattle.spin_code.specs.declared.act.Part.TheVariants as part
use Rattle.spin_code.specs.declared.act.ActStep.{ActStep}
use Rattle.spin_code.specs.declared.act.ActStep.TheVariants as step

-- how deep an expression is: a leaf 1, and what has parts one more than the deepest of them
abbrev pub expr_depth : Expr → ℕ
expr_depth (Const n) = 1
expr_depth (Arg a) = 1
expr_depth (Field a offset width) = 1
expr_depth (Plus' p a q b) = suc (max (expr_depth a) (expr_depth b))
expr_depth (And' p a q b) = suc (max (expr_depth a) (expr_depth b))
expr_depth (Or' p a q b) = suc (max (expr_depth a) (expr_depth b))

-- `true` and `has` are 1 deep, and every other test is one deeper than the deepest expression or test in it
abbrev pub test_depth : Test → ℕ
test_depth True = 1
test_depth (Compare c a b) = suc (max (expr_depth a) (expr_depth b))
test_depth (HasBytes a n) = 1
test_depth (Not' p t) = suc (test_depth t)
test_depth (All' p a q b) = suc (max (test_depth a) (test_depth b))
test_depth (Any' p a q b) = suc (max (test_depth a) (test_depth b))

-- a part's expression is too deep
abbrev pub is_part_deep : Part → Bool
is_part_deep (part.Word e) = nat_lt MAX_DEPTH (expr_depth e)
is_part_deep (part.Bytes a from) = false

-- an expression of a step is too deep
abbrev pub is_step_deep : ActStep → Bool
is_step_deep (step.Set a e) = nat_lt MAX_DEPTH (expr_depth e)
is_step_deep (step.Send endpoint a from) = false
is_step_deep (step.Result e) = nat_lt MAX_DEPTH (expr_depth e)
is_step_deep (step.Up event parts) = list_any is_part_deep parts
is_step_deep (step.Layer k event) = false

-- how many nodes an expression has: one for itself, and those of the expressions in it
abbrev pub expr_nodes : Expr → ℕ
expr_nodes (Const n) = 1
expr_nodes (Arg a) = 1
expr_nodes (Field a offset width) = 1
expr_nodes (Plus' p a q b) = suc (expr_nodes a + expr_nodes b)
expr_nodes (And' p a q b) = suc (expr_nodes a + expr_nodes b)
expr_nodes (Or' p a q b) = suc (expr_nodes a + expr_nodes b)

-- how many nodes a test has: one for itself, and those of the expressions or tests in it
abbrev pub test_nodes : Test → ℕ
test_nodes True = 1
test_nodes (Compare c a b) = suc (expr_nodes a + expr_nodes b)
test_nodes (HasBytes a n) = 1
test_nodes (Not' p t) = suc (test_nodes t)
test_nodes (All' p a q b) = suc (test_nodes a + test_nodes b)
test_nodes (Any' p a q b) = suc (test_nodes a + test_nodes b)

-- how many nodes a part has: one for itself, and those of its expression
abbrev pub part_nodes : Part → ℕ
part_nodes (part.Word e) = suc (expr_nodes e)
part_nodes (part.Bytes a from) = 1

-- how many nodes a step has: one for itself, and those of its expression or its parts
abbrev pub step_nodes : ActStep → ℕ
step_nodes (step.Set a e) = suc (expr_nodes e)
step_nodes (step.Send endpoint a from) = 1
step_nodes (step.Result e) = suc (expr_nodes e)
step_nodes (step.Up event parts) = suc (sum_by part_nodes parts)
step_nodes (step.Layer k event) = 1
