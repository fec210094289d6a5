use Rattle.std.proofs.Common.{◌+◌}
use Rattle.spin_code.specs.Size.{expr_nodes}
use Rattle.spin_code.proofs.expr.+value.Given as goal

-- a call of each goes down, or from the one that looks first to the other
abbrev pub decreases-tree_value : goal.decreases-tree_value
decreases-tree_value l = expr_nodes l.e.now + expr_nodes l.e.now

abbrev pub decreases-value : goal.decreases-value
decreases-value l = expr_nodes l.e.now + expr_nodes l.e.now + 1
