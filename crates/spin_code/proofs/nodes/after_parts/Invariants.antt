use Rattle.std.proofs.Common.{◌≡◌, ◌+◌, take, sum_by}
use Rattle.spin_code.specs.Size.{part_nodes}
use Rattle.spin_code.proofs.nodes.after_parts.Given as goal

abbrev pub invariant-loop-part : goal.invariant-loop-part
invariant-loop-part l = l.left + sum_by part_nodes (take l.part-index l.parts) ≡ l.room
