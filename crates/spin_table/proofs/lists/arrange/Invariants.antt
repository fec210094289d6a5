use Rattle.std.proofs.Common.{◌≡◌, take}
use Rattle.spin_table.specs.Orders.{arranged}
use Rattle.spin_table.proofs.lists.arrange.Given as goal

-- the bindings of the numbers so far are there
abbrev pub invariant-loop-number : goal.invariant-loop-number
invariant-loop-number l = l.list ≡ arranged l.bindings (take l.number-index l.numbers)
