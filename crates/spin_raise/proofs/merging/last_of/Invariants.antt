use Rattle.std.proofs.Common.{◌≡◌, fold, take, None}
use Rattle.spin_objects.specs.Doing.{result_after}
use Rattle.spin_raise.proofs.merging.last_of.Given as goal

abbrev pub invariant-loop-item : goal.invariant-loop-item
invariant-loop-item l = l.last ≡ fold result_after None (take l.item-index l.items)
