use Rattle.std.proofs.Common.{length}
use Rattle.spin_raise.specs.Firing.{units_of, as_found, fired}
use Rattle.spin_raise.specs.Progress.{to_come}
use Rattle.spin_raise.proofs.RaiseProgress.{Goes}
use Rattle.spin_raise.proofs.raising.raise.Given as goal

abbrev pub invariant-turns : goal.invariant-turns
invariant-turns g l =
    Goes l.bound.merge.now (fired l.runner (units_of l.cat) (as_found l.bound) l.fn.args)
    (to_come l.runner (units_of l.cat) (as_found l.bound) l.progress)
    l.initial.out l.fn.args l.progress l.out

abbrev pub decreases-turns : goal.decreases-turns
decreases-turns g l = length (to_come l.runner (units_of l.cat) (as_found l.bound) l.progress)
