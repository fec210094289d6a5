use Rattle.spin_raise.specs.Firing.{units_of, as_found}
use Rattle.spin_host.proofs.DrivenRaises.{Driven, still}
use Rattle.spin_host.proofs.driving.raise_by_acts.Given as goal

abbrev pub invariant-turns : goal.invariant-turns
invariant-turns g l = Driven (units_of l.cat) (as_found l.bound) l.fn.args l.fn.out l.frame l.out

abbrev pub decreases-turns : goal.decreases-turns
decreases-turns g l = still (as_found l.bound) l.frame
