use Rattle.std.proofs.Common.{refl, ap}
use Rattle.spin_raise.specs.Firing.{units_of, as_found}
use Rattle.spin_host.specs.Frames.{next_if}
use Rattle.spin_host.proofs.NextFirings.{stays, ends}
use Rattle.spin_host.proofs.frame.Frame.next.Goals as goal

pub returns-in-None-clause-firing : goal.returns-in-None-clause-firing
returns-in-None-clause-firing g c = (
  ap (next_if (as_found c.args.bound.now)) c.in-None.is,
  ends (units_of c.args.cat.now) (as_found c.args.bound.now) c.args.self.now c.look-self.result c.look-self.ensures.looks c.in-None.is,
)

pub returns-in-Some-clause-stays : goal.returns-in-Some-clause-stays
returns-in-Some-clause-stays g c =
    stays (units_of c.args.cat.now) (as_found c.args.bound.now) c.args.self.now record c.args.self.now { due = c.look-self.result } c.look-self.result c.look-self.ensures.looks refl refl refl
