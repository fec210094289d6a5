use Rattle.std.proofs.Common.{◌≡◌, sym, subst}
use Rattle.std.specs.Prelude.{None}
use Rattle.std.specs.Arc.{arc_value}
use Rattle.spin_table.specs.declared.refusal.Verdicted.TheVariants as verdicted
use Rattle.spin_table.specs.SetupOf.{data_of}
use Rattle.spin_seat.specs.Seats.{SeatValue, IsSeat, version_of}
use Rattle.spin_seat.proofs.SeatInvariants.{applies}
use Rattle.spin_seat.proofs.seat.Seat.refused.Goals as goal

pub returns-clause-seat : goal.returns-clause-seat
returns-clause-seat g c =
    let is : ◌≡◌ {A = SeatValue} (record {
      pen = c.self.inside.pen;
      base = (arc_value c.self.inside.base).state;
      state = (arc_value c.self.inside.version).state;
      tests = (arc_value c.self.inside.version).tests;
      pending = c.self.inside.pending;
    }) c.args.self.now = c.self.view_is in
    subst (λ (x : SeatValue). IsSeat (data_of c.args._hub.now.setup) (record { pen = x.pen; base = x.base; state = x.state; tests = x.tests; pending = None })) (sym is)
    (applies (data_of c.args._hub.now.setup) c.args.self.now c.args._row.now c.args._c.now
    (verdicted.Refused c.args._refusal.now) (version_of c.args.self.now) c.requires.seat c.requires.kept c.requires.stands c.requires.step c.requires.seat.sound)
