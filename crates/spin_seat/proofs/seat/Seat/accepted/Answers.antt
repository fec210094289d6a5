use Rattle.std.proofs.Common.{◌≡◌, sym, subst}
use Rattle.std.specs.Prelude.{None}
use Rattle.std.specs.Arc.{arc_value}
use Rattle.spin_log.specs.Pens.{PenValue}
use Rattle.spin_table.specs.declared.refusal.Verdicted.TheVariants as verdicted
use Rattle.spin_table.specs.SetupOf.{data_of}
use Rattle.spin_table.specs.States.{State}
use Rattle.spin_seat.specs.Seats.{SeatValue, IsSeat}
use Rattle.spin_seat.proofs.SeatInvariants.{applies}
use Rattle.spin_seat.proofs.seat.Seat.accepted.Goals as goal

pub returns-clause-seat : goal.returns-clause-seat
returns-clause-seat g c =
    let is : ◌≡◌ {A = SeatValue} (record {
      pen = c.self.inside.pen;
      base = (arc_value c.self.inside.base).state;
      state = (arc_value c.self.inside.version).state;
      tests = (arc_value c.self.inside.version).tests;
      pending = c.self.inside.pending;
    }) c.args.self.now = c.self.view_is in
    subst (λ (x : PenValue × State). IsSeat (data_of c.args._hub.now.setup) (record { pen = x.0; base = x.1; state = (arc_value c.args.after).state; tests = (arc_value c.args.after).tests; pending = None })) (λ i. ((sym is i).pen, (sym is i).base))
    (applies (data_of c.args._hub.now.setup) c.args.self.now c.args._row.now c.args._c.now verdicted.Accepted
    (arc_value c.args.after) c.requires.seat c.requires.kept c.requires.stands c.requires.step c.requires.sound)
