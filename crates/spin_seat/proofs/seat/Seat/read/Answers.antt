use Rattle.std.proofs.Common.{◌≡◌, sym, ap, ◌∙◌, subst}
use Rattle.std.specs.Prelude.{None}
use Rattle.std.specs.Arc.{arc_value}
use Rattle.spin_table.specs.SetupOf.{data_of}
use Rattle.spin_seat.specs.Seats.{SeatValue, IsSeat}
use Rattle.spin_seat.proofs.SeatInvariants.{keeps, pins}
use Rattle.spin_seat.proofs.seat.Seat.read.Goals as goal

pub returns-in-Entry-clause-seat : goal.returns-in-Entry-clause-seat
returns-in-Entry-clause-seat g c =
    let seat : SeatValue = record { pen = c.self.inside.pen; base = (arc_value c.self.inside.base).state; state = (arc_value c.self.inside.version).state; tests = (arc_value c.self.inside.version).tests; pending = c.self.inside.pending } in
    let is : seat ≡ c.args.self.now = c.self.view_is in
    let none : seat.pending ≡ None = ap (λ (s : SeatValue). s.pending) is ∙ c.requires.whole in
    keeps (data_of c.args.hub.now.setup) seat c.look.new.pen c.in-Entry.row
    (subst (IsSeat (data_of c.args.hub.now.setup)) (sym is) c.requires.seat) none c.in-Entry.ensures.answer.0 c.in-Entry.ensures.answer.1.1

pub returns-in-Pinned-clause-seat : goal.returns-in-Pinned-clause-seat
returns-in-Pinned-clause-seat g c =
    let seat : SeatValue = record { pen = c.self.inside.pen; base = (arc_value c.self.inside.base).state; state = (arc_value c.self.inside.version).state; tests = (arc_value c.self.inside.version).tests; pending = c.self.inside.pending } in
    let is : seat ≡ c.args.self.now = c.self.view_is in
    pins (data_of c.args.hub.now.setup) seat c.look.new.pen (subst (IsSeat (data_of c.args.hub.now.setup)) (sym is) c.requires.seat) c.in-Pinned.ensures.answer
