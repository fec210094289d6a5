use Rattle.std.proofs.Common.{◌≡◌, ◌∙◌, ◌≤◌, sym, ap, subst, length, arith}
use Rattle.std.specs.Prelude.{None}
use Rattle.std.specs.Arc.{arc_value}
use Rattle.spin_table.specs.SetupOf.{data_of}
use Rattle.spin_table.specs.States.{VersionValue}
use Rattle.spin_seat.specs.Seats.{SeatValue, IsSeat, version_of}
use Rattle.spin_seat.specs.Calls.{ReadsOn}
use Rattle.spin_seat.proofs.SeatInvariants.{learns, reads_met}
use Rattle.spin_seat.proofs.seat.Seat.learn.Goals as goal

pub returns-clause-seat : goal.returns-clause-seat
returns-clause-seat g c =
    let seat : SeatValue = record { pen = c.self.inside.pen; base = (arc_value c.self.inside.base).state; state = (arc_value c.self.inside.version).state; tests = (arc_value c.self.inside.version).tests; pending = c.self.inside.pending } in
    let other : SeatValue = record { pen = c.other.inside.pen; base = (arc_value c.other.inside.base).state; state = (arc_value c.other.inside.version).state; tests = (arc_value c.other.inside.version).tests; pending = c.other.inside.pending } in
    let is : seat ≡ c.args.self.now = c.self.view_is in
    let is' : other ≡ c.args.other.now = c.other.view_is in
    let none : seat.pending ≡ None = ap (λ (s : SeatValue). s.pending) is ∙ c.requires.whole.0 in
    let none' : other.pending ≡ None = ap (λ (s : SeatValue). s.pending) is' ∙ c.requires.whole.1 in
    let longer = c.requires.longer in
    let short : length seat.pen.front ≤ length other.pen.front = omega (arith, ap (λ (s : SeatValue). length s.pen.front) is, ap (λ (s : SeatValue). length s.pen.front) is') in
    let one : other.base ≡ seat.base = ap (λ (s : SeatValue). s.base) is' ∙ c.requires.one ∙ sym (ap (λ (s : SeatValue). s.base) is) in
    let version : arc_value c.in_ok-version.version ≡ version_of other = c.in_ok-version.ensures in
    subst (λ k. IsSeat (data_of c.args.hub.now.setup) (record { pen = c.meet.new.a; base = seat.base; state = (arc_value c.in_ok-version.version).state; tests = (arc_value c.in_ok-version.version).tests; pending = k })) (sym none)
    (subst (λ (v : VersionValue). IsSeat (data_of c.args.hub.now.setup) (record { pen = c.meet.new.a; base = seat.base; state = v.state; tests = v.tests; pending = None })) (sym version)
    (learns (data_of c.args.hub.now.setup) seat other c.meet.new.a (subst (IsSeat (data_of c.args.hub.now.setup)) (sym is) c.requires.seat)
    (subst (IsSeat (data_of c.args.hub.now.setup)) (sym is') c.requires.other) one none' c.meet.ensures.one short c.meet.ensures.a c.front-before.ensures.pen.own c.front-after.ensures.pen.own))

pub returns-clause-reads : goal.returns-clause-reads
returns-clause-reads g c =
    let seat : SeatValue = record { pen = c.self.inside.pen; base = (arc_value c.self.inside.base).state; state = (arc_value c.self.inside.version).state; tests = (arc_value c.self.inside.version).tests; pending = c.self.inside.pending } in
    let other : SeatValue = record { pen = c.other.inside.pen; base = (arc_value c.other.inside.base).state; state = (arc_value c.other.inside.version).state; tests = (arc_value c.other.inside.version).tests; pending = c.other.inside.pending } in
    let is : seat ≡ c.args.self.now = c.self.view_is in
    let is' : other ≡ c.args.other.now = c.other.view_is in
    let longer = c.requires.longer in
    let short : length seat.pen.front ≤ length other.pen.front = omega (arith, ap (λ (s : SeatValue). length s.pen.front) is, ap (λ (s : SeatValue). length s.pen.front) is') in
    subst (λ (s : SeatValue). ReadsOn s.pen c.meet.new.a) is
    (reads_met seat.pen c.meet.new.a other.pen.front c.meet.ensures.one short c.meet.ensures.a c.front-before.ensures.pen.own c.front-after.ensures.pen.own)
