use Rattle.std.proofs.Common.{◌≡◌, sym, ap, ◌∙◌, subst, refl, ◌+◌, length, length-append, arith}
use Rattle.std.specs.Prelude.{Option, None, [], ◌∷◌}
use Rattle.std.specs.Arc.{arc_value}
use Rattle.spin_log.specs.Pens.{PenValue, written}
use Rattle.spin_word.specs.Rows.{row_of}
use Rattle.spin_word.proofs.RowFields.{lane_field}
use Rattle.spin_table.specs.declared.refusal.Verdicted.TheVariants as verdicted
use Rattle.spin_table.specs.SetupOf.{data_of}
use Rattle.spin_seat.specs.Seats.{SeatValue, IsSeat}
use Rattle.spin_seat.specs.Calls.{verdict_answer}
use Rattle.spin_word.specs.declared.row.Row.{Row}
use Rattle.spin_table.specs.States.{State}
use Rattle.spin_seat.specs.Places.{place_past}
use Rattle.spin_seat.proofs.PastPlaces.{place_past_is}
use Rattle.spin_seat.proofs.SeatInvariants.{whole_applied, keeps, publishes}
use Rattle.spin_seat.proofs.SeatCalls.{gives_here}
use Rattle.spin_seat.proofs.seat.Seat.publish.Goals as goal

pub returns-in-Done-clause-seat : goal.returns-in-Done-clause-seat
returns-in-Done-clause-seat g c =
    let is : ◌≡◌ {A = SeatValue} (record {
      pen = c.self.inside.pen;
      base = (arc_value c.self.inside.base).state;
      state = (arc_value c.self.inside.version).state;
      tests = (arc_value c.self.inside.version).tests;
      pending = c.self.inside.pending;
    }) c.args.self.now = c.self.view_is in
    let none : c.self.inside.pending ≡ None = ap (λ (s : SeatValue). s.pending) is ∙ c.requires.whole in
    let pen = c.in-Done.ensures.answer.0 ∙ (ap (λ r. written c.self.inside.pen r) c.pack.ensures.row ∙ ap (λ (s : SeatValue). written s.pen (row_of c.args.c.now)) is) in
    let d = data_of c.args.hub.now.setup in
    subst (λ (x : State × Option Row). IsSeat d (record { pen = c.publish.new.pen; base = x.0; state = (arc_value c.args.next).state; tests = (arc_value c.args.next).tests; pending = x.1 })) (λ i. ((sym is i).base, sym none i))
    (publishes d c.args.self.now c.publish.new.pen c.args.c.now
    (arc_value c.args.next) c.requires.seat c.requires.whole pen (c.requires.valid, refl) c.requires.step c.requires.sound)

pub returns-in-Done-clause-tries : goal.returns-in-Done-clause-tries
returns-in-Done-clause-tries g c =
    let d = data_of c.args.hub.now.setup in
    let row = row_of c.args.c.now in
    let is : ◌≡◌ {A = SeatValue} (record {
      pen = c.self.inside.pen;
      base = (arc_value c.self.inside.base).state;
      state = (arc_value c.self.inside.version).state;
      tests = (arc_value c.self.inside.version).tests;
      pending = c.self.inside.pending;
    }) c.args.self.now = c.self.view_is in
    let none : c.self.inside.pending ≡ None = ap (λ (s : SeatValue). s.pending) is ∙ c.requires.whole in
    let pen : c.publish.new.pen ≡ written c.args.self.now.pen row =
    c.in-Done.ensures.answer.0 ∙ (ap (λ r. written c.self.inside.pen r) c.pack.ensures.row ∙ ap (λ (s : SeatValue). written s.pen row) is) in
    let first = c.args.self.now.base in
    let new : SeatValue = record { pen = c.publish.new.pen; base = first; state = (arc_value c.args.next).state; tests = (arc_value c.args.next).tests; pending = None } in
    let seat : IsSeat d new =
    publishes d c.args.self.now c.publish.new.pen c.args.c.now (arc_value c.args.next) c.requires.seat c.requires.whole pen (c.requires.valid, refl) c.requires.step c.requires.sound in
    let before : c.place-place.result ≡ place_past first.place (length c.args.self.now.pen.front) = c.place-place.ensures in
    let longer : length c.publish.new.pen.front ≡ length c.args.self.now.pen.front + 1 =
    omega (arith, ap (λ (p : PenValue). length p.front) pen, length-append c.args.self.now.pen.front (row ∷ [])) in
    let place : c.place-place.result + 1 ≡ place_past first.place (length c.publish.new.pen.front) =
    omega (arith, before, longer, place_past_is first.place (length c.args.self.now.pen.front), place_past_is first.place (length c.publish.new.pen.front)) in
    let room = c.requires.room in
    record {
      gives = gives_here d c.args.self.now c.publish.new.pen (verdict_answer c.args.self.now.pen.lane c.args.c.now (c.place-place.result + 1) verdicted.Accepted)
          (arc_value c.args.next).state c.requires.seat c.requires.whole c.requires.step refl place
          pen (lane_field c.args.c.now row (c.requires.valid, refl) ∙ c.requires.lane) (whole_applied d new seat refl);
      room = omega (arith, before);
      whole = none;
    }

pub returns-in-Lost-clause-seat : goal.returns-in-Lost-clause-seat
returns-in-Lost-clause-seat g c =
    let seat : SeatValue = record { pen = c.self.inside.pen; base = (arc_value c.self.inside.base).state; state = (arc_value c.self.inside.version).state; tests = (arc_value c.self.inside.version).tests; pending = c.self.inside.pending } in
    let is : seat ≡ c.args.self.now = c.self.view_is in
    let none : seat.pending ≡ None = ap (λ (s : SeatValue). s.pending) is ∙ c.requires.whole in
    keeps (data_of c.args.hub.now.setup) seat c.publish.new.pen c.in-Lost.other
    (subst (IsSeat (data_of c.args.hub.now.setup)) (sym is) c.requires.seat) none c.in-Lost.ensures.answer.0 c.in-Lost.ensures.answer.1.1
