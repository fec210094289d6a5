use Rattle.std.proofs.Common.{◌≡◌, ◌∙◌, List, [], sym, ap, subst, length, arith}
use Rattle.std.specs.Arc.{arc_value}
use Rattle.std.specs.Prelude.{All}
use Rattle.spin_log.specs.Pens.{PenValue}
use Rattle.spin_table.specs.SetupOf.{data_of}
use Rattle.spin_table.specs.States.{State, VersionValue}
use Rattle.spin_table.specs.Renewals.{NameGiven, renewed}
use Rattle.spin_table.specs.Soundness.{IsSoundVersion}
use Rattle.spin_seat.specs.Seats.{SeatValue, IsSeatFrom, version_of}
use Rattle.spin_seat.proofs.SeatInvariants.{place_fits, next_room, new_know_nothing}
use Rattle.spin_seat.proofs.HomeSeats.{first_of, key_from}
use Rattle.spin_seat.proofs.hub.Hub.ready.Goals as goal

pub renewed-requires-clause-given : goal.renewed-requires-clause-given
renewed-requires-clause-given g c =
    let is : ◌≡◌ {A = SeatValue} (record {
      pen = c.seat.inside.pen;
      base = (arc_value c.seat.inside.base).state;
      state = (arc_value c.seat.inside.version).state;
      tests = (arc_value c.seat.inside.version).tests;
      pending = c.seat.inside.pending;
    }) c.args.seat.now = c.seat.view_is in
    let state : c.deref.result.now.state ≡ c.args.seat.now.state = ap (λ (v : VersionValue). v.state) c.deref.ensures ∙ ap (λ (s : SeatValue). s.state) is in
    subst NameGiven (sym state) c.requires.seat.given

pub renewed-requires-clause-room : goal.renewed-requires-clause-room
renewed-requires-clause-room g c =
    let is : ◌≡◌ {A = SeatValue} (record {
      pen = c.seat.inside.pen;
      base = (arc_value c.seat.inside.base).state;
      state = (arc_value c.seat.inside.version).state;
      tests = (arc_value c.seat.inside.version).tests;
      pending = c.seat.inside.pending;
    }) c.args.seat.now = c.seat.view_is in
    let state : c.deref.result.now.state ≡ c.args.seat.now.state = ap (λ (v : VersionValue). v.state) c.deref.ensures ∙ ap (λ (s : SeatValue). s.state) is in
    let old = c.args.seat.now in
    let fits = place_fits (data_of c.args.self.now.setup) old c.requires.seat in
    let past = next_room old.state.place old.base.place (length old.pen.front) c.deref.result.now.state.place fits c.requires.seat.fits c.front-front.ensures.room (ap (λ (s : State). s.place) state) in
    omega (arith, past)

pub seats_of-requires-clause-new : goal.seats_of-requires-clause-new
seats_of-requires-clause-new g c = subst (λ (pens : List PenValue). All (λ (p : PenValue). p.front ≡ []) pens) (sym c.in_ok-log.ensures.pens)
    (new_know_nothing c.in_ok-log.log.id c.args.lanes 0 c.args.lanes)

pub seats_of-requires-clause-given : goal.seats_of-requires-clause-given
seats_of-requires-clause-given g c = subst (λ (v : VersionValue). NameGiven v.state) (sym c.in_ok-first.ensures.ok) c.in_ok-renewed.ensures.given

pub returns-clause-seats : goal.returns-clause-seats
returns-clause-seats g c =
    let seat : ◌≡◌ {A = SeatValue} (record {
      pen = c.seat.inside.pen;
      base = (arc_value c.seat.inside.base).state;
      state = (arc_value c.seat.inside.version).state;
      tests = (arc_value c.seat.inside.version).tests;
      pending = c.seat.inside.pending;
    }) c.args.seat.now = c.seat.view_is in
    let state : c.deref.result.now.state ≡ c.args.seat.now.state = ap (λ (v : VersionValue). v.state) c.deref.ensures ∙ ap (λ (s : SeatValue). s.state) seat in
    let is : (arc_value c.in_ok-first.first).state ≡ renewed c.args.seat.now.state = ap (λ (v : VersionValue). v.state) c.in_ok-first.ensures.ok ∙ (c.in_ok-renewed.ensures.renewed ∙ ap renewed state) in
    subst (λ (s : State). All (IsSeatFrom (data_of c.args.self.now.setup) s) c.in_ok-seats.seats) is c.in_ok-seats.ensures.seats

pub returns-clause-key : goal.returns-clause-key
returns-clause-key g c =
    let seat : ◌≡◌ {A = SeatValue} (record {
      pen = c.seat.inside.pen;
      base = (arc_value c.seat.inside.base).state;
      state = (arc_value c.seat.inside.version).state;
      tests = (arc_value c.seat.inside.version).tests;
      pending = c.seat.inside.pending;
    }) c.args.seat.now = c.seat.view_is in
    let d = data_of c.args.self.now.setup in
    let state : c.deref.result.now.state ≡ c.args.seat.now.state = ap (λ (v : VersionValue). v.state) c.deref.ensures ∙ ap (λ (s : SeatValue). s.state) seat in
    let is : (arc_value c.in_ok-first.first).state ≡ renewed c.args.seat.now.state = ap (λ (v : VersionValue). v.state) c.in_ok-first.ensures.ok ∙ (c.in_ok-renewed.ensures.renewed ∙ ap renewed state) in
    let one = first_of d (arc_value c.in_ok-first.first).state c.in_ok-seats.seats c.get.result.now c.in_ok-seats.ensures.seats c.get.ensures in
    key_from _ _ d _ _ c.in_ok-homes.ensures.key (one ∙ is)

pub renewed-requires-clause-sound : goal.renewed-requires-clause-sound
renewed-requires-clause-sound g c =
    let is : ◌≡◌ {A = SeatValue} (record {
      pen = c.seat.inside.pen;
      base = (arc_value c.seat.inside.base).state;
      state = (arc_value c.seat.inside.version).state;
      tests = (arc_value c.seat.inside.version).tests;
      pending = c.seat.inside.pending;
    }) c.args.seat.now = c.seat.view_is in
    subst (IsSoundVersion (data_of c.args.self.now.setup)) (sym (c.deref.ensures ∙ ap version_of is)) c.requires.seat.sound
