use Rattle.std.proofs.Common.{◌≡◌, ap, arith, length, sym, subst}
use Rattle.std.specs.Arc.{arc_value}
use Rattle.spin_table.specs.SetupOf.{data_of}
use Rattle.spin_table.specs.Soundness.{IsSoundVersion}
use Rattle.spin_seat.specs.Seats.{SeatValue, version_of}
use Rattle.spin_seat.proofs.PastPlaces.{place_past_is}
use Rattle.spin_seat.proofs.SeatInvariants.{place_fits, next_room, is_refused}
use Rattle.spin_seat.proofs.seat.Seat.judge.Goals as goal

pub next_version-requires-clause-room : goal.next_version-requires-clause-room
next_version-requires-clause-room g c =
    let is : ◌≡◌ {A = SeatValue} (record {
      pen = c.self.inside.pen;
      base = (arc_value c.self.inside.base).state;
      state = (arc_value c.self.inside.version).state;
      tests = (arc_value c.self.inside.version).tests;
      pending = c.self.inside.pending;
    }) c.args.self.now = c.self.view_is in
    let fits = place_fits (data_of c.args.hub.now.setup) c.args.self.now c.requires.seat in
    let room = c.requires.room in
    let old = c.args.self.now in
    next_room old.state.place old.base.place (length old.pen.front) (arc_value c.self.inside.version).state.place fits c.requires.seat.fits
    (omega (arith, room, place_past_is old.base.place (length old.pen.front)))
    (ap (λ (s : SeatValue). s.state.place) is)

pub refuse-requires-clause-step : goal.refuse-requires-clause-step
refuse-requires-clause-step g c =
    let is : ◌≡◌ {A = SeatValue} (record {
      pen = c.self.inside.pen;
      base = (arc_value c.self.inside.base).state;
      state = (arc_value c.self.inside.version).state;
      tests = (arc_value c.self.inside.version).tests;
      pending = c.self.inside.pending;
    }) c.args.self.now = c.self.view_is in
    is_refused (data_of c.args.hub.now.setup) (arc_value c.self.inside.version).state c.args.self.now.state c.args.c.now c.in-Err-Refused.field-0 c.in-Err-Refused.refusal c.in-Err-Refused.field-0-is
    (ap (λ (s : SeatValue). s.state) is) c.in-Err-Refused.ensures.answer

pub next_version-requires-clause-sound : goal.next_version-requires-clause-sound
next_version-requires-clause-sound g c =
    let is : ◌≡◌ {A = SeatValue} (record {
      pen = c.self.inside.pen;
      base = (arc_value c.self.inside.base).state;
      state = (arc_value c.self.inside.version).state;
      tests = (arc_value c.self.inside.version).tests;
      pending = c.self.inside.pending;
    }) c.args.self.now = c.self.view_is in
    subst (IsSoundVersion (data_of c.args.hub.now.setup)) (sym (ap version_of is)) c.requires.seat.sound
