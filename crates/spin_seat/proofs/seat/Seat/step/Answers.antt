use Rattle.std.proofs.Common.{◌≡◌, ap, subst, length, arith, sym}
use Rattle.std.specs.Prelude.{All}
use Rattle.std.specs.Arc.{arc_value}
use Rattle.spin_word.proofs.RowFields.{absurd_command}
use Rattle.spin_log.specs.Pens.{PenValue}
use Rattle.spin_log.specs.Rows.{IsCommandBelow}
use Rattle.spin_table.specs.declared.refusal.Verdicted.TheVariants as verdicted
use Rattle.spin_table.specs.SetupOf.{data_of}
use Rattle.spin_table.specs.Steps.{IsStep}
use Rattle.spin_table.specs.Soundness.{IsSoundVersion}
use Rattle.spin_seat.specs.Seats.{SeatValue, version_of}
use Rattle.spin_seat.proofs.SeatInvariants.{place_fits, next_room, kept_is_command, is_refused}
use Rattle.spin_seat.proofs.seat.Seat.step.Goals as goal

pub unreachable-requires : goal.unreachable-requires
unreachable-requires g c =
    let is : ◌≡◌ {A = SeatValue} (record {
      pen = c.self.inside.pen;
      base = (arc_value c.self.inside.base).state;
      state = (arc_value c.self.inside.version).state;
      tests = (arc_value c.self.inside.version).tests;
      pending = c.self.inside.pending;
    }) c.args.self.now = c.self.view_is in
    let pens = subst (λ (p : PenValue). All (IsCommandBelow p.lanes) p.front) (ap (λ (s : SeatValue). s.pen) is) c.front-front.ensures.pen.commands in
    absurd_command c.args.row (kept_is_command (data_of c.args.hub.now.setup) c.args.self.now c.args.row c.args.self.now.pen.lanes c.requires.seat c.requires.kept pens) c.in_default.ensures.command

pub next_version-requires-clause-room : goal.next_version-requires-clause-room
next_version-requires-clause-room g c =
    let is : ◌≡◌ {A = SeatValue} (record {
      pen = c.self.inside.pen;
      base = (arc_value c.self.inside.base).state;
      state = (arc_value c.self.inside.version).state;
      tests = (arc_value c.self.inside.version).tests;
      pending = c.self.inside.pending;
    }) c.args.self.now = c.self.view_is in
    let fits = place_fits (data_of c.args.hub.now.setup) c.args.self.now c.requires.seat in
    let room = c.front-front.ensures.pen.room in
    let old = c.args.self.now in
    next_room old.state.place old.base.place (length old.pen.front) (arc_value c.self.inside.version).state.place fits c.requires.seat.fits
    (omega (arith, room, ap (λ (s : SeatValue). length s.pen.front) is)) (ap (λ (s : SeatValue). s.state.place) is)

pub accepted-requires-clause-step : goal.accepted-requires-clause-step
accepted-requires-clause-step g c =
    let is : ◌≡◌ {A = SeatValue} (record {
      pen = c.self.inside.pen;
      base = (arc_value c.self.inside.base).state;
      state = (arc_value c.self.inside.version).state;
      tests = (arc_value c.self.inside.version).tests;
      pending = c.self.inside.pending;
    }) c.args.self.now = c.self.view_is in
    subst (λ (s : SeatValue). IsStep (data_of c.args.hub.now.setup) s.state c.in-Some.command verdicted.Accepted (arc_value c.in-Ok.next).state) is c.in-Ok.ensures.answer

pub refused-requires-clause-step : goal.refused-requires-clause-step
refused-requires-clause-step g c =
    let is : ◌≡◌ {A = SeatValue} (record {
      pen = c.self.inside.pen;
      base = (arc_value c.self.inside.base).state;
      state = (arc_value c.self.inside.version).state;
      tests = (arc_value c.self.inside.version).tests;
      pending = c.self.inside.pending;
    }) c.args.self.now = c.self.view_is in
    is_refused (data_of c.args.hub.now.setup) (arc_value c.self.inside.version).state c.args.self.now.state c.in-Some.command c.in-Err-Refused.field-0 c.in-Err-Refused.refusal c.in-Err-Refused.field-0-is
    (ap (λ (s : SeatValue). s.state) is) c.in-Err-Refused.ensures.answer

pub next_version-requires-clause-sound : goal.next_version-requires-clause-sound
next_version-requires-clause-sound g c =
    let is : ◌≡◌ {A = SeatValue} (record {
      pen = c.self.inside.pen;
      base = (arc_value c.self.inside.base).state;
      state = (arc_value c.self.inside.version).state;
      tests = (arc_value c.self.inside.version).tests;
      pending = c.self.inside.pending;
    }) c.args.self.now = c.self.view_is in
    subst (IsSoundVersion (data_of c.args.hub.now.setup)) (sym (ap version_of is)) c.requires.seat.sound
