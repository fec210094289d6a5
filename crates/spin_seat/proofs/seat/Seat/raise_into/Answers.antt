use Rattle.std.proofs.Common.{◌≡◌, ◌∙◌, ap, subst, length, sym}
use Rattle.std.specs.Arc.{arc_value}
use Rattle.spin_table.specs.SetupOf.{data_of}
use Rattle.spin_table.specs.States.{State, VersionValue}
use Rattle.spin_proto.specs.Replies.{IsDeedReply}
use Rattle.spin_table.specs.Soundness.{IsSoundVersion}
use Rattle.spin_seat.specs.Places.{place_past}
use Rattle.spin_seat.specs.Calls.{GivesFrom, reply_answer}
use Rattle.spin_seat.specs.Seats.{SeatValue, version_of}
use Rattle.spin_seat.proofs.SeatCalls.{gives_reply}
use Rattle.spin_seat.proofs.seat.Seat.raise_into.Goals as goal

pub returns-clause-answer : goal.returns-clause-answer
returns-clause-answer g c =
    let d = data_of c.args.hub.now.setup in
    let is : ◌≡◌ {A = SeatValue} (record {
      pen = c.self.inside.pen;
      base = (arc_value c.self.inside.base).state;
      state = (arc_value c.self.inside.version).state;
      tests = (arc_value c.self.inside.version).tests;
      pending = c.self.inside.pending;
    }) c.pin_counted.new.self = c.self.view_is in
    let ok = c.in_ok-pin_counted.ensures.ok in
    let new = c.pin_counted.new.self in
    let place : c.place-place.result ≡ place_past new.base.place (length new.pen.front) = c.place-place.ensures in
    let state : c.deref.result.now.state ≡ c.pin_counted.new.self.state = ap (λ (v : VersionValue). v.state) c.deref.ensures ∙ ap (λ (s : SeatValue). s.state) is in
    subst (λ (first : State). GivesFrom d first c.args.self.now.pen (reply_answer c.args.self.now.pen.lane c.args.deed.now c.place-place.result c.path_into.new.buffer) new.pen)
    c.in_ok-pin_counted.ensures.first
    (gives_reply d c.args.self.now.pen c.pin_counted.new.self c.args.deed.now c.place-place.result c.path_into.new.buffer ok.0 c.in_ok-pin_counted.ensures.seat ok.1 place
    (subst (λ (s : State). IsDeedReply d s c.args.deed.now c.path_into.new.buffer) state c.in_ok-path_into.ensures.reply))

pub path_into-requires-clause-sound : goal.path_into-requires-clause-sound
path_into-requires-clause-sound g c =
    let is : ◌≡◌ {A = SeatValue} (record {
      pen = c.self.inside.pen;
      base = (arc_value c.self.inside.base).state;
      state = (arc_value c.self.inside.version).state;
      tests = (arc_value c.self.inside.version).tests;
      pending = c.self.inside.pending;
    }) c.pin_counted.new.self = c.self.view_is in
    subst (IsSoundVersion (data_of c.args.hub.now.setup)) (sym (c.deref.ensures ∙ ap version_of is)) c.in_ok-pin_counted.ensures.seat.sound
