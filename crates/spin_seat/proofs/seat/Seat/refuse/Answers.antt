use Rattle.std.proofs.Common.{◌≡◌, ◌∙◌, sym, ap, refl, subst, length, arith}
use Rattle.spin_log.specs.Pens.{PenValue}
use Rattle.spin_table.specs.declared.refusal.Verdicted.TheVariants as verdicted
use Rattle.spin_table.specs.SetupOf.{data_of}
use Rattle.spin_seat.specs.Calls.{verdict_answer}
use Rattle.spin_seat.specs.Replay.{IsReplayFrom}
use Rattle.spin_seat.specs.Places.{place_past}
use Rattle.spin_seat.proofs.SeatInvariants.{whole_applied}
use Rattle.spin_seat.proofs.SeatCalls.{gives_here}
use Rattle.spin_seat.proofs.seat.Seat.refuse.Goals as goal

pub returns-in-Pinned-clause-tries : goal.returns-in-Pinned-clause-tries
returns-in-Pinned-clause-tries g c =
    let d = data_of c.args.hub.now.setup in
    let front = ap (λ (p : PenValue). p.front) c.in-Pinned.ensures.look in
    let first = c.args.self.now.base in
    let before : c.place-place.result ≡ place_past first.place (length c.args.self.now.pen.front) = c.place-place.ensures in
    let place = before ∙ ap (λ rows. place_past first.place (length rows)) (sym front) in
    let room = c.requires.room in
    record {
      gives = gives_here d c.args.self.now c.read.new.self.pen
          (verdict_answer c.args.self.now.pen.lane c.args._c.now c.place-place.result (verdicted.Refused c.args.refusal))
          c.args.self.now.state c.requires.seat c.requires.whole c.requires.step refl place
          c.in-Pinned.ensures.look tt (subst (λ rows. IsReplayFrom d first rows c.args.self.now.state) (sym front) (whole_applied d c.args.self.now c.requires.seat c.requires.whole));
      room = omega (arith, before);
      whole = c.in-Pinned.ensures.kept;
    }
