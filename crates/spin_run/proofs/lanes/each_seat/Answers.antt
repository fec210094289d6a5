use Rattle.std.proofs.Common.{◌∷◌, ◌∙◌, sym, ap, subst}
use Rattle.std.proofs.lemmas.List.Elements.{All-push}
use Rattle.spin_seat.specs.Seats.{SeatValue}
use Rattle.spin_run.specs.Lanes.{IsFresh}
use Rattle.spin_run.specs.Inner.Answering.{AreFresh}
use Rattle.spin_run.proofs.NewLanes.{lanes_more}
use Rattle.spin_run.proofs.lanes.each_seat.Goals as goal

pub loop-seat-preserved : goal.loop-seat-preserved
loop-seat-preserved c =
    let lane = c.new.result in
    let more = c.in_ok-push.ensures.items in
    let is = c.in-Some.ensures ∙ ap (λ (s : SeatValue). s ∷ c.take_first.new.self) (sym c.new.ensures.seat) in (
      lanes_more c.loop-seat.seats c.take_first.new.self c.args.seats c.loop-seat.lanes.items c.push.new.self.items lane c.loop-seat.invariant.0 is more,
      subst AreFresh (sym more) (All-push IsFresh c.loop-seat.lanes.items lane c.loop-seat.invariant.1 c.new.ensures.fresh),
    )
