use Rattle.std.proofs.Common.{◌∷◌, sym, ap, ◌∙◌, subst}
use Rattle.std.specs.List.{All}
use Rattle.std.proofs.lemmas.List.Elements.{All-push}
use Rattle.spin_seat.specs.Seats.{SeatValue}
use Rattle.spin_run.specs.Lanes.{IsFresh}
use Rattle.spin_run.proofs.NewLanes.{lanes_more}
use Rattle.spin_tests.proofs.lanes.lanes_of.Goals as goal

pub loop-seat-preserved : goal.loop-seat-preserved
loop-seat-preserved c =
    let rest = c.take_first.new.self in
    let lane = c.new.result in (
      lanes_more c.loop-seat.seats rest c.args.seats c.loop-seat.lanes c.push.new.self lane c.loop-seat.invariant.0
          (c.in-Some.ensures ∙ ap (λ (s : SeatValue). s ∷ rest) (sym c.new.ensures.seat)) c.in_ok-push.ensures.ok,
      subst (All IsFresh) (sym c.in_ok-push.ensures.ok) (All-push IsFresh c.loop-seat.lanes lane c.loop-seat.invariant.1 c.new.ensures.fresh),
    )
