use Rattle.std.proofs.Common.{◌≡◌, ◌∙◌, ap, length, subst, sym}
use Rattle.std.specs.Prelude.{All}
use Rattle.std.proofs.lemmas.List.{length-map}
use Rattle.std.proofs.lemmas.List.Elements.{All-map}
use Rattle.spin_table.specs.SetupOf.{data_of}
use Rattle.spin_seat.specs.Seats.{SeatValue, IsSeat, AreOfLanes}
use Rattle.spin_run.specs.declared.lane.Lane.{Lane}
use Rattle.spin_tests.proofs.lanes.close.Goals as goal

pub close-requires-clause-own : goal.close-requires-clause-own
close-requires-clause-own g c =
    let P = λ (s : SeatValue). s.pen.log ≡ c.args.hub.log.id in
    subst (All P) (sym c.in_ok-seats.ensures) (All-map P (λ (l : Lane). l.seat) c.args.lanes (λ k e lt. (c.requires.own.1 k e lt).0))

pub close-requires-clause-seats : goal.close-requires-clause-seats
close-requires-clause-seats g c =
    let P = IsSeat (data_of c.args.hub.setup) in
    subst (All P) (sym c.in_ok-seats.ensures) (All-map P (λ (l : Lane). l.seat) c.args.lanes (λ k e lt. (c.requires.own.1 k e lt).1.0))

pub close-requires-clause-all : goal.close-requires-clause-all
close-requires-clause-all g c = ap length c.in_ok-seats.ensures ∙ length-map c.args.lanes (λ (l : Lane). l.seat) ∙ c.requires.two.1 ∙ sym c.requires.two.0

pub close-requires-clause-order : goal.close-requires-clause-order
close-requires-clause-order g c = subst (AreOfLanes 0) (sym c.in_ok-seats.ensures) c.requires.order
