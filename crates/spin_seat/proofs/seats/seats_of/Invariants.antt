use Rattle.std.proofs.Common.{◌≡◌, ◌++◌, [], length}
use Rattle.std.specs.Prelude.{All, map}
use Rattle.std.specs.Arc.{arc_value}
use Rattle.spin_log.specs.Pens.{PenValue}
use Rattle.spin_table.specs.SetupOf.{data_of}
use Rattle.spin_seat.specs.Seats.{SeatValue, IsSeatFrom}
use Rattle.spin_seat.proofs.seats.seats_of.Given as goal

abbrev pub invariant-loop-pen : goal.invariant-loop-pen
invariant-loop-pen g l = (map (λ (s : SeatValue). s.pen) l.seats ++ l.pens ≡ l.fn.pens) × All (IsSeatFrom (data_of l._setup) (arc_value l.first).state) l.seats × All (λ (p : PenValue). p.front ≡ []) l.pens

abbrev pub decreases-loop-pen : goal.decreases-loop-pen
decreases-loop-pen g l = length l.pens
