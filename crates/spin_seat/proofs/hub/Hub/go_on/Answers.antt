use Rattle.std.proofs.Common.{◌≡◌, sym, subst}
use Rattle.std.specs.Prelude.{All}
use Rattle.spin_log.specs.Pens.{PenValue, StandsIn}
use Rattle.spin_log.proofs.RowLists.{all_map}
use Rattle.spin_seat.specs.Seats.{SeatValue}
use Rattle.spin_seat.proofs.SeatInvariants.{all_unmap}
use Rattle.spin_seat.proofs.hub.Hub.go_on.Goals as goal

pub close_into-rows-requires : goal.close_into-rows-requires
close_into-rows-requires g c =
    rw c.replace-old_log.ensures.value (subst (All (λ (p : PenValue). p.log ≡ c.args.self.now.log.id)) (sym c.pens_of-pens.ensures)
    (all_map (λ (p : PenValue). p.log ≡ c.args.self.now.log.id) (λ (s : SeatValue). s.pen) c.args.seats c.requires.own))

pub returns-clause-each : goal.returns-clause-each
returns-clause-each g c =
    all_unmap (StandsIn c.close_into-rows.result) (λ (s : SeatValue). s.pen) c.args.seats
    (subst (All (StandsIn c.close_into-rows.result)) c.pens_of-pens.ensures c.close_into-rows.ensures.pens)
