use Rattle.std.proofs.Common.{◌≡◌, subst}
use Rattle.std.specs.Prelude.{All}
use Rattle.std.proofs.lemmas.List.Elements.{All-head}
use Rattle.spin.specs.SetupOf.{data_of}
use Rattle.spin.specs.Seats.{IsSeatOf}
use Rattle.host_logger.proofs.open.Goals as goal

pub returns-clause-sincere : goal.returns-clause-sincere
returns-clause-sincere g c = rw c.in_ok-hub.ensures.setup c.in-Ok.ensures.sincere

pub returns-clause-seat : goal.returns-clause-seat
returns-clause-seat g c =
    let P = IsSeatOf (data_of c.in_ok-hub.hub.setup) in
    let all : All P c.in_ok-hub.seats = rw c.in_ok-hub.ensures.setup c.in_ok-hub.ensures.seats in
    All-head P c.in-Some.seat _ (subst (All P) c.in-Some.ensures all)
