use Rattle.std.proofs.Common.{arith, refl, subst}
use Rattle.std.specs.Prelude.{All}
use Rattle.std.proofs.lemmas.List.Elements.{All-head}
use Rattle.spin.specs.SetupOf.{data_of}
use Rattle.spin.specs.Seats.{IsSeatOf}
use Rattle.spin.proofs.SeatPairs.{new_are_all, both_taken, both_still}
use Rattle.host_renewal.proofs.open.Goals as goal

pub returns-clause-sincere : goal.returns-clause-sincere
returns-clause-sincere g c = rw c.in-Ok-new.ensures.setup c.in-Ok.ensures.sincere

pub command-requires-clause-seat : goal.command-requires-clause-seat
command-requires-clause-seat g c =
    let P = IsSeatOf (data_of c.in-Ok-new.hub.setup) in
    let are : All P c.in-Ok-new.seats = rw c.in-Ok-new.ensures.setup c.in-Ok-new.ensures.seats in
    (All-head P c.in-Some.a _ (subst (All P) c.in-Some.ensures are)).0

pub returns-clause-all : goal.returns-clause-all
returns-clause-all g c =
    let d = data_of c.in-Ok-new.hub.setup in
    let log = c.in-Ok-new.hub.log in
    let are : All (IsSeatOf d) c.in-Ok-new.seats = rw c.in-Ok-new.ensures.setup c.in-Ok-new.ensures.seats in
    let all = new_are_all d log c.in-Ok-new.seats 2 (omega arith) c.in-Ok-new.ensures.lanes c.in-Ok-new.ensures.own c.in-Ok-new.ensures.all c.in-Ok-new.ensures.order are in
    let both = both_taken d log c.in-Ok-new.seats _ _ c.in-Some.a c.in-Some-take_first.b c.in-Ok-new.ensures.lanes all c.in-Some.ensures c.in-Some-take_first.ensures in
    both_still d log c.in-Some.a c.in-Some-take_first.b c.command.new.self c.in-Some-take_first.b both c.command.ensures.same c.command.ensures.first c.command.ensures.seat
    (refl, refl, refl) refl (both.seats_are 1 c.in-Some-take_first.b (omega arith)).0
