use Rattle.std.proofs.Common.{◌≡◌, subst}
use Rattle.std.specs.Prelude.{All}
use Rattle.std.proofs.lemmas.List.Elements.{All-head, All-tail}
use Rattle.spin.specs.SetupOf.{data_of}
use Rattle.spin.specs.Seats.{IsSeatOf}
use Rattle.host_plugins.proofs.open.Goals as goal

pub returns-clause-sincere : goal.returns-clause-sincere
returns-clause-sincere g c = rw c.in-Ok-new.ensures.setup c.in-Ok.ensures.sincere

pub returns-clause-seat_a : goal.returns-clause-seat_a
returns-clause-seat_a g c =
    let P = IsSeatOf (data_of c.in-Ok-new.hub.setup) in
    let all : All P c.in-Ok-new.seats = rw c.in-Ok-new.ensures.setup c.in-Ok-new.ensures.seats in
    All-head P c.in-Some.a _ (subst (All P) c.in-Some.ensures all)

pub returns-clause-seat_b : goal.returns-clause-seat_b
returns-clause-seat_b g c =
    let P = IsSeatOf (data_of c.in-Ok-new.hub.setup) in
    let all : All P c.in-Ok-new.seats = rw c.in-Ok-new.ensures.setup c.in-Ok-new.ensures.seats in
    All-head P c.in-Some-take_first.b _ (subst (All P) c.in-Some-take_first.ensures (All-tail P c.in-Some.a _ (subst (All P) c.in-Some.ensures all)))
