use Rattle.spin_table.specs.SetupOf.{data_of}
use Rattle.spin_seat.proofs.SeatRenewals.{know_joined, first_knows, first_knows_less}
use Rattle.spin_seat.proofs.hub.Hub.gather.Goals as goal

pub returns-clause-seats : goal.returns-clause-seats
returns-clause-seats g c =
    let split = c.split_at_mut-left.ensures in
    know_joined (data_of c.args.self.now.setup) c.args.seats.now c.split_at_mut-left.result.0.now c.split_at_mut-left.result.1.now c.meet_each.new.others c.index-left-0.result c.meet_each.new.first
    split.value split.front_len c.meet_each.ensures.first c.meet_each.ensures.others

pub returns-clause-ok : goal.returns-clause-ok
returns-clause-ok g c =
    first_knows c.split_at_mut-left.result.0.now c.meet_each.new.others c.meet_each.new.first c.meet_each.result c.split_at_mut-left.ensures.front_len c.meet_each.ensures.ok

pub returns-clause-err : goal.returns-clause-err
returns-clause-err g c =
    first_knows_less c.split_at_mut-left.result.0.now c.meet_each.new.others c.meet_each.new.first c.meet_each.result c.split_at_mut-left.ensures.front_len c.meet_each.ensures.err
