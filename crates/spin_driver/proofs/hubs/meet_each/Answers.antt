use Rattle.spin_table.specs.SetupOf.{data_of}
use Rattle.spin_seat.proofs.SeatRenewals.{know_joined, still_all}
use Rattle.spin_driver.proofs.HubSeats.{split_all}
use Rattle.spin_driver.proofs.hubs.meet_each.Goals as goal

pub meet_others-requires : goal.meet_others-requires
meet_others-requires g c =
    let split = c.split_at_mut-left.ensures in
    let all =
    split_all (data_of c.args.hub.now.setup) c.args.hub.now.log c.args.seats.now c.split_at_mut-left.result.0.now c.split_at_mut-left.result.1.now c.index-left-0.result
    split.value split.front_len c.requires.all in
    record { sincere = c.requires.sincere; log = all.own; logs = all.others_own; seat = all.seat; seats = all.seats }

pub returns : goal.returns
returns g c =
    let d = data_of c.args.hub.now.setup in
    let split = c.split_at_mut-left.ensures in
    let left = c.split_at_mut-left.result.0.now in
    let right = c.split_at_mut-left.result.1.now in
    let met = c.meet_others.ensures in
    still_all d c.args.hub.now.log c.args.seats.now _
    (know_joined d c.args.seats.now left right c.meet_others.new.others c.index-left-0.result c.meet_others.new.first split.value split.front_len met.first met.others) c.requires.all
