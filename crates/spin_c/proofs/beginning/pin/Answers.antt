use Rattle.std.specs.Arc.{arc_value}
use Rattle.spin_table.specs.SetupOf.{data_of}
use Rattle.spin_c.proofs.RaiseOpening.{answered_or}
use Rattle.spin_c.proofs.JobReplies.{whole_replay}
use Rattle.spin_c.proofs.Turning.{stays_well}
use Rattle.spin_c.proofs.beginning.pin.Goals as goal

pub pin_version-requires-clause-sincere : goal.pin_version-requires-clause-sincere
pin_version-requires-clause-sincere g c = rw c.deref.ensures c.requires.sincere

pub pin_version-requires-clause-seat : goal.pin_version-requires-clause-seat
pin_version-requires-clause-seat g c = rw c.deref.ensures c.requires.well.0.own.1.is_seat.0

pub returns-clause-well : goal.returns-clause-well
returns-clause-well g c = (
  stays_well c.args.lane.now c.pin_version.new.self c.requires.well c.pin_version.ensures.same (rw c.deref.ensures at c.pin_version.ensures.seat) c.pin_version.ensures.first,
  c.requires.well.1,
)

pub returns-clause-pinned : goal.returns-clause-pinned
returns-clause-pinned g c =
    let did = rw c.deref.ensures at c.pin_version.ensures in
    let d = data_of (arc_value c.args.lane.now.party).hub.setup in let seat = c.args.lane.now.away.seat in let after = c.pin_version.new.self in
    answered_or _ c.pin_version.result did.place did.pinned did.whole did.err
    (λ n place reads whole. record { reads = reads; replay = whole_replay d after seat.base did.seat whole did.first; place_is = place })
