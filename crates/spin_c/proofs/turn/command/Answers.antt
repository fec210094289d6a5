use Rattle.std.proofs.Common.{refl, sym, arith, ◌∙◌}
use Rattle.std.specs.Arc.{arc_value}
use Rattle.spin_table.specs.SetupOf.{data_of}
use Rattle.spin_c.proofs.Judged.{commanded, leaves_no_job}
use Rattle.spin_c.proofs.Turning.{lane_in, stays_well}
use Rattle.spin_c.proofs.turn.command.Goals as goal

pub command-requires-clause-sincere : goal.command-requires-clause-sincere
command-requires-clause-sincere g c = rw c.deref.ensures c.requires.sincere

pub command-requires-clause-seat : goal.command-requires-clause-seat
command-requires-clause-seat g c = rw c.deref.ensures c.requires.well.0.own.1.is_seat.0

pub command-requires-clause-lane : goal.command-requires-clause-lane
command-requires-clause-lane g c =
    sym c.in-Some.ensures.stands.1 ∙ rw c.in_lane.ensures (lane_in c.lane.result c.args.row.now (omega (arith, c.lane.ensures.lane, c.lane.ensures.below, c.lane.ensures.few))) ∙ c.lane.ensures.lane

pub returns-clause-well : goal.returns-clause-well
returns-clause-well g c =
    let l = c.args.lane.now in
    let did = c.command.ensures in (
      stays_well l c.command.new.seat c.requires.well did.same (rw c.deref.ensures at did.seat) did.first,
      leaves_no_job (data_of (arc_value l.party).hub.setup) l.lanes l.away.seat c.in-Some.command c.command.new.seat c.command.new.self c.command.result
          (rw c.deref.ensures at did.judges),
    )

pub returns-clause-commands : goal.returns-clause-commands
returns-clause-commands g c =
    commanded c.args.lane.now c.args.row.now _ c.command.result record {
      keeps = (refl, c.command.ensures.first, refl, refl, refl, refl, refl);
      command = c.in-Some.command;
      stands = rw c.lane.ensures.lane at (rw c.in_lane.ensures at c.in-Some.ensures.command);
      judges = rw c.deref.ensures at c.command.ensures.judges;
    }
