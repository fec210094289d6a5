use Rattle.std.proofs.Common.{arith, take}
use Rattle.spin_table.specs.SetupOf.{data_of}
use Rattle.spin_filter.proofs.CommandsGiven.{given-none, given-line, given-all, line-room, lines-place}
use Rattle.spin_filter.proofs.commands.give_commands.Goals as goal

pub loop-line-init : goal.loop-line-init
loop-line-init g c = (given-none (data_of c.args.setup.now) c.args.so_far, c.requires.sound)

pub give_line-requires-clause-room : goal.give_line-requires-clause-room
give_line-requires-clause-room g c =
    let d = data_of c.args.setup.now in
    let lines = c.args.lines.now in
    let room = line-room lines c.loop-line.line-index c.line-item.result (omega arith) c.line-item.is in
    let place = lines-place d (take c.loop-line.line-index lines) c.args.so_far c.loop-line.now c.loop-line.invariant.0 in
    omega (arith, room, place, c.requires.room)

pub loop-line-preserved : goal.loop-line-preserved
loop-line-preserved g c = (
  given-line (data_of c.args.setup.now) c.args.lines.now c.loop-line.line-index c.line-item.result c.args.so_far c.loop-line.now _ (omega arith) c.line-item.is c.loop-line.invariant.0 c.in_ok-now.ensures.given,
  c.in_ok-now.ensures.sound,
)

pub returns-clause-given : goal.returns-clause-given
returns-clause-given g c = given-all (data_of c.args.setup.now) c.args.lines.now c.loop-line.line-index c.args.so_far c.loop-line.now (omega arith) c.loop-line.invariant.0

pub give_line-requires-clause-sound : goal.give_line-requires-clause-sound
give_line-requires-clause-sound g c = c.loop-line.invariant.1

pub returns-clause-sound : goal.returns-clause-sound
returns-clause-sound g c = c.loop-line.invariant.1
