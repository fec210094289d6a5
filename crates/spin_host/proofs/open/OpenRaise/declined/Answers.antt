use Rattle.std.proofs.Common.{arith}
use Rattle.spin_table.specs.SetupOf.{data_of}
use Rattle.spin_host.proofs.OpenTurns.{frame_goes_on}
use Rattle.spin_host.proofs.open.OpenRaise.declined.Goals as goal

pub returns-clause-well : goal.returns-clause-well
returns-clause-well g c =
    frame_goes_on (data_of c.args.setup.now) c.args.self.now c.declined.new.self c.args.self.now.given c.saturating_sub-self.result c.requires.well c.in_ok-declined.ensures.event
    (omega (arith, c.saturating_sub-self.ensures, c.requires.well.few))
