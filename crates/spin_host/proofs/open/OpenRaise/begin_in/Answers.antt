use Rattle.std.proofs.Common.{refl, length}
use Rattle.spin_table.specs.SetupOf.{data_of}
use Rattle.spin_host.proofs.FoundEvents.{there_if_fit}
use Rattle.spin_host.proofs.NestedLevels.{stands_alone}
use Rattle.spin_host.proofs.OpenTurns.{level_fresh}
use Rattle.spin_host.proofs.open.OpenRaise.begin_in.Goals as goal

pub returns-clause-well : goal.returns-clause-well
returns-clause-well g c =
    let d = data_of c.args.setup.now in
    stands_alone d _ c.requires.sound
    (level_fresh (length d.events) c.begin.result c.args.event c.begin.ensures.0 c.begin.ensures.2 (there_if_fit d c.args.event c.args.args c.requires.fit)) c.clear.ensures refl
