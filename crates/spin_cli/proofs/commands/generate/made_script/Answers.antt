use Rattle.spin_cli.proofs.GenCauses.{never_refused}
use Rattle.spin_cli.proofs.commands.generate.made_script.Goals as goal

pub unreachable-requires : goal.unreachable-requires
unreachable-requires g c = never_refused _ _ _ _ c.requires.made (rw c.in-Err-Bad.field-0-is at c.in-Err-Bad.ensures.script)
