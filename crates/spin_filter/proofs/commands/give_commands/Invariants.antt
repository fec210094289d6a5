use Rattle.std.proofs.Common.{take}
use Rattle.spin_table.specs.SetupOf.{data_of}
use Rattle.spin_table.specs.Soundness.{IsSoundVersion}
use Rattle.spin_filter.specs.Commands.{commands_of}
use Rattle.spin_filter.specs.Inner.Giving.{IsGiven}
use Rattle.spin_filter.proofs.commands.give_commands.Given as goal

abbrev pub invariant-loop-line : goal.invariant-loop-line
invariant-loop-line g l = IsGiven (data_of l.setup) (commands_of (take l.line-index l.lines)) l.fn.so_far l.now × IsSoundVersion (data_of l.setup) l.now.version
