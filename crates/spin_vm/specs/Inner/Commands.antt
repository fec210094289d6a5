-- Commands one after another.
use Rattle.spin_word.specs.declared.command.Command.{Command}
use Rattle.spin_table.specs.declared.refusal.Verdicted.{Verdicted}
use Rattle.spin_table.specs.Setups.{SetupData}
use Rattle.spin_table.specs.States.{State}
use Rattle.spin_table.specs.Steps.{IsStep}

-- the command has some verdict, and leads to the next state
abbrev pub LeadsBy : SetupData → State → Command → State → Type 0
LeadsBy d s c next = (v : Verdicted) × IsStep d s c v next
