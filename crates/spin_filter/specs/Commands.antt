-- The commands of a script, given one after another.
use Rattle.std.specs.Prelude.{◌≡◌, Bool, true, false, List, [], ◌∷◌, Option, Some, None}
use Rattle.std.specs.List.{filter_map}
use Rattle.spin_word.specs.declared.command.Command.{Command}
use Rattle.spin_word.specs.declared.work.Work.{Work}
use Rattle.spin_word.specs.declared.work.Work.TheVariants as work
use Rattle.spin_table.specs.Setups.{SetupData}
use Rattle.spin_table.specs.States.{State}
use Rattle.spin_table.specs.Steps.{IsStep}
use Rattle.spin_table.specs.declared.refusal.Verdicted.{Verdicted}
use Rattle.spin_table.specs.declared.refusal.Verdicted.TheVariants as verdicted
use Rattle.spin_script.specs.declared.script.Line.{Line}

-- the command for which a line asks, if it asks for one
abbrev pub command_of : Work → Option Command
command_of (work.Command c) = Some c
command_of other = None

-- the commands among these lines, in order
abbrev pub commands_of : List Line → List Command
commands_of lines = filter_map (λ line. command_of line.work) lines

-- The commands are given one after another from one state on, have these verdicts, and leave that other state.
abbrev pub AreGiven : SetupData → State → List Command → List Verdicted → State → Type 0
AreGiven d s [] verdicts last = (verdicts ≡ []) × (last ≡ s)
AreGiven d s (command ∷ commands) verdicts last =
    (verdict : Verdicted) × (others : List Verdicted) × (next : State) × IsStep d s command verdict next
    × (verdicts ≡ verdict ∷ others) × AreGiven d next commands others last

-- it is a refusal
abbrev pub is_refusal : Verdicted → Bool
is_refusal verdicted.Accepted = false
is_refusal (verdicted.Refused r) = true
