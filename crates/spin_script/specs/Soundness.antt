-- The lane lines of scripts, and what holds of their commands.
use Rattle.std.specs.Prelude.{ℕ, Bool, true, false, List, IsTrue, All, ⊤}
use Rattle.std.specs.List.{flat_map, count_by}
use Rattle.spin_word.specs.Commands.{is_command}
use Rattle.spin_script.specs.declared.script.Line.{Line}
use Rattle.spin_script.specs.declared.script.Segment.{Segment}
use Rattle.spin_word.specs.declared.work.Work.{Work}
use Rattle.spin_word.specs.declared.work.Work.TheVariants as work

-- the lane lines, in order
abbrev pub lines_in : List Segment → List Line
lines_in segments = flat_map (λ s. s.lines) segments

abbrev pub IsValidWork : Work → Type 0
IsValidWork (work.Command c) = IsTrue (is_command c)
IsValidWork w = ⊤

abbrev pub AreValid : List Segment → Type 0
AreValid segments = All (λ line. IsValidWork line.work) (lines_in segments)

-- it asks for a command, and not for a raise or for packets
abbrev pub is_command_work : Work → Bool
is_command_work (work.Command c) = true
is_command_work w = false

-- how many of the lines are commands
abbrev pub commands_in : List Line → ℕ
commands_in lines = count_by (λ line. is_command_work line.work) lines

abbrev pub command_lines : List Segment → ℕ
command_lines segments = commands_in (lines_in segments)
