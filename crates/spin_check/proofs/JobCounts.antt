-- How many jobs an entry leaves at most.
use Rattle.std.proofs.Common.{◌≤◌, length, arith}
use Rattle.spin_table.specs.Setups.{SetupData}
use Rattle.spin_table.specs.States.{State}
use Rattle.spin_proto.proofs.JobCounts.{calls_few}
use Rattle.spin_report.specs.declared.entry.What.{What}
use Rattle.spin_report.specs.declared.entry.What.TheVariants as what
use Rattle.spin_report.specs.Legal.{Answers}
use Rattle.spin_report.specs.Jobs as report

pub entry_few : (d : SetupData) (s : State) (w : What) (next : State) → Answers d s w next → length (report.answer_calls w) ≤ 4096
entry_few d s (what.Command c v) next h = omega arith
entry_few d s (what.Deed asked answer) next h = calls_few d s asked answer h.0
