-- Entries that are lent.
use Rattle.std.specs.Prelude.{List, []}
use Rattle.spin_proto.specs.declared.reply.Step.{Step}
use Rattle.spin_proto.specs.Parts.{trace_in}
use Rattle.spin_report.specs.declared.entry.What.{What}
use Rattle.spin_report.specs.declared.entry.What.TheVariants as what
use Rattle.spin_report.specs.declared.view.LentWhat.{LentWhat}
use Rattle.spin_report.specs.declared.view.LentWhat.TheVariants as lent

-- what was asked, and its answer, that are lent so
abbrev pub what_lent : LentWhat → What
what_lent (lent.Command command verdict) = what.Command command.now verdict.now
what_lent (lent.Deed deed reply) = what.Deed deed.now reply

-- the steps of an answer: a command has none, and a deed those of its reply
abbrev pub answer_steps : What → List Step
answer_steps (what.Command command verdict) = []
answer_steps (what.Deed deed reply) = trace_in reply
