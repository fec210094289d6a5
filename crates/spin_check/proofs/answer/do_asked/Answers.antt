use Rattle.std.proofs.Common.{sym, ap, subst}
use Rattle.std.specs.Prelude.{IfOk, Some}
use Rattle.std.specs.Arc.{arc_value}
use Rattle.spin_word.specs.declared.work.Work.{Work}
use Rattle.spin_table.specs.SetupOf.{data_of}
use Rattle.spin_script.specs.Soundness.{IsValidWork, is_command_work}
use Rattle.spin_check.specs.declared.deeds.Asked.{Asked}
use Rattle.spin_check.specs.Inner.Asks.{work_of}
use Rattle.spin_check.specs.Inner.Answers.{IsDone}
use Rattle.spin_check.proofs.answer.do_asked.Goals as goal

pub do_command-requires-clause-valid : goal.do_command-requires-clause-valid
do_command-requires-clause-valid g c = subst (λ (a : Asked). IsValidWork (work_of a)) c.in-Command.is c.requires.valid

pub do_command-requires-clause-room : goal.do_command-requires-clause-room
do_command-requires-clause-room g c = c.requires.room (ap (λ (a : Asked). is_command_work (work_of a)) c.in-Command.is)

pub returns-in-Command : goal.returns-in-Command
returns-in-Command g c =
    subst (λ (w : Work). IfOk c.do_command.result (IsDone (data_of c.args.setup.now) (arc_value c.args.version.now).state w c.args.report.now)) (sym (ap work_of c.in-Command.is)) c.do_command.ensures

pub returns-in_ok-done-in-Deed : goal.returns-in_ok-done-in-Deed
returns-in_ok-done-in-Deed g c =
    subst (λ (w : Work). IsDone (data_of c.args.setup.now) (arc_value c.args.version.now).state w c.args.report.now (Some c.in_ok-done-in-Deed.done))
    (sym (ap work_of c.in-Deed.is)) (c.in_ok-done-in-Deed.ensures c.args.report.now)
