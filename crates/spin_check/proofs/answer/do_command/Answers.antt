use Rattle.std.proofs.Common.{subst}
use Rattle.std.specs.Prelude.{Some}
use Rattle.std.specs.Arc.{arc_value}
use Rattle.spin_table.specs.SetupOf.{data_of}
use Rattle.spin_check.specs.Inner.Answers.{IsJudged}
use Rattle.spin_check.proofs.AnswerLemmas.{command_done, command_none}
use Rattle.spin_check.proofs.answer.do_command.Goals as goal

pub returns-in_default : goal.returns-in_default
returns-in_default g c =
    let d = data_of c.args.setup.now in
    let s = (arc_value c.args.version.now).state in
    command_none d s c.args.c c.args.report.now (subst (IsJudged d s c.args.c c.args.report.now) c.in_default.is c.in_ok-verdict.ensures.judged)

pub returns : goal.returns
returns g c =
    let d = data_of c.args.setup.now in
    let s = (arc_value c.args.version.now).state in
    let judged : IsJudged d s c.args.c c.args.report.now (Some c.in-Some.field-0) = subst (IsJudged d s c.args.c c.args.report.now) c.in-Some.is c.in_ok-verdict.ensures.judged in
    command_done d s (arc_value c.in-Some.field-0.version) c.args.c c.in-Some.field-0.verdict c.args.report.now judged
