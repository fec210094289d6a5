use Rattle.std.proofs.Common.{ap, subst, ◌∙◌}
use Rattle.std.specs.Prelude.{Some}
use Rattle.std.specs.Arc.{arc_value}
use Rattle.spin_table.specs.SetupOf.{data_of}
use Rattle.spin_table.specs.States.{VersionValue}
use Rattle.spin_check.specs.Inner.Asks.{work_of}
use Rattle.spin_check.specs.Inner.Answers.{IsDone}
use Rattle.spin_check.proofs.AnswerLemmas.{one_answer, no_entry}
use Rattle.spin_check.proofs.answer.answer.Goals as goal

pub returns-in_default : goal.returns-in_default
returns-in_default g c =
    let d = data_of c.args.setup.now in
    let s = (arc_value c.args.version.now).state in
    no_entry d s c.args.ask c.args.report.now (subst (IsDone d s (work_of c.args.ask.asked) c.args.report.now) c.in_default.is c.in_ok-what.ensures)

pub returns : goal.returns
returns g c =
    let d = data_of c.args.setup.now in
    let s = (arc_value c.args.version.now).state in
    let done = c.in-Some.field-0 in
    let is : IsDone d s (work_of c.args.ask.asked) c.args.report.now (Some done) = subst (IsDone d s (work_of c.args.ask.asked) c.args.report.now) c.in-Some.is c.in_ok-what.ensures in
    one_answer d s (arc_value done.version) c.args.ask done.what c.place.result c.args.report.now is (c.place.ensures ∙ ap (λ (t : VersionValue). t.state.place) c.deref.ensures)
