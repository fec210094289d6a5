use Rattle.std.proofs.Common.{subst}
use Rattle.std.specs.Prelude.{None, Some}
use Rattle.std.specs.Arc.{arc_value}
use Rattle.spin_table.specs.SetupOf.{data_of}
use Rattle.spin_table.specs.States.{VersionValue}
use Rattle.spin_check.specs.Inner.Answers.{IsConflictTold}
use Rattle.spin_check.proofs.AnswerLemmas.{none_judged, cycle_judged}
use Rattle.spin_check.proofs.answer.judge_conflict.Goals as goal

pub returns-in_default : goal.returns-in_default
returns-in_default g c =
    let d = data_of c.args.setup.now in
    let s = (arc_value c.args.version.now).state in
    let why = c.requires.conflict in
    let told : IsConflictTold d s c.args.c.now c.args.report.now None = subst (λ (t : VersionValue). IsConflictTold d t.state c.args.c.now c.args.report.now None) c.deref.ensures
    (subst (IsConflictTold d c.deref.result.now.state c.args.c.now c.args.report.now) c.in_default.is c.in_ok-cycle.ensures) in
    none_judged d (arc_value c.args.version.now) c.args.c.now why.0 c.args.report.now c.requires.sound c.requires.room why.1 why.2 told

pub returns : goal.returns
returns g c =
    let d = data_of c.args.setup.now in
    let s = (arc_value c.args.version.now).state in
    let why = c.requires.conflict in
    let told : IsConflictTold d s c.args.c.now c.args.report.now (Some c.in-Some.cycle) =
    subst (λ (t : VersionValue). IsConflictTold d t.state c.args.c.now c.args.report.now (Some c.in-Some.cycle)) c.deref.ensures
    (subst (IsConflictTold d c.deref.result.now.state c.args.c.now c.args.report.now) c.in-Some.is c.in_ok-cycle.ensures) in
    cycle_judged d (arc_value c.args.version.now) c.args.c.now why.0 c.args.report.now c.requires.sound c.requires.room why.1 why.2 c.in-Some.cycle (arc_value c.in_ok-try_clone.field-0) told c.in_ok-try_clone.ensures
