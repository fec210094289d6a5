use Rattle.std.proofs.Common.{sym, subst, ◌∙◌}
use Rattle.std.specs.Prelude.{Err}
use Rattle.std.specs.Arc.{arc_value}
use Rattle.spin_table.specs.declared.refusal.StepFault.{StepFault}
use Rattle.spin_table.specs.declared.refusal.Verdicted.TheVariants as verdicted
use Rattle.spin_table.specs.SetupOf.{data_of}
use Rattle.spin_table.specs.States.{VersionValue}
use Rattle.spin_table.specs.Steps.{IsStep, IsAnswer}
use Rattle.spin_check.proofs.AnswerLemmas.{one_accepted, one_refused}
use Rattle.spin_check.proofs.answer.judge.Goals as goal

pub judge_conflict-requires-clause-conflict : goal.judge_conflict-requires-clause-conflict
judge_conflict-requires-clause-conflict g c =
    let refusal = c.in-Err-Refused.refusal in (
      refusal,
      sym c.tells_cycle.ensures ∙ c.if-tells_cycle.true,
      subst (λ (t : VersionValue). IsStep (data_of c.args.setup.now) t.state c.args.c.now (verdicted.Refused refusal) t.state) c.deref.ensures
          (subst (λ (f : StepFault). IsAnswer (data_of c.args.setup.now) c.deref.result.now.state c.args.c.now (Err f)) c.in-Err-Refused.field-0-is c.in-Err-Refused.ensures.answer),
    )

pub returns-in_ok-new-in-Ok : goal.returns-in_ok-new-in-Ok
returns-in_ok-new-in-Ok g c =
    let d = data_of c.args.setup.now in
    record {
      judged = one_accepted d (arc_value c.args.version.now).state c.in-Ok.next (arc_value c.in_ok-new-in-Ok.field-0) c.args.c.now c.args.report.now
          (subst (λ (t : VersionValue). IsStep d t.state c.args.c.now verdicted.Accepted c.in-Ok.next.state) c.deref.ensures c.in-Ok.ensures.answer) c.in-Ok.ensures.sound c.in_ok-new-in-Ok.ensures.ok;
    }

pub returns-in_ok-try_clone-in-Err-Refused : goal.returns-in_ok-try_clone-in-Err-Refused
returns-in_ok-try_clone-in-Err-Refused g c =
    let d = data_of c.args.setup.now in
    let refusal = c.in-Err-Refused.refusal in
    record {
      judged =
          one_refused d (arc_value c.args.version.now) (arc_value c.in_ok-try_clone-in-Err-Refused.field-0) c.args.c.now refusal c.args.report.now (sym c.tells_cycle.ensures ∙ c.if-tells_cycle.false)
          (subst (λ (t : VersionValue). IsStep d t.state c.args.c.now (verdicted.Refused refusal) t.state) c.deref.ensures
          (subst (λ (f : StepFault). IsAnswer d c.deref.result.now.state c.args.c.now (Err f)) c.in-Err-Refused.field-0-is c.in-Err-Refused.ensures.answer))
          c.requires.sound c.in_ok-try_clone-in-Err-Refused.ensures;
    }
