use Rattle.std.proofs.Common.{◌≡◌, sym, subst}
use Rattle.std.specs.Prelude.{Err}
use Rattle.std.specs.Arc.{arc_value}
use Rattle.std.proofs.lemmas.Result.{IfOk-weaker}
use Rattle.spin_table.specs.declared.refusal.StepFault.{StepFault}
use Rattle.spin_table.specs.declared.refusal.Verdicted.TheVariants as verdicted
use Rattle.spin_table.specs.SetupOf.{data_of}
use Rattle.spin_table.specs.Soundness.{IsSoundVersion}
use Rattle.spin_table.specs.States.{VersionValue}
use Rattle.spin_table.specs.Steps.{IsStep, IsAnswer}
use Rattle.spin_whole.specs.declared.part.Judged.{Judged}
use Rattle.spin_whole.proofs.part.judge.Goals as goal

pub refused-requires : goal.refused-requires
refused-requires g c =
    let d = data_of c.args.setup.now in
    let command = c.args.command.now in
    let step = subst (λ (t : VersionValue). IsStep d t.state command (verdicted.Refused c.in-Err-Refused.refusal) t.state) c.deref.ensures
    (subst (λ (f : StepFault). IsAnswer d c.deref.result.now.state command (Err f)) c.in-Err-Refused.field-0-is c.in-Err-Refused.ensures.answer) in
    rw c.in-Err-Refused.field-0-is (record { step = step })

pub returns-in_ok-new-in-Ok-clause-step : goal.returns-in_ok-new-in-Ok-clause-step
returns-in_ok-new-in-Ok-clause-step g c =
    let d = data_of c.args.setup.now in
    subst (λ (x : VersionValue × VersionValue). IsStep d x.0.state c.args.command.now verdicted.Accepted x.1.state) (λ i. (c.deref.ensures i, sym c.in_ok-new-in-Ok.ensures.ok i)) c.in-Ok.ensures.answer

pub returns-in-Err-Refused-clause-sound : goal.returns-in-Err-Refused-clause-sound
returns-in-Err-Refused-clause-sound g c =
    let d = data_of c.args.setup.now in
    IfOk-weaker c.refused.result (λ (j : Judged). arc_value j.version ≡ arc_value c.args.version.now) (λ (j : Judged). IsSoundVersion d (arc_value j.version))
    (λ j h. subst (IsSoundVersion d) (sym h) c.requires.sound) c.refused.ensures.same
