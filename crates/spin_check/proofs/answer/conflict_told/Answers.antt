use Rattle.std.proofs.Common.{sym, subst, ◌∙◌}
use Rattle.spin_table.specs.SetupOf.{data_of}
use Rattle.spin_table.specs.Steps.{MayConflict}
use Rattle.spin_check.proofs.AnswerLemmas.{no_cycle, other_cycle, own_cycle}
use Rattle.spin_check.proofs.answer.conflict_told.Goals as goal

pub returns-in_default : goal.returns-in_default
returns-in_default g c =
    no_cycle (data_of c.args.setup.now) c.args.version.now.state c.args.c.now c.args.report.now
    (λ cycle low tells. sym c.in_default.is ∙ c.in_ok-cycle.ensures cycle low tells)

pub returns-then-not-may : goal.returns-then-not-may
returns-then-not-may g c =
    let d = data_of c.args.setup.now in
    other_cycle d c.args.version.now.state c.args.c.now c.args.report.now c.in-Some.cycle
    (λ cycle low tells. sym c.in-Some.is ∙ c.in_ok-cycle.ensures cycle low tells)
    (λ may.
    let yes = c.in_ok-may.ensures.1 (subst (MayConflict d c.args.version.now.state c.args.c.now) (sym c.as_slice.ensures) may) in
    absurd (cc (yes, c.if-not-may.true)))

pub returns : goal.returns
returns g c =
    let d = data_of c.args.setup.now in
    own_cycle d c.args.version.now.state c.args.c.now c.args.report.now c.in-Some.cycle
    (λ cycle low tells. sym c.in-Some.is ∙ c.in_ok-cycle.ensures cycle low tells)
    (subst (MayConflict d c.args.version.now.state c.args.c.now) c.as_slice.ensures (c.in_ok-may.ensures.0 c.if-not-may.false))
