use Rattle.std.proofs.Common.{◌+◌, ℕ, length, Some, sym, ap, ◌∙◌}
use Rattle.std.specs.List.{list_any}
use Rattle.spin_code.specs.Check.{act_check}
use Rattle.spin_code.specs.Size.{is_step_deep}
use Rattle.spin_script.specs.Checks.{checked, step_checks}
use Rattle.spin_script.proofs.LineCauses.{next_is}
use Rattle.spin_script.proofs.AddedUnits.{kept_is, act_judged}
use Rattle.spin_script.proofs.units.next_act.Goals as goal

pub returns-in-Some-act_fault-clause-first : goal.returns-in-Some-act_fault-clause-first
returns-in-Some-act_fault-clause-first c = λ n hs gs kept count is.
    let draft = c.args.draft.now in
    let same = kept_is (list_any is_step_deep) c.args.steps c.in-Some.steps kept c.in-Some.is is in
    next_is c.args.handler (length hs) (checked (act_check (record { steps = kept }) c.args.sig.now) (step_checks (length draft.endpoints) draft.events.items kept)) (Some c.in-Some-act_fault.cause)
    (c.if-handler-handlers.false ∙ ap (λ (x : ℕ). x + 1) (sym count))
    (act_judged c.args.sig.now c.len.result (length draft.endpoints) c.as_slice.result.now draft.events.items c.in-Some.steps kept
    (Some c.in-Some-act_fault.cause) c.len.ensures c.as_slice.ensures.value same c.in-Some-act_fault.ensures.first)
