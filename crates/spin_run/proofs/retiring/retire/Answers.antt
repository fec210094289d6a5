use Rattle.std.proofs.Common.{◌≡◌, map, length, refl, ap, ◌∙◌, arith, rules}
use Rattle.spin_endpoint.specs.Inner.View.{view_of}
use Rattle.spin_text.specs.Words.{ended}
use Rattle.spin_report.specs.Histories.{retire_line}
use Rattle.spin_run.specs.Inner.Lining.{retired_as}
use Rattle.spin_run.proofs.FaultCounts.{retired_faults}
use Rattle.spin_run.proofs.TextLines.{retired_told, written_back}
use Rattle.spin_run.proofs.retiring.retire.Goals as goal

pub returns-clause-lines : goal.returns-clause-lines
returns-clause-lines g c =
    let lines : c.add_retired.new.lines ≡ map ended (map retire_line (retired_as c.args.numbers.now c.as_slice.result.now)) = search rules in
    let len : c.in_ok-stood.stood.len ≡ length c.retire_all.new.stood = search rules in
    let kept : c.as_slice.result.now ≡ c.retire_all.new.stood = c.as_slice.ensures.value ∙ written_back _ _ _ len in
    let long : length c.as_slice.result.now ≡ length c.args.numbers.now = search rules in
    lines ∙ ap (λ x. map ended (map retire_line (retired_as c.args.numbers.now x))) kept
    ∙ ap (λ x. map ended (map retire_line x)) (retired_told c.args.names.now c.args.numbers.now c.args.numbers.now
    (map (view_of (λ e. (goal.Endpoint-dyn g (e.object.vtable, e.object.value)).seen e.object.value)) c.args.ends.now.ends.items) c.retire_all.new.stood refl
    (omega (arith, ap length kept, long)) c.retire_all.ensures.stood)

pub returns-in_err-add_retired-clause-faults : goal.returns-in_err-add_retired-clause-faults
returns-in_err-add_retired-clause-faults g c =
    let all = λ (ends : _). map (view_of (λ e. (goal.Endpoint-dyn g (e.object.vtable, e.object.value)).seen e.object.value)) ends in
    retired_faults c.args.names.now c.args.numbers.now (all c.args.ends.now.ends.items) (all c.retire_all.new.self.ends.items) c.retire_all.ensures.ends

pub returns-clause-faults : goal.returns-clause-faults
returns-clause-faults g c =
    let all = λ (ends : _). map (view_of (λ e. (goal.Endpoint-dyn g (e.object.vtable, e.object.value)).seen e.object.value)) ends in
    retired_faults c.args.names.now c.args.numbers.now (all c.args.ends.now.ends.items) (all c.retire_all.new.self.ends.items) c.retire_all.ensures.ends
