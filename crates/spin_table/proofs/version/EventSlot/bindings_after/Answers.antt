use Rattle.std.proofs.Common.{◌≡◌, ◌+◌, ◌∙◌, ap, subst}
use Rattle.std.specs.Prelude.{IfOk}
use Rattle.spin_objects.specs.Units.{policies_of}
use Rattle.spin_table.specs.Setups.{rules_of}
use Rattle.spin_table.specs.Verdicts.{answer_to}
use Rattle.spin_table.specs.Inner.Slots.{Listed, Slot}
use Rattle.spin_table.specs.Steps.{bindings_after}
use Rattle.spin_table.proofs.version.EventSlot.bindings_after.Goals as goal

pub returns : goal.returns
returns g c =
    let e = c.args.def.now in
    let policies = policies_of c.args.setup.now.catalogue.natives in
    let d = c.args.c.now in
    let n = c.args.place + 1 in
    let bs = c.bindings-bindings.result.now in
    let same : bs ≡ c.args.self.now.state.bindings = c.bindings-bindings.ensures ∙ ap (λ (l : Listed). l.bindings) c.deref.ensures ∙ ap (λ (x : Slot). x.state.bindings) c.self.view_is in
    subst (λ bs. IfOk c.bindings_after.result (λ after. after ≡ bindings_after (rules_of policies e.authority) (answer_to policies e bs d) n d d.op bs)) same
    (subst (λ v. IfOk c.bindings_after.result (λ after. after ≡ bindings_after (rules_of policies e.authority) v n d d.op bs)) c.answer-verdict.ensures
    (subst (λ rules. IfOk c.bindings_after.result (λ after. after ≡ bindings_after rules c.answer-verdict.result n d d.op bs)) c.rules.ensures c.bindings_after.ensures))
