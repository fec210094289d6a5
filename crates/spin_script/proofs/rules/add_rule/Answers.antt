use Rattle.std.proofs.Common.{refl, sym, ◌∙◌}
use Rattle.spin_script.specs.Inner.Drafts.{so_far}
use Rattle.spin_script.proofs.LineCauses.{cause_is, rule_fits}
use Rattle.spin_script.proofs.rules.add_rule.Goals as goal

pub returns-in-Some-rule_cause : goal.returns-in-Some-rule_cause
returns-in-Some-rule_cause g c = λ number d is. rw c.in-Some.ensures (sym (c.in-Some-rule_cause.ensures c.args.draft.now) ∙ cause_is c.in-Some-rule_cause.cause d is)

pub push_rule-requires-clause-few : goal.push_rule-requires-clause-few
push_rule-requires-clause-few g c = rw c.in-Some.ensures (rule_fits (so_far c.args.draft.now c.args.catalogue.now) c.args.rule c.in-Some.def.now (c.in_default-rule_cause.ensures c.args.draft.now)).0

pub push_rule-requires-clause-rules : goal.push_rule-requires-clause-rules
push_rule-requires-clause-rules g c = rw c.in-Some.ensures (rule_fits (so_far c.args.draft.now c.args.catalogue.now) c.args.rule c.in-Some.def.now (c.in_default-rule_cause.ensures c.args.draft.now)).1

pub returns : goal.returns
returns g c = λ number. (rw c.in-Some.ensures (sym (c.in_default-rule_cause.ensures c.args.draft.now)), rw c.in_ok-push_rule.ensures.added refl)
