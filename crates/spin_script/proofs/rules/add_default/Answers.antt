use Rattle.std.proofs.Common.{refl, sym, ◌∙◌}
use Rattle.spin_script.proofs.LineCauses.{cause_is}
use Rattle.spin_script.proofs.rules.add_default.Goals as goal

pub returns-in-Some-default_cause : goal.returns-in-Some-default_cause
returns-in-Some-default_cause g c = λ number d is. rw c.in-Some.ensures (sym (c.in-Some-default_cause.ensures c.args.draft.now) ∙ cause_is c.in-Some-default_cause.cause d is)

pub returns : goal.returns
returns g c = λ number. (rw c.in-Some.ensures (sym (c.in_default-default_cause.ensures c.args.draft.now)), rw c.set_default.ensures refl)
