use Rattle.std.proofs.Common.{◌∙◌, sym}
use Rattle.spin_objects.specs.Units.{guards_of}
use Rattle.spin_table.specs.Faults.{is_fit_rule}
use Rattle.spin_table.proofs.AllTests.{passes_more, passes_all, fails_at}
use Rattle.spin_table.proofs.build.are_all_fit.Goals as goal

pub returns-then-not-is_fit_rule : goal.returns-then-not-is_fit_rule
returns-then-not-is_fit_rule g c =
    let p = is_fit_rule (guards_of c.args.catalogue.now) c.args.event.now in
    sym (fails_at p c.args.rules.now c.loop-rule.rule-index c.rule-item.result c.loop-rule-test.true c.rule-item.is (sym c.is_fit_rule.ensures ∙ c.if-not-is_fit_rule.true))

pub loop-rule-preserved : goal.loop-rule-preserved
loop-rule-preserved g c =
    let p = is_fit_rule (guards_of c.args.catalogue.now) c.args.event.now in
    passes_more p c.args.rules.now c.loop-rule.rule-index c.rule-item.result c.loop-rule-test.true c.rule-item.is (sym c.is_fit_rule.ensures ∙ c.if-not-is_fit_rule.false) c.loop-rule.invariant

pub returns : goal.returns
returns g c =
    let p = is_fit_rule (guards_of c.args.catalogue.now) c.args.event.now in
    sym (passes_all p c.args.rules.now c.loop-rule.rule-index c.loop-rule-test.false c.loop-rule.invariant)
