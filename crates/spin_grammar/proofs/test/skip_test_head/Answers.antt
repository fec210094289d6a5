use Rattle.std.proofs.Common.{◌-◌, arith}
use Rattle.std.proofs.lemmas.Result.{err_from_is_err_and}
use Rattle.spin_code.specs.declared.test.Test.TheVariants.{True, Compare, HasBytes}
use Rattle.spin_grammar.specs.Grammar.{Test}
use Rattle.spin_grammar.specs.Forms.{test_form}
use Rattle.spin_grammar.proofs.ReadingParts.{leads_then, fails_then, fails_head, fails_next}
use Rattle.spin_grammar.proofs.SkippedParts.{regrows_leaf, regrows_one, regrows_two, fails_some}
use Rattle.spin_grammar.proofs.JoinedExpressions.{paired, paired_form, negated, negated_form, takes_two}
use Rattle.spin_grammar.proofs.test.skip_test_head.Goals as goal

pub returns-in_err-test_word-clause-skips : goal.returns-in_err-test_word-clause-skips
returns-in_err-test_word-clause-skips c =
    let p = err_from_is_err_and c.from_residual.result c.from_residual.ensures.1 in
    rw (p.1, p.2) (fails_some Test c.args.wanted _ _ c.requires.some c.in_err-test_word.ensures.opens)

pub returns-in_err-skip_expression-in-Compare-clause-skips : goal.returns-in_err-skip_expression-in-Compare-clause-skips
returns-in_err-skip_expression-in-Compare-clause-skips c =
    let p = err_from_is_err_and c.from_residual-in_err-skip_expression-in-Compare.result c.from_residual-in_err-skip_expression-in-Compare.ensures.1 in
    rw (p.1, p.2) (fails_some Test c.args.wanted _ _ c.requires.some
    (fails_then _ _ _ _ _ _ (rw c.in-Compare.is at c.in_ok-test_word.ensures.opens) (fails_head _ _ _ _ c.in_err-skip_expression-in-Compare.ensures.gives)))

pub returns-in_err-skip_expression-in-Compare-2-clause-skips : goal.returns-in_err-skip_expression-in-Compare-2-clause-skips
returns-in_err-skip_expression-in-Compare-2-clause-skips c =
    let p = err_from_is_err_and c.from_residual-in_err-skip_expression-in-Compare-2.result c.from_residual-in_err-skip_expression-in-Compare-2.ensures.1 in
    let first = c.in_ok-skip_expression-in-Compare.ensures.gives in
    rw (p.1, p.2) (fails_some Test c.args.wanted _ _ c.requires.some
    (fails_then _ _ _ _ _ _ (rw c.in-Compare.is at c.in_ok-test_word.ensures.opens) (fails_next _ _ _ _ _ _ first.1 c.in_err-skip_expression-in-Compare-2.ensures.gives)))

pub returns-in_err-has-in-Has-clause-skips : goal.returns-in_err-has-in-Has-clause-skips
returns-in_err-has-in-Has-clause-skips c =
    let p = err_from_is_err_and c.from_residual-in_err-has-in-Has.result c.from_residual-in_err-has-in-Has.ensures.1 in
    rw (p.1, p.2) (fails_some Test c.args.wanted _ _ c.requires.some (fails_then _ _ _ _ _ _ (rw c.in-Has.is at c.in_ok-test_word.ensures.opens) c.in_err-has-in-Has.ensures.gives))

pub returns-in-True-clause-skips : goal.returns-in-True-clause-skips
returns-in-True-clause-skips c = regrows_leaf test_form Test True c.args.wanted (c.args.wanted - 1) _ _ (omega arith) (rw c.in-True.is at c.in_ok-test_word.ensures.opens)

pub returns-in_ok-skip_expression-in-Compare-2-clause-skips : goal.returns-in_ok-skip_expression-in-Compare-2-clause-skips
returns-in_ok-skip_expression-in-Compare-2-clause-skips c =
    let first = c.in_ok-skip_expression-in-Compare.ensures.gives in
    let second = c.in_ok-skip_expression-in-Compare-2.ensures.gives in
    regrows_leaf test_form Test (Compare c.in-Compare.field-0 first.0 second.0) c.args.wanted (c.args.wanted - 1) _ _ (omega arith)
    (takes_two _ _ _ _ _ _ _ _ _ _ (rw c.in-Compare.is at c.in_ok-test_word.ensures.opens) first.1 second.1)

pub returns-in_ok-has-in-Has-clause-skips : goal.returns-in_ok-has-in-Has-clause-skips
returns-in_ok-has-in-Has-clause-skips c =
    let h = c.in_ok-has-in-Has.field-0 in
    regrows_leaf test_form Test (HasBytes h.0 h.1) c.args.wanted (c.args.wanted - 1) _ _ (omega arith)
    (leads_then _ _ _ _ _ _ _ _ (rw c.in-Has.is at c.in_ok-test_word.ensures.opens) c.in_ok-has-in-Has.ensures.gives)

pub returns-in-Not-clause-skips : goal.returns-in-Not-clause-skips
returns-in-Not-clause-skips c = regrows_one test_form Test _ negated c.args.wanted _ _ c.requires.some negated_form (rw c.in-Not.is at c.in_ok-test_word.ensures.opens)

pub returns-in-Pair-clause-skips : goal.returns-in-Pair-clause-skips
returns-in-Pair-clause-skips c =
    let j = c.in-Pair.field-0 in
    regrows_two test_form Test _ (paired j) c.args.wanted _ _ _ c.requires.some (omega arith) (paired_form j) (rw c.in-Pair.is at c.in_ok-test_word.ensures.opens)
