use Rattle.std.proofs.Common.{◌-◌, arith, refl}
use Rattle.std.proofs.lemmas.Result.{err_from_is_err_and}
use Rattle.spin_code.proofs.Sizes.{test_depth_positive}
use Rattle.spin_code.specs.declared.test.Test.TheVariants.{True, HasBytes}
use Rattle.spin_grammar.proofs.ReadingParts.{fails_head, fails_next, fails_then, leads_then, gives_made}
use Rattle.spin_grammar.proofs.JoinedExpressions.{comparison_read, tests_read, negation_read}
use Rattle.spin_grammar.proofs.test.+read_test.Goals as goal

pub returns-in-True-clause-gives : goal.returns-in-True-clause-gives
returns-in-True-clause-gives t c = (True, rw c.in-True.is at c.in_ok-test_word.ensures.opens, (refl, omega arith))

pub returns-in_ok-arg-in-Has-clause-gives : goal.returns-in_ok-arg-in-Has-clause-gives
returns-in_ok-arg-in-Has-clause-gives t c =
    (HasBytes c.in_ok-arg-in-Has.arg c.in_ok-arg-in-Has.length, leads_then _ _ _ _ _ _ _ _ (rw c.in-Has.is at c.in_ok-test_word.ensures.opens) c.in_ok-arg-in-Has.ensures.gives, (refl, omega arith))

pub returns-in_err-skip_test-clause-gives : goal.returns-in_err-skip_test-clause-gives
returns-in_err-skip_test-clause-gives t c =
    let p = err_from_is_err_and c.from_residual.result c.from_residual.ensures.1 in
    rw (p.1, p.2) c.in_err-skip_test.ensures.gives

pub returns-in_err-test_word-clause-gives : goal.returns-in_err-test_word-clause-gives
returns-in_err-test_word-clause-gives t c =
    let p = err_from_is_err_and c.from_residual-in_err-test_word.result c.from_residual-in_err-test_word.ensures.1 in
    rw (p.1, p.2) c.in_err-test_word.ensures.opens

pub returns-in_err-left-in-Compare-clause-gives : goal.returns-in_err-left-in-Compare-clause-gives
returns-in_err-left-in-Compare-clause-gives t c =
    let p = err_from_is_err_and c.from_residual-in_err-left-in-Compare.result c.from_residual-in_err-left-in-Compare.ensures.1 in
    rw (p.1, p.2) (fails_then _ _ _ _ _ _ (rw c.in-Compare.is at c.in_ok-test_word.ensures.opens) (fails_head _ _ _ _ c.in_err-left-in-Compare.ensures.gives))

pub returns-in_err-right-in-Compare-clause-gives : goal.returns-in_err-right-in-Compare-clause-gives
returns-in_err-right-in-Compare-clause-gives t c =
    let p = err_from_is_err_and c.from_residual-in_err-right-in-Compare.result c.from_residual-in_err-right-in-Compare.ensures.1 in
    rw (p.1, p.2)
    (fails_then _ _ _ _ _ _ (rw c.in-Compare.is at c.in_ok-test_word.ensures.opens) (fails_next _ _ _ _ _ _ c.in_ok-left-in-Compare.ensures.gives.1 c.in_err-right-in-Compare.ensures.gives))

pub returns-in_err-arg-in-Has-clause-gives : goal.returns-in_err-arg-in-Has-clause-gives
returns-in_err-arg-in-Has-clause-gives t c =
    let p = err_from_is_err_and c.from_residual-in_err-arg-in-Has.result c.from_residual-in_err-arg-in-Has.ensures.1 in
    rw (p.1, p.2) (fails_then _ _ _ _ _ _ (rw c.in-Has.is at c.in_ok-test_word.ensures.opens) c.in_err-arg-in-Has.ensures.gives)

pub returns-in_err-test-in-Not-clause-gives : goal.returns-in_err-test-in-Not-clause-gives
returns-in_err-test-in-Not-clause-gives t c =
    let p = err_from_is_err_and c.from_residual-in_err-test-in-Not.result c.from_residual-in_err-test-in-Not.ensures.1 in
    rw (p.1, p.2) (fails_then _ _ _ _ _ _ (rw c.in-Not.is at c.in_ok-test_word.ensures.opens) c.in_err-test-in-Not.ensures.gives)

pub returns-in_err-left-in-Pair-clause-gives : goal.returns-in_err-left-in-Pair-clause-gives
returns-in_err-left-in-Pair-clause-gives t c =
    let p = err_from_is_err_and c.from_residual-in_err-left-in-Pair.result c.from_residual-in_err-left-in-Pair.ensures.1 in
    rw (p.1, p.2) (fails_then _ _ _ _ _ _ (rw c.in-Pair.is at c.in_ok-test_word.ensures.opens) (fails_head _ _ _ _ c.in_err-left-in-Pair.ensures.gives))

pub returns-in_err-right-in-Pair-clause-gives : goal.returns-in_err-right-in-Pair-clause-gives
returns-in_err-right-in-Pair-clause-gives t c =
    let p = err_from_is_err_and c.from_residual-in_err-right-in-Pair.result c.from_residual-in_err-right-in-Pair.ensures.1 in
    rw (p.1, p.2) (fails_then _ _ _ _ _ _ (rw c.in-Pair.is at c.in_ok-test_word.ensures.opens) (fails_next _ _ _ _ _ _ c.in_ok-left-in-Pair.ensures.gives.1 c.in_err-right-in-Pair.ensures.gives))

pub returns-then-limit-eq0-clause-gives : goal.returns-then-limit-eq0-clause-gives
returns-then-limit-eq0-clause-gives t c =
    let g = c.in_ok-skip_test.ensures.gives in
    (g.0, g.1, omega (arith, test_depth_positive g.0))

pub returns-in_ok-right-in-Compare-clause-gives : goal.returns-in_ok-right-in-Compare-clause-gives
returns-in_ok-right-in-Compare-clause-gives t c =
    let l = c.in_ok-left-in-Compare.ensures.gives in
    let r = c.in_ok-right-in-Compare.ensures.gives in
    comparison_read c.in-Compare.cmp c.args.limit (c.args.limit - 1) _ _ _ l.0 r.0 _ _ _ _ (omega arith) (rw c.in-Compare.is at c.in_ok-test_word.ensures.opens) l.1 l.2 r.1 r.2 c.compare.ensures

pub returns-in_ok-test-in-Not-clause-gives : goal.returns-in_ok-test-in-Not-clause-gives
returns-in_ok-test-in-Not-clause-gives t c =
    let g = c.in_ok-test-in-Not.ensures.gives in
    gives_made _ _ _ _ _ _ _ c.negate.ensures (λ o n. negation_read c.args.limit (c.args.limit - 1) _ _ g.0 _ _ _ (omega arith) (rw c.in-Not.is at c.in_ok-test_word.ensures.opens) g.1 g.2 n)

pub returns-in_ok-right-in-Pair-clause-gives : goal.returns-in_ok-right-in-Pair-clause-gives
returns-in_ok-right-in-Pair-clause-gives t c =
    let l = c.in_ok-left-in-Pair.ensures.gives in
    let r = c.in_ok-right-in-Pair.ensures.gives in
    gives_made _ _ _ _ _ _ _ c.pair.ensures
    (λ o j. tests_read c.in-Pair.joint c.args.limit (c.args.limit - 1) _ _ _ l.0 r.0 _ _ _ _ (omega arith) (rw c.in-Pair.is at c.in_ok-test_word.ensures.opens) l.1 l.2 r.1 r.2 j)
