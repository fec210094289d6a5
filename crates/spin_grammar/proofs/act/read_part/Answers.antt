use Rattle.std.proofs.lemmas.Result.{err_from_is_err_and}
use Rattle.spin_code.specs.declared.act.Part.TheVariants.{Word}
use Rattle.spin_code.specs.Size.{expr_depth}
use Rattle.spin_grammar.proofs.ReadingParts.{leads_then, fails_head, fails_next, fails_then}
use Rattle.spin_grammar.proofs.DepthLemmas.{deep_by}
use Rattle.spin_grammar.proofs.act.read_part.Goals as goal

pub returns-in_err-part_word-clause-gives : goal.returns-in_err-part_word-clause-gives
returns-in_err-part_word-clause-gives c =
    let p = err_from_is_err_and c.from_residual.result c.from_residual.ensures.1 in
    rw (p.1, p.2) c.in_err-part_word.ensures.opens

pub returns-in_err-read_expression-in-Word-clause-gives : goal.returns-in_err-read_expression-in-Word-clause-gives
returns-in_err-read_expression-in-Word-clause-gives c =
    let p = err_from_is_err_and c.from_residual-in_err-read_expression-in-Word.result c.from_residual-in_err-read_expression-in-Word.ensures.1 in
    rw (p.1, p.2) (fails_then _ _ _ _ _ _ (rw c.in-Word.is at c.in_ok-part_word.ensures.opens) c.in_err-read_expression-in-Word.ensures.gives)

pub returns-in_err-arg-in-Bytes-clause-gives : goal.returns-in_err-arg-in-Bytes-clause-gives
returns-in_err-arg-in-Bytes-clause-gives c =
    let p = err_from_is_err_and c.from_residual-in_err-arg-in-Bytes.result c.from_residual-in_err-arg-in-Bytes.ensures.1 in
    rw (p.1, p.2) (fails_then _ _ _ _ _ _ (rw c.in-Bytes.is at c.in_ok-part_word.ensures.opens) (fails_head _ _ _ _ c.in_err-arg-in-Bytes.ensures.gives))

pub returns-in_err-from-in-Bytes-clause-gives : goal.returns-in_err-from-in-Bytes-clause-gives
returns-in_err-from-in-Bytes-clause-gives c =
    let p = err_from_is_err_and c.from_residual-in_err-from-in-Bytes.result c.from_residual-in_err-from-in-Bytes.ensures.1 in
    rw (p.1, p.2) (fails_then _ _ _ _ _ _ (rw c.in-Bytes.is at c.in_ok-part_word.ensures.opens) (fails_next _ _ _ _ _ _ c.in_ok-arg-in-Bytes.ensures.gives c.in_err-from-in-Bytes.ensures.gives))

pub returns-in-None-clause-gives : goal.returns-in-None-clause-gives
returns-in-None-clause-gives c =
    let e = rw c.in-None.is at c.in_ok-read_expression-in-Word.ensures.gives in
    (Word e.0, leads_then _ _ _ _ _ _ _ _ (rw c.in-Word.is at c.in_ok-part_word.ensures.opens) e.1, deep_by expr_depth e.0 e.2)
