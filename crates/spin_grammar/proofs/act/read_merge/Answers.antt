use Rattle.std.proofs.lemmas.Result.{err_from_is_err_and}
use Rattle.spin_code.specs.declared.merge.Merge.TheVariants.{Fold}
use Rattle.spin_code.specs.Size.{expr_depth}
use Rattle.spin_grammar.proofs.ReadingParts.{leads_then, fails_then}
use Rattle.spin_grammar.proofs.DepthLemmas.{deep_by}
use Rattle.spin_grammar.proofs.act.read_merge.Goals as goal

pub returns-in_err-merge_word : goal.returns-in_err-merge_word
returns-in_err-merge_word c =
    let p = err_from_is_err_and c.from_residual.result c.from_residual.ensures.1 in
    rw (p.1, p.2) c.in_err-merge_word.ensures.opens

pub returns-in_err-read_expression-in-Fold : goal.returns-in_err-read_expression-in-Fold
returns-in_err-read_expression-in-Fold c =
    let p = err_from_is_err_and c.from_residual-in_err-read_expression-in-Fold.result c.from_residual-in_err-read_expression-in-Fold.ensures.1 in
    rw (p.1, p.2) (fails_then _ _ _ _ _ _ (rw c.in-Fold.is at c.in_ok-merge_word.ensures.opens) c.in_err-read_expression-in-Fold.ensures.gives)

pub returns-in-None : goal.returns-in-None
returns-in-None c =
    let e = rw c.in-None.is at c.in_ok-read_expression-in-Fold.ensures.gives in
    (Fold e.0, leads_then _ _ _ _ _ _ _ _ (rw c.in-Fold.is at c.in_ok-merge_word.ensures.opens) e.1, deep_by expr_depth e.0 e.2)
