use Rattle.std.proofs.Common.{◌-◌, arith}
use Rattle.std.proofs.lemmas.Result.{err_from_is_err_and}
use Rattle.spin_code.specs.declared.expr.Expr.TheVariants.{Const, Arg, Field}
use Rattle.spin_grammar.specs.Grammar.{Expression}
use Rattle.spin_grammar.specs.Forms.{expr_form}
use Rattle.spin_grammar.proofs.ReadingParts.{leads_then, fails_then}
use Rattle.spin_grammar.proofs.SkippedParts.{regrows_leaf, regrows_two, fails_some}
use Rattle.spin_grammar.proofs.JoinedExpressions.{joined, joined_form}
use Rattle.spin_grammar.proofs.expression.skip_head.Goals as goal

pub returns-in_err-expr_word-clause-skips : goal.returns-in_err-expr_word-clause-skips
returns-in_err-expr_word-clause-skips c =
    let p = err_from_is_err_and c.from_residual.result c.from_residual.ensures.1 in
    rw (p.1, p.2) (fails_some Expression c.args.wanted _ _ c.requires.some c.in_err-expr_word.ensures.opens)

pub returns-in_err-field-in-Field-clause-skips : goal.returns-in_err-field-in-Field-clause-skips
returns-in_err-field-in-Field-clause-skips c =
    let p = err_from_is_err_and c.from_residual-in_err-field-in-Field.result c.from_residual-in_err-field-in-Field.ensures.1 in
    rw (p.1, p.2) (fails_some Expression c.args.wanted _ _ c.requires.some (fails_then _ _ _ _ _ _ (rw c.in-Field.is at c.in_ok-expr_word.ensures.opens) c.in_err-field-in-Field.ensures.gives))

pub returns-in-Const-clause-skips : goal.returns-in-Const-clause-skips
returns-in-Const-clause-skips c = regrows_leaf expr_form Expression (Const c.in-Const.field-0) c.args.wanted (c.args.wanted - 1) _ _ (omega arith) (rw c.in-Const.is at c.in_ok-expr_word.ensures.opens)

pub returns-in-Arg-clause-skips : goal.returns-in-Arg-clause-skips
returns-in-Arg-clause-skips c = regrows_leaf expr_form Expression (Arg c.in-Arg.field-0) c.args.wanted (c.args.wanted - 1) _ _ (omega arith) (rw c.in-Arg.is at c.in_ok-expr_word.ensures.opens)

pub returns-in_ok-field-in-Field-clause-skips : goal.returns-in_ok-field-in-Field-clause-skips
returns-in_ok-field-in-Field-clause-skips c =
    let f = c.in_ok-field-in-Field.field-0 in
    regrows_leaf expr_form Expression (Field f.0 f.1 f.2) c.args.wanted (c.args.wanted - 1) _ _ (omega arith)
    (leads_then _ _ _ _ _ _ _ _ (rw c.in-Field.is at c.in_ok-expr_word.ensures.opens) c.in_ok-field-in-Field.ensures.gives)

pub returns-in-Binary-clause-skips : goal.returns-in-Binary-clause-skips
returns-in-Binary-clause-skips c =
    let op = c.in-Binary.field-0 in
    regrows_two expr_form Expression _ (joined op) c.args.wanted _ _ _ c.requires.some (omega arith) (joined_form op) (rw c.in-Binary.is at c.in_ok-expr_word.ensures.opens)
