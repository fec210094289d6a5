use Rattle.std.proofs.Common.{◌≡◌, arith}
use Rattle.std.proofs.lemmas.Result.{err_from_is_err_and}
use Rattle.spin_grammar.specs.Grammar.{Expression}
use Rattle.spin_grammar.specs.Forms.{expr_form}
use Rattle.spin_grammar.proofs.SkippedParts.{regrows_none, regrows_then, regrown}
use Rattle.spin_grammar.proofs.expression.skip_expression.Goals as goal

pub loop-wanted-init : goal.loop-wanted-init
loop-wanted-init c = record { room = omega arith; falls = omega arith; so_far = regrows_none expr_form Expression 1 _ }

pub loop-wanted-preserved : goal.loop-wanted-preserved
loop-wanted-preserved c = record {
  room = omega (arith, c.in_ok-wanted.ensures.room);
  falls = omega (arith, c.in_ok-wanted.ensures.falls);
  so_far = regrows_then expr_form Expression _ _ _ _ _ _ c.loop-wanted.invariant.so_far c.in_ok-wanted.ensures.skips;
}

pub returns-in_err-wanted-clause-gives : goal.returns-in_err-wanted-clause-gives
returns-in_err-wanted-clause-gives c =
    let p = err_from_is_err_and c.from_residual.result c.from_residual.ensures.1 in
    rw (p.1, p.2) (c.loop-wanted.invariant.so_far.fails _ c.in_err-wanted.ensures.skips)

pub returns-clause-gives : goal.returns-clause-gives
returns-clause-gives c =
    let none : c.loop-wanted.wanted ≡ 0 = omega arith in
    regrown expr_form Expression _ _ (rw none at c.loop-wanted.invariant.so_far)
