use Rattle.std.proofs.Common.{◌≡◌, ℕ, List, [], Err}
use Rattle.std.proofs.lemmas.List.{append-nil}
use Rattle.std.proofs.lemmas.Result.{err_from_is_err_and}
use Rattle.spin_grammar.specs.declared.cause.Cause.{Cause}
use Rattle.spin_grammar.specs.declared.fault.Fault.{Fault}
use Rattle.spin_grammar.specs.declared.fault.Fault.TheVariants.{Bad}
use Rattle.spin_grammar.specs.Grammar.{Want, reads}
use Rattle.spin_grammar.specs.Inner.Reading.{Fails}
use Rattle.spin_grammar.proofs.line.read_line.Goals as goal

failed : (wants : List Want) (f : Fault) (old : List (List ℕ)) → Fails wants f old → (c : Cause) → f ≡ Bad c → reads wants old ≡ Err c
failed wants f old h = λ c is. rw append-nil at (h.whole c is [])

pub returns-in_err-said-clause-gives : goal.returns-in_err-said-clause-gives
returns-in_err-said-clause-gives c =
    let p = err_from_is_err_and c.from_residual.result c.from_residual.ensures.1 in
    rw (p.1, p.2) (failed _ _ _ c.in_err-said.ensures.gives)
