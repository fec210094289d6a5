use Rattle.std.proofs.Common.{sym, arith}
use Rattle.std.specs.Prelude.{bytes_eq}
use Rattle.std.proofs.lemmas.List.Folds.{list_any_none}
use Rattle.spin_check.proofs.start.is_among.Goals as goal

pub returns : goal.returns
returns c = sym (list_any_none (bytes_eq c.args.name.now) c.args.names.now (λ k d lt. c.loop-other.invariant k d (omega arith) (omega (arith, lt, c.loop-other-test.false))))
