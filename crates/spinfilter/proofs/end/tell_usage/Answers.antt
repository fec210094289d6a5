use Rattle.std.proofs.Common.{ℕ, List, subst}
use Rattle.spin_inputs.specs.Ends.{Tells}
use Rattle.spinfilter.proofs.end.tell_usage.Goals as goal

pub returns-clause-line : goal.returns-clause-line
returns-clause-line g c =
    subst (λ (bytes : List ℕ). Tells (g.K.Sink.seen c.args.out.now) (g.K.Sink.seen c.put_line.new.out) bytes) c.fixed-line.ensures c.put_line.ensures
