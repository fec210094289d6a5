use Rattle.std.proofs.Common.{◌∙◌}
use Rattle.spin_outside.proofs.WriteLoops.{written_more}
use Rattle.spin_outside.proofs.sink.write_all.Goals as goal

pub loop-rest-preserved : goal.loop-rest-preserved
loop-rest-preserved g c = record {
  written = written_more _ _ _ _ _ _ c.loop-rest.invariant.written c.in_ok-count.ensures.some.1 c.in_ok-count.ensures.taken;
  stood = c.in_ok-count.ensures.cause ∙ c.loop-rest.invariant.stood;
}
