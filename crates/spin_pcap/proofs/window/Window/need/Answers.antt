use Rattle.std.proofs.Common.{[], ◌∙◌, refl}
use Rattle.spin_pcap.proofs.SourceBytes.{passes-none, passes-then}
use Rattle.spin_pcap.proofs.Growing.{grows-none, grows-then}
use Rattle.spin_pcap.proofs.window.Window.need.Goals as goal

pub loop-self-init : goal.loop-self-init
loop-self-init g c = record { passed = passes-none _ _; grown = grows-none _; stood = refl }

pub loop-self-preserved : goal.loop-self-preserved
loop-self-preserved g c = record {
  passed = passes-then [] [] _ _ _ _ _ _ c.loop-self.invariant.passed c.in_ok-fill.ensures.passed;
  grown = grows-then _ _ _ c.loop-self.invariant.grown c.in_ok-fill.ensures.grown;
  stood = c.in_ok-fill.ensures.cause ∙ c.loop-self.invariant.stood;
}
