use Rattle.std.proofs.Common.{arith}
use Rattle.spinfilter.specs.Told.{hit_line}
use Rattle.spinfilter.proofs.Lines.{no-line, lines-more, lines-all}
use Rattle.spinfilter.proofs.told.put_hits.Goals as goal

pub loop-hit-init : goal.loop-hit-init
loop-hit-init c = no-line c.args.out.now

pub loop-hit-preserved : goal.loop-hit-preserved
loop-hit-preserved c =
    lines-more hit_line c.args.hits.now c.loop-hit.hit-index _ c.args.out.now c.loop-hit.out c.put_hit.new.out (omega (arith, c.loop-hit-test.true)) c.loop-hit.invariant c.in_ok-put_hit.ensures

pub returns : goal.returns
returns c = lines-all hit_line c.args.hits.now c.loop-hit.hit-index c.args.out.now c.loop-hit.out (omega arith) c.loop-hit.invariant
