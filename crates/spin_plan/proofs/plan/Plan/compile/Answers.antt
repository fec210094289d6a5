use Rattle.std.proofs.Common.{arith}
use Rattle.spin_plan.proofs.IndexLemmas.{filed_more, filed_all}
use Rattle.spin_plan.proofs.plan.Plan.compile.Goals as goal

pub loop-binding-preserved : goal.loop-binding-preserved
loop-binding-preserved g c = (
  filed_more (g.C.Guards.tests c.args.guards.now) c.args.ordered.now c.loop-binding.binding-index c.loop-binding.bindings c.push.new.self
      _ c.loop-binding.keyed.entries c.file.new.keyed.entries c.loop-binding.free c.file.new.free c.binding-item.result c.in_ok-copy.field-0 c.wanted-wanted.result _
      c.loop-binding.invariant.0 c.loop-binding-test.true c.binding-item.is c.wanted-wanted.ensures
      c.in_ok-file.ensures.keyed c.in_ok-file.ensures.free c.in_ok-push.ensures.ok c.in_ok-copy.ensures c.len.ensures,
  grind (arith, c.loop-binding.invariant.1, c.tick.ensures),
)

pub returns-clause-over : goal.returns-clause-over
returns-clause-over g c = filed_all (g.C.Guards.tests c.args.guards.now) c.args.ordered.now c.loop-binding.binding-index _ _ _ _ c.loop-binding.invariant.0 c.loop-binding-test.false
