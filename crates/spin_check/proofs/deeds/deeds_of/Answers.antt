use Rattle.std.proofs.Common.{sym, subst, arith}
use Rattle.std.proofs.lemmas.List.{drop_all}
use Rattle.spin_check.proofs.Queues.{IsGoneOver, gone_none, gone_more, gone_all}
use Rattle.spin_check.proofs.deeds.deeds_of.Goals as goal

pub loop-line-init : goal.loop-line-init
loop-line-init c =
    subst (λ q. IsGoneOver c.args.lanes c.args.lines.now c.args.records.now 0 q c.args.records.now) (sym c.in_ok-deeds.ensures) (gone_none c.args.lanes c.args.lines.now c.args.records.now)

pub loop-line-preserved : goal.loop-line-preserved
loop-line-preserved c =
    gone_more c.args.lanes c.args.lines.now c.args.records.now c.loop-line.line-index c.loop-line.deeds c.add_line.new.self c.loop-line.left.now _ _ c.line-item.result
    (omega (arith, c.loop-line-test.true)) c.line-item.is c.split_records.ensures.records c.split_records.ensures.others c.loop-line.invariant c.in_ok-add_line.ensures

pub returns-clause-deeds : goal.returns-clause-deeds
returns-clause-deeds c =
    (gone_all c.args.lanes c.args.lines.now c.args.records.now c.loop-line.line-index c.loop-line.deeds c.loop-line.left.now
    (drop_all c.loop-line.line-index c.args.lines.now (omega (arith, c.loop-line-test.false))) c.loop-line.invariant).0
