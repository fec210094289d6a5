use Rattle.std.proofs.Common.{arith}
use Rattle.spin_filter.proofs.RoundsMade.{round-none, round-line, round-all, stops-lines}
use Rattle.spin_filter.proofs.Stopped.{err-if}
use Rattle.spin_filter.proofs.rounds.add_lines.Goals as goal

pub loop-line-init : goal.loop-line-init
loop-line-init c = round-none c.args.lane c.args.round.now.items

pub loop-line-preserved : goal.loop-line-preserved
loop-line-preserved c =
    round-line c.args.lane c.args.lines.now c.loop-line.line-index c.line-item.result _ _ _ (omega arith) c.line-item.is c.loop-line.invariant c.in_ok-add_line.ensures.added c.in_ok-add_line.ensures.suited

pub returns-clause-added : goal.returns-clause-added
returns-clause-added c = (round-all c.args.lane c.args.lines.now c.loop-line.line-index _ _ (omega arith) c.loop-line.invariant).added

pub returns-clause-suited : goal.returns-clause-suited
returns-clause-suited c = (round-all c.args.lane c.args.lines.now c.loop-line.line-index _ _ (omega arith) c.loop-line.invariant).suited

pub returns-in_err-add_line-clause-stop : goal.returns-in_err-add_line-clause-stop
returns-in_err-add_line-clause-stop c =
    err-if c.from_residual.result c.in_err-add_line.field-0.0 _ c.from_residual.ensures.1
    (stops-lines c.args.lane c.args.round.now.items c.args.lines.now c.loop-line.line-index c.line-item.result c.loop-line.round.items c.in_err-add_line.field-0.0 (omega arith) c.line-item.is
    c.loop-line.invariant c.in_err-add_line.ensures.stop)
