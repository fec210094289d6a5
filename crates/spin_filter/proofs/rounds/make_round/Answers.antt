use Rattle.spin_filter.proofs.RoundsMade.{stops-script}
use Rattle.spin_filter.proofs.Stopped.{err-if}
use Rattle.spin_filter.proofs.rounds.make_round.Goals as goal

pub returns-in_err-add_lines-clause-stop : goal.returns-in_err-add_lines-clause-stop
returns-in_err-add_lines-clause-stop c =
    let why = c.in_err-add_lines.field-0.0 in
    err-if c.from_residual.result why _ c.from_residual.ensures.1
    (stops-script c.args.lines.now c.lane_of.result c.new-round.result.items why c.lane_of.ensures c.new-round.ensures.items c.in_err-add_lines.ensures.stop)
