use Rattle.std.proofs.Common.{sym, arith}
use Rattle.spin_run.proofs.OneSegment.{wanted_fits}
use Rattle.spin_run.proofs.one.wanted_by.Goals as goal

pub overflow_add-wanted : goal.overflow_add-wanted
overflow_add-wanted c =
    let fits = wanted_fits c.args.lines.now c.loop-line.line-index c.line-item.result (omega (arith, c.loop-line-test.true)) (sym c.line-item.is) in
    omega (arith, fits, c.requires, c.loop-line.invariant, c.records_wanted-wanted.ensures)
