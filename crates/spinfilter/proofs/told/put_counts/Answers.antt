use Rattle.std.proofs.Common.{arith, ℕ, List, Bor}
use Rattle.spinfilter.specs.Told.{count_line}
use Rattle.spinfilter.proofs.Lines.{no-line, lines-more, lines-all}
use Rattle.spinfilter.proofs.told.put_counts.Goals as goal

-- the line of a row
abbrev told_row : Bor (List ℕ) × ℕ → List ℕ
told_row row = count_line row.0.now row.1

pub loop-row-init : goal.loop-row-init
loop-row-init c = no-line c.args.out.now

pub loop-row-preserved : goal.loop-row-preserved
loop-row-preserved c =
    lines-more told_row c.args.rows.now c.loop-row.row-index _ c.args.out.now c.loop-row.out c.put_count.new.out (omega (arith, c.loop-row-test.true)) c.loop-row.invariant
    c.in_ok-put_count.ensures

pub returns : goal.returns
returns c = lines-all told_row c.args.rows.now c.loop-row.row-index c.args.out.now c.loop-row.out (omega arith) c.loop-row.invariant
