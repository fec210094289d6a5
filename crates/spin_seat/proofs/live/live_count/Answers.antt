use Rattle.std.proofs.Common.{◌∙◌, sym, arith}
use Rattle.spin_table.specs.Renewals.{is_live_in}
use Rattle.spin_seat.proofs.LiveCounts.{count_more, count_kept}
use Rattle.spin_seat.proofs.live.live_count.Goals as goal
use Rattle.spin_seat.proofs.live.live_count.Goals.{then-is_live, else-is_live}

pub loop-before-preserved : goal.loop-before-preserved
loop-before-preserved g c =
    let p = is_live_in c.args.version.now.state in
    let before = c.loop-before.before in
    let count = c.loop-before.count in
    let so_far = c.loop-before.invariant in
    elim c.if-is_live.branch [
      | then-is_live w ↦
          let is = w.count-is in
          (is ∙ count_more p before count so_far.0 (sym c.is_live.ensures ∙ w.if-is_live.true), omega (arith, is, so_far.1))
      | else-is_live w ↦
          let is = w.count-is in
          (is ∙ count_kept p before count so_far.0 (sym c.is_live.ensures ∙ w.if-is_live.false), omega (arith, is, so_far.1))
    ]
