use Rattle.std.proofs.Common.{◌≡◌, ◌+◌, ◌<◌, ◌∙◌, true, false, length, sym, subst, arith}
use Rattle.spin_check.proofs.EndpointFlags.{IsLosing, losing_same, losing_more, losing_all}
use Rattle.spin_whole.proofs.SentCounts.{lost_number}
use Rattle.spin_whole.proofs.flags.lost_all.Goals as goal
use Rattle.spin_whole.proofs.flags.lost_all.Goals.{then-count-gt0+in_ok-lost_text, else-count-gt0}

pub returns : goal.returns
returns c = λ names ends are.
    losing_all names ends c.args.sends.now c.loop-number.number c.args.out.now c.loop-number.out (omega (arith, c.loop-number-test.false, are.all)) (c.loop-number.invariant names ends are)

pub loop-number-preserved-then-flags-number : goal.loop-number-preserved-then-flags-number
loop-number-preserved-then-flags-number c = λ names ends are.
    losing_same names ends c.args.sends.now c.loop-number.number c.args.out.now c.loop-number.out (omega (arith, c.loop-number-test.true, are.all))
    (lost_number names ends c.args.flags.now c.args.sends.now c.loop-number.number true are (omega (arith, c.loop-number-test.true, are.all)) c.if-flags-number.true)
    (c.loop-number.invariant names ends are)

pub loop-number-preserved : goal.loop-number-preserved
loop-number-preserved c = λ names ends are.
    let n = c.loop-number.number in
    let lt : n < length names = omega (arith, c.loop-number-test.true, are.all) in
    let lost = lost_number names ends c.args.flags.now c.args.sends.now n false are lt c.if-flags-number.false in
    let so = c.loop-number.invariant names ends are in
    elim c.if-count-gt0.branch [
      | then-count-gt0+in_ok-lost_text w ↦
          losing_more names ends c.args.sends.now n c.count_of-count.result c.args.out.now c.loop-number.out c.if-count-gt0.out lt w.if-count-gt0.true (lost ∙ sym c.count_of-count.ensures)
          (w.out-is ∙ w.in_ok-lost_text.ensures.ok) so
      | else-count-gt0 w ↦
          subst (λ o. IsLosing names ends c.args.sends.now (n + 1) c.args.out.now o) (sym w.out-is)
          (losing_same names ends c.args.sends.now n c.args.out.now c.loop-number.out lt
          (let none : c.count_of-count.result ≡ 0 = omega (arith, w.if-count-gt0.false) in lost ∙ sym c.count_of-count.ensures ∙ none) so)
    ]
