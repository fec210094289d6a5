use Rattle.std.proofs.Common.{◌≡◌, ◌++◌, ◌+◌, List, ℕ, ap, sym, ◌∙◌, arith}
use Rattle.spin_text.specs.Words.{text_of}
use Rattle.spinfilter.specs.Told.{send_line, send_lines_from}
use Rattle.spinfilter.proofs.Lines.{line-more, no-line, sends-next, all-sends}
use Rattle.spinfilter.proofs.told.put_sends.Goals as goal

pub loop-number-init : goal.loop-number-init
loop-number-init c = no-line c.args.out.now

pub loop-number-preserved : goal.loop-number-preserved
loop-number-preserved c =
    line-more c.args.out.now c.loop-number.out c.put_send.new.out _ (send_line c.loop-number.number c.index-names-number.result c.args.counts.now) c.loop-number.invariant c.in_ok-put_send.ensures
    ∙ ap (λ ls. c.args.out.now ++ text_of ls) (sends-next c.args.names.now c.args.counts.now c.loop-number.number c.index-names-number.result (omega (arith, c.loop-number-test.true, c.loop-number.auto.number-end)) c.index-names-number.is)

pub returns : goal.returns
returns c =
    c.loop-number.invariant ∙ ap (λ ls. c.args.out.now ++ text_of ls) (all-sends c.args.names.now c.args.counts.now c.loop-number.number (omega (arith, c.loop-number-test.false, c.loop-number.auto.number-end)))
