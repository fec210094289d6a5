use Rattle.std.proofs.Common.{◌≡◌, ◌∙◌, ◌+◌, ◌++◌, ◌∷◌, [], ap, arith, get_or, length, rules, sym, take}
use Rattle.std.proofs.lemmas.List.{take_more}
use Rattle.spin_c.specs.Wholes.{bytes_sent, range_at, ranges_from}
use Rattle.spin_c.proofs.Ranges.{bytes_more, ranges_more}
use Rattle.spin_c.proofs.running.lay_out.Goals as goal

pub loop-sent-preserved : goal.loop-sent-preserved
loop-sent-preserved c =
    let sends = c.args.ran.sends in
    let sent = c.sent-item.result in
    let at = c.loop-sent.sent-index in
    let before = take at sends in
    let laid = c.loop-sent.invariant in
    let items = c.as_slice-sent-items.ensures in
    let more : take (at + 1) sends ≡ before ++ sent ∷ [] =
    take_more sends at sent (omega (arith, c.loop-sent-test.true, ap length items)) ∙ ap (λ s. before ++ s ∷ []) (sym (c.sent-item.is ∙ ap (λ l. get_or l at sent) items)) in
    let pushed : c.push.new.self ≡ c.loop-sent.sendings ++ range_at (length c.loop-sent.bytes) sent ∷ [] = search (c.in_ok-push.ensures, rules) in
    let added : c.extend_from_slice.new.self ≡ c.loop-sent.bytes ++ sent.bytes = search (c.in_ok-extend_from_slice.ensures, rules) in (
      pushed ∙ ap (λ s. s ++ range_at (length c.loop-sent.bytes) sent ∷ []) laid.0
          ∙ ap (λ n. ranges_from 0 before ++ range_at n sent ∷ []) (omega (arith, ap length laid.1))
          ∙ sym (ap (ranges_from 0) more ∙ ranges_more 0 before sent),
      added ∙ ap (λ b. b ++ sent.bytes) laid.1 ∙ sym (ap bytes_sent more ∙ bytes_more before sent),
    )
