use Rattle.std.proofs.Common.{◌≡◌, ◌∙◌, ◌+◌, ap, arith, unwrap_or}
use Rattle.std.specs.HashMap.{get}
use Rattle.spin_plan.specs.Inner.Counts.{same_four, times_counted}
use Rattle.spin_plan.proofs.LeaderLemmas.{counted_more}
use Rattle.spin_plan.proofs.key.count.Goals as goal

pub overflow_add-times : goal.overflow_add-times
overflow_add-times c =
    let had : c.unwrap_or-times.result ≡ times_counted c.args.counts.now c.args.e.now =
    c.unwrap_or-times.ensures ∙ ap (λ o. unwrap_or o 0) (c.copied.ensures ∙ c.get.ensures.value ∙ ap (get same_four c.args.counts.now) c.numbers-numbers.ensures) in
    omega (arith, had, c.requires.room)

pub returns-clause-counts : goal.returns-clause-counts
returns-clause-counts c = λ d read.
    let had : c.unwrap_or-times.result ≡ times_counted c.args.counts.now c.args.e.now =
    c.unwrap_or-times.ensures ∙ ap (λ o. unwrap_or o 0) (c.copied.ensures ∙ c.get.ensures.value ∙ ap (get same_four c.args.counts.now) c.numbers-numbers.ensures) in
    counted_more c.args.counts.now c.insert.new.self c.numbers-numbers.result _ c.args.e.now c.requires.read c.in_ok-insert.ensures.updates.0 c.numbers-numbers.ensures (ap (λ n. n + 1) had) d read
