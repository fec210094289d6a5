use Rattle.std.proofs.Common.{◌∙◌, ◌<◌, ◌-◌, ◌+◌, ap, arith}
use Rattle.crossbeam_queue.specs.Passes.{view}
use Rattle.spin_later.specs.Parties.{QueueValue}
use Rattle.spin_later.proofs.NewPasses.{parts_at, parted, first_of, one_more}
use Rattle.spin_later.proofs.queue.Queue.members.Goals as goal

pub another-pass-requires-clause-rule : goal.another-pass-requires-clause-rule
another-pass-requires-clause-rule g c =
    let parties = ap (λ (q : QueueValue). q.parties) c.self.view_is in
    let more = c.loop-number-test.true in
    parts_at g.A.Agreement.allows _ c.args.self.now.parties c.loop-number.number _ (view c.loop-number.maker) c.loop-number.invariant.2 (omega arith)

pub loop-number-preserved : goal.loop-number-preserved
loop-number-preserved g c =
    let parties = ap (λ (q : QueueValue). q.parties) c.self.view_is in
    let more = c.loop-number-test.true in
    let P = c.args.self.now.parties in
    let k = c.loop-number.number in
    let v = view c.loop-number.maker in
    let low : 0 < P - k = omega arith in
    let kept = c.another-pass.ensures.queue in
    let same = kept.1.0 ∙ ap (λ (q : QueueValue). q.id) c.self.view_is in
    let alone = first_of P k (P - k) v (view c.another-pass.result) c.loop-number.invariant.2 low c.another-pass.ensures.rule.1 in (
      kept.0.0 ∙ c.loop-number.invariant.0,
      kept.0.2 ∙ c.loop-number.invariant.1,
      parted P k (P - k) (P - (k + 1)) v (view c.another-pass.new.pass) c.loop-number.invariant.2 low (omega arith) c.another-pass.ensures.rule.0,
      one_more c.args.self.now.id c.another-pass.result.table_id P k (view c.another-pass.result) c.loop-number.members c.push.new.self same alone c.loop-number.invariant.3 c.in_ok-push.ensures.ok,
    )
