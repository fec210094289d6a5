use Rattle.std.proofs.Common.{◌∙◌, ◌<◌, ap, arith}
use Rattle.spin_jobs.proofs.WorkerLemmas.{all_of_jobs, rises, works_first, works_on}
use Rattle.spin_jobs.proofs.worker.Worker.work.Goals as goal

pub claim-number-requires-in-loop-number-clause-can : goal.claim-number-requires-in-loop-number-clause-can
claim-number-requires-in-loop-number-clause-can g c =
    let k = c.loop-number.invariant.1 in
    let mine = all_of_jobs _ c.args.count c.loop-number.self c.loop-number.number k (omega arith) in
    (k.seat.1, rw c.requires.ready.0.2 mine)

pub loop-number-smaller : goal.loop-number-smaller
loop-number-smaller g c =
    let k = c.loop-number.invariant.1 in
    let up : c.loop-number.number < c.claim-number-in-loop-number.result = rises _ c.args.count c.loop-number.self c.loop-number.number _ _ k c.claim-number-in-loop-number.ensures.took in
    omega arith

pub loop-number-init : goal.loop-number-init
loop-number-init g c =
    let ready = c.requires.ready in
    let claimed = c.claim-number.ensures in (
      (claimed.table ∙ ready.0.0, ready.0.1, ready.0.2),
      works_first _ c.args.count c.args.self.now c.claim-number.new.self c.claim-number.result
          (ap (λ m. m.0) ready.1) (ap (λ m. m.1) ready.1) ready.2 (ap (λ v. v.items) claimed.same) claimed.slots claimed.took,
    )

pub loop-number-preserved : goal.loop-number-preserved
loop-number-preserved g c =
    let word = c.loop-number.invariant.0 in
    let claimed = c.claim-number-in-loop-number.ensures in (
      (claimed.table ∙ word.0, word.1, word.2),
      works_on _ c.args.count c.loop-number.self c.claim-number-in-loop-number.new.self (record { number = c.loop-number.number; reply = c.in_ok-reply.reply }) c.claim-number-in-loop-number.result
          c.loop-number.invariant.1 (omega arith, c.in_ok-reply.ensures) (ap (λ v. v.items) claimed.same ∙ c.in_ok-push.ensures.items) claimed.slots claimed.took,
    )

pub returns-in_err-push-clause-right : goal.returns-in_err-push-clause-right
returns-in_err-push-clause-right g c = rw c.in_err-push.ensures.items c.loop-number.invariant.1.right

pub returns-clause-whole : goal.returns-clause-whole
returns-clause-whole g c = (c.loop-number.number, omega arith, c.loop-number.invariant.1.claimed)
