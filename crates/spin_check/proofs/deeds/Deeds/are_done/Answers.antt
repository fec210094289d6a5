use Rattle.std.proofs.Common.{◌≡◌, ◌<◌, ◌≤◌, get_or, true, [], ◌∙◌, length, refl, ap, subst, arith}
use Rattle.std.specs.Prelude.{◌==◌}
use Rattle.std.specs.List.{AllWithin}
use Rattle.std.proofs.lemmas.Bool.Decides.{nat_tests}
use Rattle.spin_check.proofs.Queues.{seen_left, seen_none}
use Rattle.spin_check.proofs.deeds.Deeds.are_done.Goals as goal

pub returns-then-not-is_empty : goal.returns-then-not-is_empty
returns-then-not-is_empty c =
    let qs = c.deref-queue-items.ensures.value in
    let q = c.queue-item.result in
    let some : q.items ≡ [] → ⊥ = λ none.
    let zero : length q.items ≡ 0 = ap length none in
    let test : (length q.items == 0) ≡ true = grind (arith, nat_tests, zero) in
    cc (c.is_empty.ensures, c.if-not-is_empty.true, test) in (
      λ f. absurd (cc (f)),
      λ h. absurd (seen_left (λ q. q.items) c.self.inside.lanes.items c.args.self.now c.self.view_is c.loop-queue.queue-index q
          (subst (λ l. c.loop-queue.queue-index < length l) qs c.loop-queue-test.true) (c.queue-item.is ∙ ap (λ l. get_or l c.loop-queue.queue-index q) qs) some h),
    )

pub returns : goal.returns
returns c =
    let qs = c.deref-queue-items.ensures.value in (
      λ _. seen_none (λ q. q.items) c.self.inside.lanes.items c.args.self.now c.self.view_is c.loop-queue.queue-index
          (subst (λ l. length l ≤ c.loop-queue.queue-index) qs c.loop-queue-test.false) (subst (λ l. AllWithin (λ q. q.items ≡ []) l 0 c.loop-queue.queue-index) qs c.loop-queue.invariant),
      λ _. refl,
    )
