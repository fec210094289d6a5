use Rattle.std.proofs.Common.{◌≡◌, ℕ, ◌+◌, ◌∙◌, ◌&&◌, [], get_or, refl, sym, ap, count_by, arith}
use Rattle.std.specs.Prelude.{◌==◌}
use Rattle.std.proofs.lemmas.List.{take_all}
use Rattle.spin_place.specs.Inner.Links.{names_other, times_linked}
use Rattle.spin_place.proofs.LinkCounts.{named_pushed, named_passed}
use Rattle.spin_place.proofs.links.add_links.Goals as goal
use Rattle.spin_place.proofs.links.add_links.Goals.{then-names_other+in_ok-push, else-names_other, then-names_other-2+in_ok-push-2, else-names_other-2}

pub loop-named-preserved : goal.loop-named-preserved
loop-named-preserved c =
    let b = c.args.binding.now in
    let named = get_or b.before c.loop-named.named-index 0 in
    λ m n. elim c.if-names_other.branch [
      | then-names_other+in_ok-push w ↦
          named_pushed c.loop-named.links.items c.if-names_other.links.items (times_linked c.args.links.now.items m n) (λ named. names_other b.number named && (m == b.number && named == n))
          b.before c.loop-named.named-index 0 _ m n (omega arith) ((λ k. (w.links-is k).items) ∙ w.in_ok-push.ensures.items) (c.loop-named.invariant m n)
          (ap (λ t. t && (m == b.number && named == n)) (sym c.names_other.ensures ∙ w.if-names_other.true))
      | else-names_other w ↦
          (λ k. times_linked (w.links-is k).items m n)
          ∙ named_passed c.loop-named.links.items (times_linked c.args.links.now.items m n) (λ named. names_other b.number named && (m == b.number && named == n))
          b.before c.loop-named.named-index 0 m n (omega arith) (c.loop-named.invariant m n)
          (ap (λ t. t && (m == b.number && named == n)) (sym c.names_other.ensures ∙ w.if-names_other.false))
    ]

pub loop-named-2-init : goal.loop-named-2-init
loop-named-2-init c =
    let b = c.args.binding.now in
    λ m n.
    let all = take_all c.loop-named.named-index b.before (omega arith) in
    let nothing : count_by (λ named. names_other b.number named && (m == named && b.number == n)) [] ≡ 0 = refl in
    omega (arith, c.loop-named.invariant m n, ap (λ ns. count_by (λ named. names_other b.number named && (m == b.number && named == n)) ns) all, nothing)

pub loop-named-2-preserved : goal.loop-named-2-preserved
loop-named-2-preserved c =
    let b = c.args.binding.now in
    let before = λ (m n : ℕ). times_linked c.args.links.now.items m n + count_by (λ named. names_other b.number named && (m == b.number && named == n)) b.before in
    λ m n. elim c.if-names_other-2.branch [
      | then-names_other-2+in_ok-push-2 w ↦
          named_pushed c.loop-named-2.links.items c.if-names_other-2.links.items (before m n) (λ named. names_other b.number named && (m == named && b.number == n))
          b.after c.loop-named-2.named-index 0 _ m n (omega arith) ((λ k. (w.links-is k).items) ∙ w.in_ok-push-2.ensures.items) (c.loop-named-2.invariant m n)
          (ap (λ t. t && (m == get_or b.after c.loop-named-2.named-index 0 && b.number == n)) (sym c.names_other-in-loop-named-2.ensures ∙ w.if-names_other-2.true))
      | else-names_other-2 w ↦
          (λ k. times_linked (w.links-is k).items m n)
          ∙ named_passed c.loop-named-2.links.items (before m n) (λ named. names_other b.number named && (m == named && b.number == n))
          b.after c.loop-named-2.named-index 0 m n (omega arith) (c.loop-named-2.invariant m n)
          (ap (λ t. t && (m == get_or b.after c.loop-named-2.named-index 0 && b.number == n)) (sym c.names_other-in-loop-named-2.ensures ∙ w.if-names_other-2.false))
    ]

pub returns : goal.returns
returns c =
    let b = c.args.binding.now in
    λ m n.
    let all = take_all c.loop-named-2.named-index b.after (omega arith) in
    omega (arith, c.loop-named-2.invariant m n, ap (λ ns. count_by (λ named. names_other b.number named && (m == named && b.number == n)) ns) all)
