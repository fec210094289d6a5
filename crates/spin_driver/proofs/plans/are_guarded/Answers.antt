use Rattle.std.proofs.Common.{◌≡◌, ℕ, ◌+◌, ◌<◌, ◌≤◌, List, length, take, get_or, refl, sym}
use Rattle.std.specs.List.{All}
use Rattle.std.proofs.lemmas.List.{take_all}
use Rattle.std.proofs.lemmas.List.Elements.{All-more, All-same, at_read}
use Rattle.spin_plan.specs.Next.{IsGuard}
use Rattle.spin_driver.proofs.plans.are_guarded.Goals as goal

more : {X : Type 0} (P : X → Type 0) (xs : List X) (i : ℕ) (x : X) → i < length xs → x ≡ get_or xs i x → P x → All P (take i xs) → All P (take (i + 1) xs)
more P xs i x lt is p all = All-more P xs i x lt all (at_read xs P i x lt is p x)

whole : {X : Type 0} (P : X → Type 0) (xs : List X) (i : ℕ) → length xs ≤ i → All P (take i xs) → All P xs
whole P xs i end all = All-same P xs (take i xs) (sym (take_all i xs end)) all

pub loop-binding-preserved : goal.loop-binding-preserved
loop-binding-preserved c =
    let bs = c.args.bindings.now in
    let i = c.loop-binding.binding-index in
    let x = c.binding-item.result in
    let lt = c.loop-binding-test.true in
    let said = c.if-not-is_guarded.ensures in (
      more (λ b. IsGuard c.args.count b.own_guard) bs i x lt c.binding-item.is (said.own refl) c.loop-binding.invariant.0,
      more (λ b. All (IsGuard c.args.count) b.imposed) bs i x lt c.binding-item.is (said.imposed refl) c.loop-binding.invariant.1,
    )

pub returns-clause-own : goal.returns-clause-own
returns-clause-own c = λ t.
    whole (λ b. IsGuard c.args.count b.own_guard) c.args.bindings.now c.loop-binding.binding-index c.loop-binding-test.false c.loop-binding.invariant.0

pub returns-clause-imposed : goal.returns-clause-imposed
returns-clause-imposed c = λ t.
    whole (λ b. All (IsGuard c.args.count) b.imposed) c.args.bindings.now c.loop-binding.binding-index c.loop-binding-test.false c.loop-binding.invariant.1
