use Rattle.std.proofs.Common.{◌≡◌, [], length, subst, sym, arith}
use Rattle.std.proofs.lemmas.List.Elements.{All-nil, All-weaker}
use Rattle.std.specs.List.{All}
use Rattle.spin_place.specs.declared.binding.Binding.{Binding}
use Rattle.spin_plan.specs.Next.{IsGuard}
use Rattle.spin_objects.specs.Units.{tests_of}
use Rattle.spin_driver.proofs.raises.plan_of.Goals as goal

pub compile-requires-clause-own : goal.compile-requires-clause-own
compile-requires-clause-own g c =
    let n = length (tests_of c.args.cat.now) in
    let P = λ (b : Binding). (b.handler ≡ 1) × (b.own_guard ≡ 0) × (b.imposed ≡ []) in
    All-weaker P (λ (b : Binding). IsGuard n b.own_guard) (λ b is. omega (arith, is.1)) c.args.bindings.now c.requires.bare

pub compile-requires-clause-imposed : goal.compile-requires-clause-imposed
compile-requires-clause-imposed g c =
    let n = length (tests_of c.args.cat.now) in
    let P = λ (b : Binding). (b.handler ≡ 1) × (b.own_guard ≡ 0) × (b.imposed ≡ []) in
    All-weaker P (λ (b : Binding). All (IsGuard n) b.imposed) (λ b is. subst (All (IsGuard n)) (sym is.2) (All-nil (IsGuard n))) c.args.bindings.now c.requires.bare
