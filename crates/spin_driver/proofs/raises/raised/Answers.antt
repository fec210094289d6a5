use Rattle.std.proofs.Common.{◌≡◌, ◌≤◌, [], length, subst, sym, arith}
use Rattle.std.proofs.lemmas.List.{length-map}
use Rattle.std.proofs.lemmas.List.Elements.{All-nil, All-same, All-weaker}
use Rattle.std.specs.List.{All}
use Rattle.spin_place.specs.declared.binding.Binding.{Binding}
use Rattle.spin_plan.specs.Next.{IsGuard}
use Rattle.spin_objects.specs.Units.{HandlerUnit, handlers_of, acts_of, tests_of}
use Rattle.spin_raise.specs.Firing.{IsHandler}
use Rattle.spin_driver.proofs.raises.raised.Goals as goal

pub raise-requires-clause-there : goal.raise-requires-clause-there
raise-requires-clause-there g c =
    let cat = c.args.cat.now in
    let n = length (tests_of cat) in
    let acts = length-map (handlers_of cat) (λ (u : HandlerUnit). u.act) in
    let some : 1 ≤ length (acts_of cat) = omega (arith, acts, c.requires.there) in
    let P = λ (b : Binding). (b.handler ≡ 1) × (b.own_guard ≡ 0) × (b.imposed ≡ []) in
    let bs = c.in_ok-plan.plan.bindings in
    let all : All P bs = All-same P bs c.args.bindings.now c.in_ok-plan.ensures.bindings c.requires.bare in
    record {
      handlers = All-weaker P (IsHandler (length (acts_of cat))) (λ b is. (omega (arith, is.0), omega (arith, is.0, some))) bs all;
      default = some;
      own = All-weaker P (λ (b : Binding). b.own_guard ≤ n) (λ b is. omega (arith, is.1)) bs all;
      imposed = All-weaker P (λ (b : Binding). All (IsGuard n) b.imposed) (λ b is. subst (All (IsGuard n)) (sym is.2) (All-nil (IsGuard n))) bs all;
    }
