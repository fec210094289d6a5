use Rattle.std.proofs.Common.{◌≡◌, ◌∷◌, ◌++◌, [], ap, length, arith}
use Rattle.std.proofs.lemmas.List.{length_push}
use Rattle.std.proofs.lemmas.List.Elements.{All-push, All-same}
use Rattle.spin_place.specs.declared.binding.Binding.{Binding}
use Rattle.spin_driver.proofs.raises.bindings_of.Goals as goal

pub loop-before-preserved : goal.loop-before-preserved
loop-before-preserved c =
    let P = λ (b : Binding). (b.handler ≡ 1) × (b.own_guard ≡ 0) × (b.imposed ≡ []) in
    let b = c.binding.result in
    let bare : P b = (c.binding.ensures.handler, c.binding.ensures.guards.0, c.binding.ensures.guards.1) in
    let is = c.in_ok-push.ensures.ok in
    let all = All-same P c.push.new.self (c.loop-before.bindings ++ b ∷ []) is (All-push P c.loop-before.bindings b c.loop-before.invariant.0 bare) in
    (all, omega (arith, ap length is, length_push c.loop-before.bindings b, c.loop-before.invariant.1))
