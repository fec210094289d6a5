use Rattle.std.proofs.Common.{◌≡◌, ◌∙◌, List, refl, ap, subst}
use Rattle.spin_place.specs.declared.binding.Binding.{Binding}
use Rattle.spin_place.specs.Precedence.{IsTheOrder}
use Rattle.spin_table.specs.Orders.{arranged}
use Rattle.spin_table.proofs.ArrangedBindings.{same_order}
use Rattle.spin_table.proofs.lists.EventLists.make.Goals as goal

pub invariant_of-result : goal.invariant_of-result
invariant_of-result g c = λ ns is.
    let bs = c.args.bindings in
    let made = c.in-Ok.ensures.order in
    let order : IsTheOrder bs made.0 = subst (λ (l : List Binding). IsTheOrder l made.0) c.as_slice.ensures made.1 in
    let plan : c.in-Ok.plan.bindings ≡ arranged bs made.0 = made.2 ∙ ap (λ (l : List Binding). arranged l made.0) c.as_slice.ensures in
    plan ∙ ap (arranged bs) (same_order bs made.0 ns order is)

pub returns-clause-made : goal.returns-clause-made
returns-clause-made g c =
    let bs = c.args.bindings in
    let made = c.in-Ok.ensures.order in
    let order : IsTheOrder bs made.0 = subst (λ (l : List Binding). IsTheOrder l made.0) c.as_slice.ensures made.1 in
    (refl, (made.0, order.0))
