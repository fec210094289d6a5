use Rattle.std.proofs.Common.{◌≡◌, ℕ, List, subst}
use Rattle.spin_place.specs.Precedence.{IsTheOrder}
use Rattle.spin_table.specs.Orders.{arranged}
use Rattle.spin_table.specs.Inner.Slots.{Listed}
use Rattle.spin_table.proofs.lists.EventLists.plan.Goals as goal

pub returns-clause-order : goal.returns-clause-order
returns-clause-order c =
    subst (λ (l : Listed). (ns : List ℕ) → IsTheOrder l.bindings ns → c.self.inside.plan.bindings ≡ arranged l.bindings ns) c.self.view_is c.self.invariant
