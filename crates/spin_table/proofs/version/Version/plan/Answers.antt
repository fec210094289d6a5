use Rattle.std.proofs.Common.{◌≡◌, ◌∙◌, ℕ, List, sym, ap, subst}
use Rattle.std.specs.Prelude.{slice_get, Some, IsSomeAnd}
use Rattle.std.specs.Arc.{arc_value}
use Rattle.spin_place.specs.Precedence.{IsTheOrder}
use Rattle.spin_plan.specs.Planned.{Planned, IsOver}
use Rattle.spin_table.specs.States.{EventState, VersionValue}
use Rattle.spin_table.specs.Orders.{arranged}
use Rattle.spin_table.specs.Inner.Slots.{Listed, Slot, IsSlotOver}
use Rattle.spin_table.proofs.Slots.{state_there, over_there}
use Rattle.spin_table.proofs.version.Version.plan.Goals as goal

pub returns-clause-order : goal.returns-clause-order
returns-clause-order c =
    let t = c.get.result.now in
    let v = c.self.inside in
    let read : slice_get c.args.self.now.state.events c.args.event ≡ Some t.state = state_there v.place v.events (arc_value v.tests) c.args.self.now c.args.event t c.self.view_is c.get.ensures in
    let same : c.deref.result.now.bindings ≡ t.state.bindings = ap (λ (l : Listed). l.bindings) c.deref.ensures ∙ ap (λ (x : Slot). x.state.bindings) c.behind-self.view_is in
    subst (λ o. IsSomeAnd o (λ (e : EventState). (ns : List ℕ) → IsTheOrder e.bindings ns → c.plan.result.now.bindings ≡ arranged e.bindings ns)) (sym read)
    (subst (λ bs. (ns : List ℕ) → IsTheOrder bs ns → c.plan.result.now.bindings ≡ arranged bs ns) same c.plan.ensures.order)

pub returns-clause-over : goal.returns-clause-over
returns-clause-over c =
    let t = c.get.result.now in
    let over : IsSlotOver (arc_value c.self.inside.tests) t = over_there (arc_value c.self.inside.tests) c.self.inside.events c.args.event t c.self.invariant c.get.ensures in
    let same : t.plan ≡ c.plan.result.now = sym (c.plan.ensures.value ∙ ap (λ (l : Listed). l.plan) c.deref.ensures ∙ ap (λ (x : Slot). x.plan) c.behind-self.view_is) in
    subst (λ (v : VersionValue). IsOver v.tests c.plan.result.now) c.self.view_is (subst (λ (p : Planned). IsOver (arc_value c.self.inside.tests) p) same over)
