-- An event as raises find it.
use Rattle.std.proofs.Common.{◌≡◌, ℕ, ◌<◌, List, length, map, sym, ap, subst, ◌∙◌, Some, None, Bool, cond, inl, inr}
use Rattle.std.specs.Prelude.{slice_get, IsSomeAnd}
use Rattle.std.specs.Bool.{Decides}
use Rattle.std.specs.Option.{option_map, option_map_or}
use Rattle.std.proofs.lemmas.Option.{same_Some, slice_get-map, slice_get_cases}
use Rattle.spin_values.specs.declared.types.EventType.{EventType}
use Rattle.spin_values.specs.declared.values.Value.{Value}
use Rattle.spin_values.specs.Kinds.{kind_of, kinds_of}
use Rattle.spin_place.specs.declared.binding.Binding.{Binding}
use Rattle.spin_place.specs.Precedence.{IsTheOrder}
use Rattle.spin_raise.specs.Firing.{Bound, bound_of}
use Rattle.spin_table.specs.declared.event.EventDef.{EventDef}
use Rattle.spin_table.specs.Setups.{SetupData}
use Rattle.spin_table.specs.States.{State, EventState}
use Rattle.spin_table.specs.Orders.{arranged}
use Rattle.spin_table.specs.Soundness.{IsSound}
use Rattle.spin_proto.specs.Replies.{types_in}
use Rattle.spin_proto.proofs.RaiseLemmas.{bound_here, fit_is}
use Rattle.spin_host.specs.declared.fault.RaiseFault.TheVariants as fault
use Rattle.spin_host.specs.Levels.{OnEvent}
use Rattle.spin_host.specs.Opening.{begin_fault, args_fault}

pub found_here : (d : SetupData) (s : State) (event : ℕ) (e : EventDef) (plan : List Binding) (default : ℕ) → IsSound d s → slice_get d.events event ≡ Some e
    → IsSomeAnd (slice_get s.events event) (λ (t : EventState). default ≡ t.default)
    → IsSomeAnd (slice_get s.events event) (λ (t : EventState). (ns : List ℕ) → IsTheOrder t.bindings ns → plan ≡ arranged t.bindings ns)
    → OnEvent d s event (λ sig x. x ≡ bound_of plan e.merge default)
found_here d s event e plan default sound def at_default at_plan = λ bounds sig x are typed read.
    same_Some x (bound_of plan e.merge default) (sym read ∙ bound_here d s event e plan default sound def at_default at_plan bounds are)

-- what holds of the event that was found holds of the event
pub on_found : (d : SetupData) (s : State) (event : ℕ) (b : Bound) (P : EventType → Bound → Type 0) → OnEvent d s event (λ sig x. x ≡ b)
    → ((sig : EventType) → slice_get (types_in d) event ≡ Some sig → P sig b) → OnEvent d s event P
on_found d s event b P found h = λ bounds sig x are typed read. subst (P sig) (sym (found bounds sig x are typed read)) (h sig typed)

-- the type of an event that is there
pub typed_so : (d : SetupData) (event : ℕ) (e : EventDef) (sig : EventType) → slice_get d.events event ≡ Some e → slice_get (types_in d) event ≡ Some sig → sig ≡ e.sig
typed_so d event e sig def typed =
    same_Some sig e.sig (sym typed ∙ slice_get-map (λ (e : EventDef). e.sig) d.events event ∙ ap (option_map (λ (e : EventDef). e.sig)) def)

pub on_typed : (d : SetupData) (s : State) (event : ℕ) (b : Bound) (e : EventDef) (P : EventType → Bound → Type 0) → OnEvent d s event (λ sig x. x ≡ b)
    → slice_get d.events event ≡ Some e → P e.sig b → OnEvent d s event P
on_typed d s event b e P found def h =
    on_found d s event b P found (λ sig typed. subst (λ (t : EventType). P t b) (sym (typed_so d event e sig def typed)) h)

-- why a raise isn't opened
pub fault_is : (d : SetupData) (event : ℕ) (e : EventDef) (args : List Value) (r : Bool) → slice_get d.events event ≡ Some e → Decides r (map kind_of args ≡ kinds_of e.sig)
    → begin_fault d event args ≡ cond r None (Some fault.WrongArgs)
fault_is d event e args r def says =
    ap (λ o. option_map_or (λ (sig : EventType). args_fault sig args) o (Some fault.UnknownEvent))
    (slice_get-map (λ (e : EventDef). e.sig) d.events event ∙ ap (option_map (λ (e : EventDef). e.sig)) def)
    ∙ sym (ap (λ t. cond t None (Some fault.WrongArgs)) (fit_is e.sig args r says))

pub there_if_fit : (d : SetupData) (event : ℕ) (args : List Value) → begin_fault d event args ≡ None → event < length d.events
there_if_fit d event args fit =
    elim (slice_get_cases d.events event).1 [
      | inl (e, inside, here, at) ↦ inside
      | inr (past, none) ↦
          let is : begin_fault d event args ≡ Some fault.UnknownEvent =
          ap (λ o. option_map_or (λ (sig : EventType). args_fault sig args) o (Some fault.UnknownEvent))
          (slice_get-map (λ (e : EventDef). e.sig) d.events event ∙ ap (option_map (λ (e : EventDef). e.sig)) none) in
          absurd (cc)
    ]
