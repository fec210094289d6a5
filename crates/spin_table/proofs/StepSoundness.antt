-- An accepted step keeps a state sound.
use Rattle.std.proofs.Common.{◌≡◌, ℕ, ◌+◌, ◌-◌, ◌≤◌, ◌==◌, Bool, true, false, ◌||◌, List, length, get_or, refl, sym, ap, subst, ◌∙◌, inl, inr, arith}
use Rattle.std.specs.Prelude.{slice_get, Option, None, Some, IsTrue, All}
use Rattle.std.specs.List.{list_all}
use Rattle.std.specs.Option.{option_map_or}
use Rattle.std.proofs.lemmas.Bool.{cases_eq, eqb-true}
use Rattle.std.proofs.lemmas.List.{get_or_default}
use Rattle.std.proofs.lemmas.Option.{slice_get_within}
use Rattle.spin_word.specs.declared.command.Op.{Op}
use Rattle.spin_word.specs.declared.command.Op.TheVariants as op
use Rattle.spin_word.specs.declared.command.Command.{Command}
use Rattle.spin_word.specs.declared.command.Mode.TheVariants as mode
use Rattle.spin_word.specs.Commands.{handler_is_used}
use Rattle.spin_values.specs.First.{first_of, numbered}
use Rattle.spin_objects.specs.Units.{GuardUnit}
use Rattle.spin_place.specs.declared.binding.Binding.{Binding}
use Rattle.spin_place.specs.Precedence.{HasLawfulOrder}
use Rattle.spin_table.specs.declared.event.EventDef.{EventDef}
use Rattle.spin_table.specs.Setups.{SetupData}
use Rattle.spin_table.specs.States.{EventState}
use Rattle.spin_table.specs.Units.{is_fit_handler, is_fit_own_guard, is_fit_guard, is_fit_default, has_wrong_mode, same_parameter_kinds}
use Rattle.spin_table.specs.Verdicts.{answer_to}
use Rattle.spin_table.specs.Refusals.{refusals_at, mode_of, of_handler}
use Rattle.spin_table.specs.Steps.{default_after, event_after}
use Rattle.spin_table.specs.Faults.{IsSoundSetup}
use Rattle.spin_table.specs.Soundness.{IsSoundEvent}
use Rattle.spin_table.proofs.PassingCommands.{Passes, passes, fit_handler}
use Rattle.spin_table.proofs.BindingSoundness.{AreSound, AreSound-after, first_two}
use Rattle.spin_objects.proofs.NumberedItems.{numbered-at}
use Rattle.spin_table.proofs.ImposedGuards.{imposed_of_setup, list_all-at}

-- the bindings of a sound event are sound
pub AreSound-from : (d : SetupData) (place event : ℕ) (e : EventDef) (s : EventState) → IsSoundEvent d place event e s → AreSound d place event e s.bindings
AreSound-from d place event e s sound = record {
  rising = sound.rising;
  installed = sound.installed;
  few = sound.few;
  fit = λ k b l. sound.bindings k b l;
}

-- so are those that a command leaves to which no refusal but a conflict applies
pub AreSound-step : (d : SetupData) (place : ℕ) (e : EventDef) (s : EventState) (c : Command) → IsSoundSetup d → slice_get d.events c.event ≡ Some e
    → IsSoundEvent d place c.event e s → first_of (refusals_at d e s.bindings c) ≡ None
    → AreSound d (place + 1) c.event e (event_after d.policies e (place + 1) c s).bindings
AreSound-step d place e s c setup read sound none =
    AreSound-after d place e s.bindings c c.op refl (passes d e s.bindings c none)
    (imposed_of_setup d c.event e (answer_to d.policies e s.bindings c) setup read) (AreSound-from d place c.event e s sound)

fit_default_after : (d : SetupData) (e : EventDef) (bs : List Binding) (c : Command) (default : ℕ) (o : Op) → c.op ≡ o → Passes d e bs c
    → IsTrue (is_fit_default d.handlers c.event e default) → IsTrue (is_fit_default d.handlers c.event e (default_after c o default))
fit_default_after d e bs c default op.Default is p fit =
    or_true (c.handler == 0) (is_fit_handler d.handlers c.event e mode.Plain c.handler)
    (fit_handler d e bs c mode.Plain p (ap handler_is_used is) (subst (λ m. of_handler d.handlers c (λ h. has_wrong_mode m h.act) ≡ false) (ap (mode_of bs c) is) p.mode))
  where
    or_true : (a b : Bool) → b ≡ true → (a || b) ≡ true
    or_true true b e = refl
    or_true false b e = e
fit_default_after d e bs c default op.NoDefault is p fit = refl
fit_default_after d e bs c default op.Install is p fit = fit
fit_default_after d e bs c default op.Remove is p fit = fit
fit_default_after d e bs c default op.Replace is p fit = fit

-- the event's state after a command is sound, if its bindings have an order
pub IsSoundEvent-step : (d : SetupData) (place : ℕ) (e : EventDef) (s : EventState) (c : Command) → IsSoundSetup d → slice_get d.events c.event ≡ Some e
    → IsSoundEvent d place c.event e s → first_of (refusals_at d e s.bindings c) ≡ None
    → HasLawfulOrder (event_after d.policies e (place + 1) c s).bindings → IsSoundEvent d (place + 1) c.event e (event_after d.policies e (place + 1) c s)
IsSoundEvent-step d place e s c setup read sound none orderly =
    let bindings = AreSound-step d place e s c setup read sound none in
    record {
      rising = bindings.rising;
      installed = bindings.installed;
      few = bindings.few;
      orderly = orderly;
      bindings = bindings.fit;
      default = fit_default_after d e s.bindings c s.default c.op refl (passes d e s.bindings c none) sound.default;
    }

-- a guard that serves the event is there
there_if : (guards : List GuardUnit) (e : EventDef) (guard : ℕ) → is_fit_guard guards e guard ≡ true → guard ≤ length guards
there_if guards e guard fit = choose (numbered guards guard) refl fit
  where
    choose : (o : Option GuardUnit) → numbered guards guard ≡ o → option_map_or (λ (g : GuardUnit). same_parameter_kinds g.sig e.sig) o false ≡ true → guard ≤ length guards
    choose None is none = cc
    choose (Some g) is some =
        elim (cases_eq guard 0) [
          | inl zero ↦ omega arith
          | inr other ↦
              let inside = slice_get_within guards (guard - 1) g (sym (numbered-at guards guard other) ∙ is) in
              omega arith
        ]

own_there : (guards : List GuardUnit) (e : EventDef) (guard : ℕ) → is_fit_own_guard guards e guard ≡ true → guard ≤ length guards
own_there guards e guard fit = choose (guard == 0) refl fit
  where
    choose : (z : Bool) → (guard == 0) ≡ z → (z || is_fit_guard guards e guard) ≡ true → guard ≤ length guards
    choose true is f = let zero : guard ≡ 0 = eqb-true guard 0 is in omega arith
    choose false is f = there_if guards e guard f

-- the guards of sound bindings are there
pub guards_there : (d : SetupData) (place event : ℕ) (e : EventDef) (bs : List Binding) → AreSound d place event e bs
    → All (λ b. b.own_guard ≤ length d.guards) bs × All (λ b. All (λ g. g ≤ length d.guards) b.imposed) bs
guards_there d place event e bs s = (
  (λ k x l.
      let b = get_or bs k x in
      let parts = first_two (is_fit_handler d.handlers event e b.mode b.handler) (is_fit_own_guard d.guards e b.own_guard) (list_all (is_fit_guard d.guards e) b.imposed) (s.fit k x l) in
      own_there d.guards e b.own_guard parts.1),
  (λ k x l.
      let b = get_or bs k x in
      let parts = first_two (is_fit_handler d.handlers event e b.mode b.handler) (is_fit_own_guard d.guards e b.own_guard) (list_all (is_fit_guard d.guards e) b.imposed) (s.fit k x l) in
      λ i y m. there_if d.guards e (get_or b.imposed i y) (list_all-at (is_fit_guard d.guards e) b.imposed i (get_or b.imposed i y) parts.2 m (get_or_default b.imposed i (get_or b.imposed i y) y m))),
)
