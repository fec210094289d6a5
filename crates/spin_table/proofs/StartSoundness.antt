-- The start of a sound setup is sound.
use Rattle.std.proofs.Common.{◌≡◌, ℕ, ◌<◌, Bool, true, false, not, [], length, refl, sym, ap, subst, ◌∙◌, arith}
use Rattle.std.specs.Prelude.{slice_get, None, Some, position, Contains}
use Rattle.std.specs.List.{enumerate_from}
use Rattle.std.specs.Option.{option_map}
use Rattle.std.proofs.lemmas.List.{length-map}
use Rattle.std.proofs.lemmas.List.FromFn.{length-enumerate_from}
use Rattle.std.proofs.lemmas.List.Sorted.{IsPermutation-refl}
use Rattle.std.proofs.lemmas.Option.{slice_get-map, slice_get_within, slice_get_read, get_or_from_slice_get, same_Some}
use Rattle.spin_place.specs.Precedence.{numbers_of}
use Rattle.spin_table.specs.declared.event.EventDef.{EventDef}
use Rattle.spin_table.specs.declared.fault.SetupFault.TheVariants as fault
use Rattle.spin_table.specs.Setups.{SetupData}
use Rattle.spin_table.specs.States.{EventState, first_state, start_of}
use Rattle.spin_table.specs.Units.{is_fit_default}
use Rattle.spin_table.specs.Faults.{faults_of, has_bad_default, IsSoundSetup}
use Rattle.spin_table.specs.Soundness.{IsSoundEvent, IsNumberAt, IsSound}
use Rattle.spin_table.proofs.ImposedGuards.{no_faults, unmapped, position-fails}
use Rattle.spin_table.proofs.FirstPlaces.{enumerated}
use Rattle.spin_table.proofs.CommandSteps.{number_at, event_there}

opposite : (b : Bool) → not b ≡ false → b ≡ true
opposite true e = refl
opposite false e = cc

-- the first default of an event serves it
first_default_fit : (d : SetupData) (event : ℕ) (e : EventDef) → IsSoundSetup d → slice_get d.events event ≡ Some e → is_fit_default d.handlers event e e.first_default ≡ true
first_default_fit d event e sound read =
    let fourth : option_map (λ at. fault.BadDefault at) (position (has_bad_default d.handlers) (enumerate_from 0 d.events)) ≡ None = no_faults (faults_of d) sound 4 in
    let none : position (has_bad_default d.handlers) (enumerate_from 0 d.events) ≡ None =
    unmapped (λ at. fault.BadDefault at) (position (has_bad_default d.handlers) (enumerate_from 0 d.events)) fourth in
    let inside : event < length d.events = slice_get_within d.events event e read in
    let there : slice_get (enumerate_from 0 d.events) event ≡ Some (event, e) =
    slice_get_read (enumerate_from 0 d.events) (length (enumerate_from 0 d.events)) event (event, e) refl
    (omega (arith, length-enumerate_from 0 d.events)) (sym (enumerated d.events event e inside (get_or_from_slice_get d.events event e e read))) in
    opposite (is_fit_default d.handlers event e e.first_default) (position-fails (has_bad_default d.handlers) (enumerate_from 0 d.events) event (event, e) none there)

first_sound : (d : SetupData) (event : ℕ) (e : EventDef) → IsSoundSetup d → slice_get d.events event ≡ Some e → IsSoundEvent d 0 event e (first_state e)
first_sound d event e sound read = record {
  rising = λ k l. absurd (omega arith);
  installed = λ k x l. absurd (omega arith);
  few = omega arith;
  orderly = ([], (IsPermutation-refl [], λ i j x l m. absurd (omega arith)));
  bindings = λ k x l. absurd (omega arith);
  default = first_default_fit d event e sound read;
}

-- what the start has at an event
first_is : (d : SetupData) (event : ℕ) (e : EventDef) (t : EventState) → slice_get d.events event ≡ Some e → slice_get (start_of d).events event ≡ Some t → first_state e ≡ t
first_is d event e t read_e read_t = same_Some _ _ (sym (slice_get-map first_state d.events event ∙ ap (option_map first_state) read_e) ∙ read_t)

no_number_at : (d : SetupData) (event number : ℕ) → IsNumberAt (start_of d) event number → ⊥
no_number_at d event number is =
    let there = number_at (start_of d) event number is in
    let e = event_there d (start_of d) event there.0 (length-map d.events first_state) there.1 in
    let here : Contains (numbers_of (first_state e.0).bindings) number =
    subst (λ (t : EventState). Contains (numbers_of t.bindings) number) (sym (first_is d event e.0 there.0 e.1 there.1)) there.2 in
    let past = here.1 in
    omega arith

pub start_sound : (d : SetupData) → IsSoundSetup d → IsSound d (start_of d)
start_sound d sound = record {
  events = length-map d.events first_state;
  each = λ event e t read_e read_t. subst (IsSoundEvent d 0 event e) (first_is d event e t read_e read_t) (first_sound d event e sound read_e);
  apart = λ i j number first second. absurd (no_number_at d i number first);
}
