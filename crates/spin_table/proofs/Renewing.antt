-- The state before a renewal is the renewed one under the numbers before.
use Rattle.std.proofs.Common.{◌≡◌, ℕ, zero, suc, ◌+◌, ◌<◌, ◌≤◌, ◌==◌, Bool, true, false, cond, eqb, List, [], ◌∷◌, length, get_or, map, refl, sym, ap, subst, ◌∙◌, arith}
use Rattle.std.specs.Prelude.{Option, Some, is_some, find, slice_get}
use Rattle.std.specs.List.{All, Contains, range_with_len}
use Rattle.std.specs.Option.{option_map}
use Rattle.std.proofs.lemmas.Bool.{eq-eqb}
use Rattle.std.proofs.lemmas.List.{length-map, get_or-map}
use Rattle.std.proofs.lemmas.List.Elements.{All-head, All-tail, All-map}
use Rattle.std.proofs.lemmas.List.Folds.{list_any_at}
use Rattle.std.proofs.lemmas.List.FromFn.{length-range_with_len}
use Rattle.spin_table.proofs.BindingSoundness.{length-filter-le}
use Rattle.std.proofs.lemmas.Option.{slice_get-map, slice_get_within, get_or_from_slice_get, same_Some}
use Rattle.spin_word.specs.Commands.{no_number}
use Rattle.spin_place.specs.declared.binding.Binding.{Binding}
use Rattle.spin_table.specs.Setups.{SetupData}
use Rattle.spin_table.specs.States.{State, EventState, is_live}
use Rattle.spin_table.specs.Soundness.{IsSound}
use Rattle.spin_table.specs.Renamings.{IsRenamedBinding, AreRenamed, IsRenamedEvent, IsRenamed}
use Rattle.spin_table.specs.Renewals.{is_live_in, live_numbers, new_number, old_number, renewed_binding, renewed_event, renewed, IsGiven, NamesGiven, NameGiven, RenewalsAreRenamings, RenewalsAreSound}
use Rattle.spin_table.proofs.CommandSteps.{event_there}
use Rattle.spin_table.proofs.RenamedSound.{sound_back}
use Rattle.spin_table.proofs.RenewedNumbers.{AreNumbers, are_numbers, number_in, old_rises, high_number, renewed_number, renewed_names, new_given}

found_next : (b : Bool) (x : Binding) (o : Option Binding) → is_some o ≡ true → is_some (cond b (Some x) o) ≡ true
found_next true x o h = refl
found_next false x o h = h

-- a binding of the list is live
live_here : (bs : List Binding) (k : ℕ) (d : Binding) → k < length bs → is_live bs (get_or bs k d).number ≡ true
live_here [] k d l = absurd (omega arith)
live_here (b ∷ bs) zero d l = ap (λ x. is_some (cond x (Some b) (find (λ y. y.number == b.number) bs))) (eq-eqb b.number b.number refl)
live_here (b ∷ bs) (suc k) d l = found_next (eqb b.number (get_or bs k d).number) b (find (λ y. y.number == (get_or bs k d).number) bs) (live_here bs k d (omega arith))

-- what a renewal asks of a binding: it is live, and its constraints name what was given
pub record CanRenew (place : ℕ) (live : List ℕ) (b : Binding) : Type 0 where
  pub number : Contains live b.number
  pub named : b.number < no_number
  pub names : NamesGiven place b

module _ (place : ℕ) (live : List ℕ) (are : AreNumbers place live) where
  renewed_one : (b : Binding) → CanRenew place live b → IsRenamedBinding (old_number live place) (renewed_binding live b) b
  renewed_one b can =
      let number = renewed_number place live are b.number can.number in
      record {
        number = sym number.old;
        some = number.some;
        named = can.named;
        before = renewed_names place live are b.before can.names.0;
        after = renewed_names place live are b.after can.names.1;
        rest = refl;
      }

  renewed_all : (bs : List Binding) → All (CanRenew place live) bs → AreRenamed (old_number live place) (map (renewed_binding live) bs) bs
  renewed_all [] can = tt
  renewed_all (b ∷ bs) can = (renewed_one b (All-head (CanRenew place live) b bs can), renewed_all bs (All-tail (CanRenew place live) b bs can))

module _ (d : SetupData) (s : State) (sound : IsSound d s) (given : NameGiven s) (room : s.place < no_number) where
  are : AreNumbers s.place (live_numbers s)
  are = are_numbers s.place (is_live_in s)

  pub can_renew : (event : ℕ) (e : EventState) → slice_get s.events event ≡ Some e → All (CanRenew s.place (live_numbers s)) e.bindings
  can_renew event e read k x inside =
      let b = get_or e.bindings k x in
      let def = event_there d s event e sound.events read in
      let installed = sound.each event def.0 e def.1 read in
      let within = slice_get_within s.events event e read in
      let here : get_or s.events event e ≡ e = get_or_from_slice_get s.events event e e read in
      let number : (0 < b.number) × (b.number ≤ s.place) =
      subst (λ n. (0 < n) × (n ≤ s.place)) (get_or-map (λ (y : Binding). y.number) e.bindings k x 0 inside)
      (installed.installed k 0 (let size = length-map e.bindings (λ (y : Binding). y.number) in omega arith)) in
      let live : is_live_in s b.number ≡ true =
      list_any_at (λ (f : EventState). is_live f.bindings b.number) s.events event e within (ap (λ (f : EventState). is_live f.bindings b.number) here ∙ live_here e.bindings k x inside) in
      let low = number.1 in
      record {
        number = number_in s.place (is_live_in s) b.number number.0 number.1 live;
        named = omega arith;
        names = subst (λ (f : EventState). All (NamesGiven s.place) f.bindings) here (given event e within) k x inside;
      }

  event_renamed : (event : ℕ) (x e : EventState) → slice_get (renewed s).events event ≡ Some x → slice_get s.events event ≡ Some e → IsRenamedEvent (old_number (live_numbers s) s.place) x e
  event_renamed event x e read_x read_e =
      let is : renewed_event (live_numbers s) e ≡ x =
      same_Some _ _ (sym (slice_get-map (renewed_event (live_numbers s)) s.events event ∙ ap (option_map (renewed_event (live_numbers s))) read_e) ∙ read_x) in
      subst (λ y. IsRenamedEvent (old_number (live_numbers s) s.place) y e) is (record {
        bindings = renewed_all s.place (live_numbers s) are e.bindings (can_renew event e read_e);
        default = refl;
      })

  pub renewal_renamed : IsRenamed (old_number (live_numbers s) s.place) (renewed s) s
  renewal_renamed = record {
    coming = λ n. let high = high_number s.place (live_numbers s) are (length (live_numbers s) + 1 + n) (omega arith) in omega arith;
    events = sym (length-map s.events (renewed_event (live_numbers s)));
    each = event_renamed;
  }

pub renewals_rename : RenewalsAreRenamings
renewals_rename d s sound given room = (old_rises s.place (live_numbers s) (are_numbers s.place (is_live_in s)), renewal_renamed d s sound given room)

-- constraints of the renewed bindings name numbers that were given
renewed_given : (live : List ℕ) (place : ℕ) → AreNumbers place live → (b : Binding) → NamesGiven (length live) (renewed_binding live b)
renewed_given live place are b = (
  All-map (IsGiven (length live)) (new_number live) b.before (λ k x l. new_given place live are (get_or b.before k x)),
  All-map (IsGiven (length live)) (new_number live) b.after (λ k x l. new_given place live are (get_or b.after k x)),
)

pub renewals_sound : RenewalsAreSound
renewals_sound d s sound given room =
    let are = are_numbers s.place (is_live_in s) in
    let live = live_numbers s in (
      sound_back d (old_number live s.place) (old_rises s.place live are) (renewed s) s (renewal_renamed d s sound given room) sound,
      All-map (λ (u : EventState). All (NamesGiven (length live)) u.bindings) (renewed_event live) s.events
          (λ k x l. All-map (NamesGiven (length live)) (renewed_binding live) (get_or s.events k x).bindings (λ i y m. renewed_given live s.place are (get_or (get_or s.events k x).bindings i y))),
      let few = length-filter-le (is_live_in s) (range_with_len 1 s.place) in let size = length-range_with_len 1 s.place in omega arith,
    )
