-- Constraints name numbers that were given.
use Rattle.std.proofs.Common.{◌≡◌, ℕ, zero, suc, ◌+◌, ◌<◌, ◌≤◌, ◌==◌, Bool, true, false, not, ◌&&◌, ◌||◌, cond}
use Rattle.std.proofs.Common.{List, [], ◌∷◌, length, get_or, refl, sym, ap, subst, ◌∙◌, inl, inr, arith}
use Rattle.std.specs.Prelude.{Option, None, Some, MatchOption, slice_get, slice_set, find, is_some, if◌then◌else◌}
use Rattle.std.specs.List.{All, Contains, list_any}
use Rattle.std.proofs.lemmas.Bool.{cases_eq, eqb-true}
use Rattle.std.proofs.lemmas.List.{length-set, get_or-set_same, get_or-set_other}
use Rattle.std.proofs.lemmas.List.Elements.{All-map, All-filter, All-push, All-contains}
use Rattle.std.proofs.lemmas.Option.{slice_get_within, get_or_from_slice_get}
use Rattle.spin_word.specs.declared.command.Op.{Op}
use Rattle.spin_word.specs.declared.command.Op.TheVariants as op
use Rattle.spin_word.specs.declared.command.Command.{Command}
use Rattle.spin_word.specs.Commands.{no_number, target_is_used}
use Rattle.spin_policy.specs.declared.rule.Forced.{Forced}
use Rattle.spin_policy.specs.declared.rule.Forced.TheVariants as forced
use Rattle.spin_policy.specs.declared.rule.Rule.{Rule}
use Rattle.spin_policy.specs.declared.rule.Verdict.{Verdict}
use Rattle.spin_policy.specs.Imposed.{forced_place}
use Rattle.spin_values.specs.First.{first_of}
use Rattle.spin_place.specs.declared.binding.Binding.{Binding}
use Rattle.spin_place.specs.Precedence.{numbers_of}
use Rattle.spin_table.specs.declared.event.EventDef.{EventDef}
use Rattle.spin_table.specs.declared.refusal.Refusal.{Refusal}
use Rattle.spin_table.specs.declared.refusal.Refusal.TheVariants as refusal
use Rattle.spin_table.specs.declared.refusal.Verdicted.{Verdicted}
use Rattle.spin_table.specs.declared.refusal.Verdicted.TheVariants as verdicted
use Rattle.spin_table.specs.Setups.{SetupData, rules_of}
use Rattle.spin_table.specs.States.{State, EventState, is_live, first_state, start_of}
use Rattle.spin_table.specs.Verdicts.{answer_to}
use Rattle.spin_table.specs.Refusals.{names_unknown, refusals_at, refusal_of}
use Rattle.spin_table.specs.Steps.{no_numbers, numbers_under, installed, replaced_at, replaced, bindings_after, event_after, state_after, ChangesTo}
use Rattle.spin_table.specs.Soundness.{IsSound}
use Rattle.spin_table.specs.Renewals.{IsGiven, NamesGiven, NameGiven, NamesStayGiven}
use Rattle.spin_table.proofs.PassingCommands.{none_hold}
use Rattle.spin_table.proofs.CommandSteps.{events, known}
use Rattle.spin_table.proofs.RenamedSteps.{event_of}

-- a number that was given stays so
later : (m n : ℕ) → m ≤ n → (k : ℕ) → IsGiven m k → IsGiven n k
later m n le k (inl within) = let low = within.1 in inl (within.0, omega arith)
later m n le k (inr none) = inr none

later_all : (m n : ℕ) → m ≤ n → (b : Binding) → NamesGiven m b → NamesGiven n b
later_all m n le b given = ((λ k d l. later m n le (get_or b.before k d) (given.0 k d l)), (λ k d l. later m n le (get_or b.after k d) (given.1 k d l)))

-- a live number is one of the bindings'
live_number : (bs : List Binding) (n : ℕ) → is_live bs n ≡ true → Contains (numbers_of bs) n
live_number [] n live = absurd (cc (live))
live_number (b ∷ bs) n live = first_or_rest (b.number == n) refl live (live_number bs n)
  where
    first_or_rest : (x : Bool) → (b.number == n) ≡ x → is_some (cond x (Some b) (find (λ y. y.number == n) bs)) ≡ true
        → (is_live bs n ≡ true → Contains (numbers_of bs) n) → Contains (b.number ∷ numbers_of bs) n
    first_or_rest true is h later_one = (0, omega arith, eqb-true b.number n is)
    first_or_rest false is h later_one = let rest = later_one h in let inside = rest.1 in (suc rest.0, omega arith, rest.2)

module _ (place : ℕ) (bs : List Binding) (low : All (λ n. (0 < n) × (n ≤ place)) (numbers_of bs)) where
  known_one : (n : ℕ) → names_unknown bs n ≡ false → IsGiven place n
  known_one n known = choose (n == no_number) refl (is_live bs n) refl known
    where
      choose : (x : Bool) → (n == no_number) ≡ x → (y : Bool) → is_live bs n ≡ y → (not x && not y) ≡ false → IsGiven place n
      choose true is y live h = inr (eqb-true n no_number is)
      choose false is true live h = inl (All-contains (λ m. (0 < m) × (m ≤ place)) (numbers_of bs) n low (live_number bs n live))
      choose false is false live h = absurd (cc (h))

  -- the numbers that a command names were given, if it isn't refused for one of them
  known_all : (ns : List ℕ) → list_any (names_unknown bs) ns ≡ false → All (IsGiven place) ns
  known_all [] known k d l = absurd (omega arith)
  known_all (n ∷ ns) known zero d l = known_one n (first_false (names_unknown bs n) (list_any (names_unknown bs) ns) known)
    where
      first_false : (x y : Bool) → (x || y) ≡ false → x ≡ false
      first_false true y h = cc
      first_false false y h = refl
  known_all (n ∷ ns) known (suc k) d l = known_all ns (second_false (names_unknown bs n) (list_any (names_unknown bs) ns) known) k d (omega arith)
    where
      second_false : (x y : Bool) → (x || y) ≡ false → y ≡ false
      second_false true y h = cc
      second_false false y h = h

none_given : (place : ℕ) → All (IsGiven place) no_numbers
none_given place zero d l = inr refl
none_given place (suc zero) d l = inr refl
none_given place (suc (suc zero)) d l = inr refl
none_given place (suc (suc (suc zero))) d l = inr refl
none_given place (suc (suc (suc (suc k)))) d l = absurd (omega arith)

under_given : (place : ℕ) (f : Forced) (ns : List ℕ) → All (IsGiven place) ns → All (IsGiven place) (numbers_under f ns)
under_given place forced.Keep ns given = given
under_given place forced.First ns given = none_given place
under_given place forced.Last ns given = none_given place

replaced_given : (place : ℕ) (rules : List Rule) (v : Verdict) (c : Command) (b : Binding) (x : Bool) → NamesGiven place b → NamesGiven place (if x then replaced rules v c b else b)
replaced_given place rules v c b true given = given
replaced_given place rules v c b false given = given

module _ (place : ℕ) (rules : List Rule) (v : Verdict) (new : ℕ) (c : Command) (before : All (IsGiven place) c.before) (after : All (IsGiven place) c.after) where
  -- what is installed names what the command names
  bindings_given : (o : Op) (bs : List Binding) → All (NamesGiven place) bs → All (NamesGiven place) (bindings_after rules v new c o bs)
  bindings_given op.Install bs given =
      All-push (NamesGiven place) bs (installed rules v new c) given (under_given place (forced_place rules v) c.before before, under_given place (forced_place rules v) c.after after)
  bindings_given op.Remove bs given = All-filter (λ b. not (b.number == c.target)) (NamesGiven place) bs given
  bindings_given op.Replace bs given =
      All-map (NamesGiven place) (replaced_at rules v c) bs (λ k d l. replaced_given place rules v c (get_or bs k d) ((get_or bs k d).number == c.target) (given k d l))
  bindings_given op.Default bs given = given
  bindings_given op.NoDefault bs given = given

last_two : (x y z : Bool) → (x || y || z) ≡ false → (y ≡ false) × (z ≡ false)
last_two false false false h = (refl, refl)
last_two true y z h = cc
last_two false true z h = cc
last_two false false true h = cc

module _ (d : SetupData) (s : State) (c : Command) (sound : IsSound d s) (given : NameGiven s) (e : EventDef) (t : EventState)
    (read_e : slice_get d.events c.event ≡ Some e) (read_t : slice_get s.events c.event ≡ Some t) (none : first_of (refusals_at d e t.bindings c) ≡ None) where
  known_names : (list_any (names_unknown t.bindings) c.before ≡ false) × (list_any (names_unknown t.bindings) c.after ≡ false)
  known_names =
      last_two (target_is_used c.op && not (is_live t.bindings c.target)) (list_any (names_unknown t.bindings) c.before) (list_any (names_unknown t.bindings) c.after)
      (none_hold (refusals_at d e t.bindings c) none 3 refusal.TooMany)

  names_later : (ns : List ℕ) → list_any (names_unknown t.bindings) ns ≡ false → All (IsGiven (s.place + 1)) ns
  names_later ns known k x l = later s.place (s.place + 1) (omega arith) (get_or ns k x) (known_all s.place t.bindings (sound.each c.event e t read_e read_t).installed ns known k x l)

  place_given : (k : ℕ) (x : EventState) → k < length s.events → All (NamesGiven (s.place + 1)) (get_or s.events k x).bindings
  place_given k x l i y m = later_all s.place (s.place + 1) (omega arith) (get_or (get_or s.events k x).bindings i y) (given k x l i y m)

  new_event : EventState
  new_event = event_after d.policies e (s.place + 1) c t

  event_given : All (NamesGiven (s.place + 1)) new_event.bindings
  unfolding new_event
  event_given =
      let inside = slice_get_within s.events c.event t read_t in
      let here : get_or s.events c.event t ≡ t = get_or_from_slice_get s.events c.event t t read_t in
      bindings_given (s.place + 1) (rules_of d.policies e.authority) (answer_to d.policies e t.bindings c) (s.place + 1) c
      (names_later c.before known_names.0) (names_later c.after known_names.1) c.op t.bindings
      (subst (λ (u : EventState). All (NamesGiven (s.place + 1)) u.bindings) here (place_given c.event t inside))

  set_given : All (λ (u : EventState). All (NamesGiven (s.place + 1)) u.bindings) (slice_set s.events c.event new_event)
  set_given k x l =
      let size = length-set s.events c.event new_event in
      elim (cases_eq k c.event) [
        | inl at ↦
            let is : get_or (slice_set s.events c.event new_event) k x ≡ new_event =
            ap (λ i. get_or (slice_set s.events c.event new_event) i x) at ∙ get_or-set_same s.events c.event new_event x (omega arith) in
            subst (λ (u : EventState). All (NamesGiven (s.place + 1)) u.bindings) (sym is) event_given
        | inr other ↦
            subst (λ (u : EventState). All (NamesGiven (s.place + 1)) u.bindings) (sym (get_or-set_other s.events c.event k new_event x other)) (place_given k x (omega arith))
      ]

  after_given : NameGiven (state_after d c s)
  unfolding new_event
  after_given = subst (λ (us : List EventState). All (λ (u : EventState). All (NamesGiven (s.place + 1)) u.bindings) us) (sym (events d s c e t read_e read_t)) set_given

given_change : (d : SetupData) (s : State) (c : Command) → IsSound d s → NameGiven s → refusal_of d s c ≡ None → (v : Verdicted) (next : State) → ChangesTo d s c v next → NameGiven next
given_change d s c sound given none verdicted.Accepted next h =
    let there = event_of d c (slice_get d.events c.event) (slice_get s.events c.event) none in
    let first = sym (known d s c there.0 there.1 there.2 there.3) ∙ none in
    subst NameGiven (sym h.0) (after_given d s c sound given there.0 there.1 there.2 there.3 first)
given_change d s c sound given none (verdicted.Refused r) next h = subst NameGiven (sym h.0) given

given_step : (d : SetupData) (s : State) (c : Command) (v : Verdicted) (next : State) → IsSound d s → NameGiven s → (o : Option Refusal) → refusal_of d s c ≡ o
    → MatchOption o (ChangesTo d s c v next) (λ r. (v ≡ verdicted.Refused r) × (next ≡ s)) → NameGiven next
given_step d s c v next sound given None is h = given_change d s c sound given is v next h
given_step d s c v next sound given (Some r) is h = subst NameGiven (sym h.1) given

given_start : (d : SetupData) → NameGiven (start_of d)
given_start d =
    All-map (λ (u : EventState). All (NamesGiven 0) u.bindings) first_state d.events (λ k x l i y m. absurd (omega arith))

pub names_stay_given : NamesStayGiven
names_stay_given d = (given_start d, λ s c v next sound given step. given_step d s c v next sound given (refusal_of d s c) refl step)
