-- The step of a command from what is known of its event.
use Rattle.std.proofs.Common.{◌≡◌, ℕ, ◌+◌, ◌<◌, ◌≤◌, ◌==◌, ◌⊎◌, Bool, true, false, not, List, length, get_or, refl, sym, ap, subst, ◌∙◌, inl, inr, arith}
use Rattle.std.specs.Prelude.{slice_get, slice_set, Option, None, Some, MatchOption, Result, Ok, Err, IsErrAnd, IsSomeAnd, Contains, All, if◌then◌else◌}
use Rattle.std.proofs.lemmas.Bool.{cases_eq}
use Rattle.std.proofs.lemmas.List.{length-set, map-append, get_or-set_same, get_or-set_other, get_or_default}
use Rattle.std.proofs.lemmas.List.Elements.{All-contains, All-push, All-filter}
use Rattle.std.proofs.lemmas.Option.{slice_get_within, slice_get_read, slice_get_cases, get_or_from_slice_get, same_Some}
use Rattle.spin_word.specs.declared.command.Op.{Op}
use Rattle.spin_word.specs.declared.command.Op.TheVariants as op
use Rattle.spin_word.specs.declared.command.Command.{Command}
use Rattle.spin_policy.specs.declared.rule.Rule.{Rule}
use Rattle.spin_policy.specs.declared.rule.Verdict.{Verdict}
use Rattle.spin_values.specs.First.{first_of}
use Rattle.spin_place.specs.declared.binding.Binding.{Binding}
use Rattle.spin_place.specs.Precedence.{must_precede, numbers_of, HasLawfulOrder, IsCycle}
use Rattle.spin_table.specs.declared.event.EventDef.{EventDef}
use Rattle.spin_table.specs.declared.refusal.Refusal.{Refusal}
use Rattle.spin_table.specs.declared.refusal.Refusal.TheVariants as refusal
use Rattle.spin_table.specs.declared.refusal.Verdicted.TheVariants as verdicted
use Rattle.spin_table.specs.Setups.{SetupData, rules_of}
use Rattle.spin_table.specs.States.{State, EventState, VersionValue}
use Rattle.spin_table.specs.Verdicts.{answer_to}
use Rattle.spin_table.specs.Refusals.{refusals_at, refusal_on, refusal_of}
use Rattle.spin_table.specs.Steps.{replaced, replaced_at, bindings_after, default_after, event_after, events_after}
use Rattle.spin_table.specs.Steps.{state_after, bindings_if, bindings_at, IsOrderly, IsConflict, ChangesTo, IsStep, IsAnswer}
use Rattle.spin_table.specs.Orders.{IsOrderFault, IsChangeFault}
use Rattle.spin_table.specs.declared.refusal.StepFault.{StepFault}
use Rattle.spin_table.specs.declared.refusal.StepFault.TheVariants as fault
use Rattle.spin_table.specs.Faults.{IsSoundSetup}
use Rattle.spin_table.specs.Soundness.{IsSoundEvent, IsNumberAt, IsSound}
use Rattle.spin_table.proofs.LawfulOrders.{Alike, map-filter, numbers-map, HasLawfulOrder-filter, HasLawfulOrder-map}
use Rattle.spin_table.proofs.BindingSoundness.{number-replaced}
use Rattle.spin_table.proofs.StepSoundness.{IsSoundEvent-step}

-- what stands at the place that was written, and elsewhere
pub slice_get-set_same : {X : Type 0} (xs : List X) (at : ℕ) (x : X) → at < length xs → slice_get (slice_set xs at x) at ≡ Some x
slice_get-set_same xs at x inside =
    slice_get_read (slice_set xs at x) (length (slice_set xs at x)) at x refl (omega (arith, length-set xs at x)) (sym (get_or-set_same xs at x x inside))

pub at_set : {X : Type 0} (xs : List X) (at k : ℕ) (x y : X) → slice_get (slice_set xs at x) k ≡ Some y → (k ≡ at → ⊥) → slice_get xs k ≡ Some y
at_set xs at k x y read other =
    let inside : k < length xs = omega (arith, slice_get_within (slice_set xs at x) k y read, length-set xs at x) in
    slice_get_read xs (length xs) k y refl inside (sym (sym (get_or-set_other xs at k x y other) ∙ get_or_from_slice_get (slice_set xs at x) k y y read))

module _ (d : SetupData) (s : State) (c : Command) (e : EventDef) (t : EventState)
    (read_e : slice_get d.events c.event ≡ Some e) (read_t : slice_get s.events c.event ≡ Some t) where
  pub known : refusal_of d s c ≡ first_of (refusals_at d e t.bindings c)
  known = ap (λ o. refusal_on d c o (slice_get s.events c.event)) read_e ∙ ap (λ o. refusal_on d c (Some e) o) read_t

  pub events : events_after d.policies (s.place + 1) c (slice_get d.events c.event) (slice_get s.events c.event) s.events ≡ slice_set s.events c.event (event_after d.policies e (s.place + 1) c t)
  events = ap (λ o. events_after d.policies (s.place + 1) c o (slice_get s.events c.event) s.events) read_e ∙ ap (λ o. events_after d.policies (s.place + 1) c (Some e) o s.events) read_t

  pub next_bindings : bindings_at (state_after d c s) c.event ≡ (event_after d.policies e (s.place + 1) c t).bindings
  next_bindings =
      ap (λ es. bindings_if (slice_get es c.event)) events
      ∙ ap bindings_if (slice_get-set_same s.events c.event (event_after d.policies e (s.place + 1) c t) (slice_get_within s.events c.event t read_t))

  pub refused : (r : Refusal) → first_of (refusals_at d e t.bindings c) ≡ Some r → IsStep d s c (verdicted.Refused r) s
  refused r first =
      subst (λ o. MatchOption o (ChangesTo d s c (verdicted.Refused r) s) (λ r'. (verdicted.Refused r ≡ verdicted.Refused r') × (s ≡ s))) (sym (known ∙ first)) (refl, refl)

  pub unrefused : first_of (refusals_at d e t.bindings c) ≡ None → refusal_of d s c ≡ None
  unrefused none = known ∙ none

  passed : (P : Type 0) (Q : Refusal → Type 0) → first_of (refusals_at d e t.bindings c) ≡ None → P → MatchOption (refusal_of d s c) P Q
  passed P Q none p = subst (λ o. MatchOption o P Q) (sym (known ∙ none)) p

  pub conflict : (r : Refusal) → first_of (refusals_at d e t.bindings c) ≡ None → IsConflict c.op (event_after d.policies e (s.place + 1) c t).bindings r
      → IsStep d s c (verdicted.Refused r) s
  conflict r none is = passed _ _ none (refl, subst (λ bs. IsConflict c.op bs r) (sym next_bindings) is)

  pub accepted : (next : EventState) → first_of (refusals_at d e t.bindings c) ≡ None → next ≡ event_after d.policies e (s.place + 1) c t → IsOrderly c.op next.bindings
      → IsStep d s c verdicted.Accepted (record { place = s.place + 1; events = slice_set s.events c.event next })
  accepted next none is orderly =
      let same : slice_set s.events c.event next ≡ events_after d.policies (s.place + 1) c (slice_get d.events c.event) (slice_get s.events c.event) s.events =
      ap (slice_set s.events c.event) is ∙ sym events in
      let state : record { place = s.place + 1; events = slice_set s.events c.event next } ≡ state_after d c s = ap (λ (es : List EventState). record { place = s.place + 1; events = es }) same in
      let bindings : next.bindings ≡ bindings_at (state_after d c s) c.event = ap (λ (x : EventState). x.bindings) is ∙ sym next_bindings in
      passed _ _ none (state, subst (λ bs. IsOrderly c.op bs) bindings orderly)

-- an event that isn't there
pub unknown : (d : SetupData) (s : State) (c : Command) → slice_get d.events c.event ≡ None → IsStep d s c (verdicted.Refused refusal.UnknownEvent) s
unknown d s c none =
    let first : refusal_of d s c ≡ Some refusal.UnknownEvent = ap (λ o. refusal_on d c o (slice_get s.events c.event)) none in
    subst (λ o. MatchOption o (ChangesTo d s c (verdicted.Refused refusal.UnknownEvent) s) (λ r'. (verdicted.Refused refusal.UnknownEvent ≡ verdicted.Refused r') × (s ≡ s))) (sym first) (refl, refl)

-- each number after a command was there before, or is the new one
abbrev pub IsOldOr : List ℕ → ℕ → ℕ → Type 0
IsOldOr ns new n = Contains ns n ⊎ (n ≡ new)

all_old : (ns : List ℕ) (new : ℕ) → All (IsOldOr ns new) ns
all_old ns new = λ k d l. inl (k, l, get_or_default ns k (get_or ns k d) d l)

pub numbers_after : (d : SetupData) (e : EventDef) (t : EventState) (c : Command) (new : ℕ) (o : Op)
    → All (IsOldOr (numbers_of t.bindings) new) (numbers_of (bindings_after (rules_of d.policies e.authority) (answer_to d.policies e t.bindings c) new c o t.bindings))
numbers_after d e t c new op.Install =
    subst (λ ns. All (IsOldOr (numbers_of t.bindings) new) ns) (sym (map-append (λ (b : Binding). b.number) t.bindings _))
    (All-push (IsOldOr (numbers_of t.bindings) new) (numbers_of t.bindings) new (all_old (numbers_of t.bindings) new) (inr refl))
numbers_after d e t c new op.Remove =
    subst (λ ns. All (IsOldOr (numbers_of t.bindings) new) ns) (sym (map-filter (λ (b : Binding). b.number) (λ n. not (n == c.target)) t.bindings))
    (All-filter (λ n. not (n == c.target)) (IsOldOr (numbers_of t.bindings) new) (numbers_of t.bindings) (all_old (numbers_of t.bindings) new))
numbers_after d e t c new op.Replace =
    subst (λ ns. All (IsOldOr (numbers_of t.bindings) new) ns) (sym (numbers-map (replaced_at (rules_of d.policies e.authority) (answer_to d.policies e t.bindings c) c)
    (number-replaced (rules_of d.policies e.authority) (answer_to d.policies e t.bindings c) c) t.bindings))
    (all_old (numbers_of t.bindings) new)
numbers_after d e t c new op.Default = all_old (numbers_of t.bindings) new
numbers_after d e t c new op.NoDefault = all_old (numbers_of t.bindings) new

-- a later place leaves an event sound
later_event : (d : SetupData) (place event : ℕ) (e : EventDef) (t : EventState) → IsSoundEvent d place event e t → IsSoundEvent d (place + 1) event e t
later_event d place event e t s = record {
  rising = s.rising;
  installed = λ k x l. let h = s.installed k x l in (h.0, omega (arith, h.1));
  few = s.few;
  orderly = s.orderly;
  bindings = s.bindings;
  default = s.default;
}

-- a number stands at an event that is there
pub number_at : (s : State) (event number : ℕ) → IsNumberAt s event number → (t : EventState) × (slice_get s.events event ≡ Some t) × Contains (numbers_of t.bindings) number
number_at s event number is = from_option (slice_get s.events event) is
  where
    from_option : (o : Option EventState) → IsSomeAnd o (λ (t : EventState). Contains (numbers_of t.bindings) number) → (t : EventState) × (o ≡ Some t) × Contains (numbers_of t.bindings) number
    from_option None h = absurd h
    from_option (Some t) h = (t, refl, h)

pub is_number_at : (s : State) (event number : ℕ) (t : EventState) → slice_get s.events event ≡ Some t → Contains (numbers_of t.bindings) number → IsNumberAt s event number
is_number_at s event number t read h = subst (λ o. IsSomeAnd o (λ (t : EventState). Contains (numbers_of t.bindings) number)) (sym read) h

-- an event that the state has is one that the setup has
pub event_there : (d : SetupData) (s : State) (event : ℕ) (t : EventState) → length s.events ≡ length d.events → slice_get s.events event ≡ Some t
    → (e : EventDef) × (slice_get d.events event ≡ Some e)
event_there d s event t same read =
    elim (slice_get_cases d.events event).1 [
      | inl (e, inside, is, at) ↦ (e, is)
      | inr (past, none) ↦ absurd (omega (arith, slice_get_within s.events event t read))
    ]

module _ (d : SetupData) (s : State) (c : Command) (e : EventDef) (t next : EventState)
    (setup : IsSoundSetup d) (sound : IsSound d s)
    (read_e : slice_get d.events c.event ≡ Some e) (read_t : slice_get s.events c.event ≡ Some t)
    (none : first_of (refusals_at d e t.bindings c) ≡ None) (is : next ≡ event_after d.policies e (s.place + 1) c t) (orderly : HasLawfulOrder next.bindings) where
  abbrev pub after : State
  after = record { place = s.place + 1; events = slice_set s.events c.event next }

  new_event : IsSoundEvent d (s.place + 1) c.event e next
  new_event =
      subst (IsSoundEvent d (s.place + 1) c.event e) (sym is)
      (IsSoundEvent-step d s.place e t c setup read_e (sound.each c.event e t read_e read_t) none (subst (λ (x : EventState). HasLawfulOrder x.bindings) is orderly))

  each_event : (event : ℕ) (f : EventDef) (u : EventState) → slice_get d.events event ≡ Some f → slice_get after.events event ≡ Some u → IsSoundEvent d (s.place + 1) event f u
  each_event event f u read_f read_u =
      elim (cases_eq event c.event) [
        | inl same ↦
            let f_is : e ≡ f = same_Some _ _ (sym read_e ∙ ap (slice_get d.events) (sym same) ∙ read_f) in
            let u_is : next ≡ u = same_Some _ _ (sym (slice_get-set_same s.events c.event next (slice_get_within s.events c.event t read_t)) ∙ ap (slice_get after.events) (sym same) ∙ read_u) in
            subst (λ k. IsSoundEvent d (s.place + 1) k f u) (sym same) (subst (λ g. IsSoundEvent d (s.place + 1) c.event g u) f_is (subst (IsSoundEvent d (s.place + 1) c.event e) u_is new_event))
        | inr other ↦ later_event d s.place event f u (sound.each event f u read_f (at_set s.events c.event event next u read_u other))
      ]

  -- a number of another event isn't one of the new bindings
  stays_apart : (event number : ℕ) (u : EventState) → (event ≡ c.event → ⊥) → slice_get s.events event ≡ Some u → Contains (numbers_of u.bindings) number
      → Contains (numbers_of next.bindings) number → ⊥
  stays_apart event number u other read within here =
      let numbers : All (IsOldOr (numbers_of t.bindings) (s.place + 1)) (numbers_of next.bindings) =
      subst (λ (x : EventState). All (IsOldOr (numbers_of t.bindings) (s.place + 1)) (numbers_of x.bindings)) (sym is) (numbers_after d e t c (s.place + 1) c.op) in
      elim (All-contains (IsOldOr (numbers_of t.bindings) (s.place + 1)) (numbers_of next.bindings) number numbers here) [
        | inl old ↦ other (sound.apart event c.event number (is_number_at s event number u read within) (is_number_at s c.event number t read_t old))
        | inr new ↦
            let f = event_there d s event u sound.events read in
            let low = All-contains (λ n. (0 < n) × (n ≤ s.place)) (numbers_of u.bindings) number (sound.each event f.0 u f.1 read).installed within in
            omega (arith, low.1)
      ]

  old_number : (event number : ℕ) → (event ≡ c.event → ⊥) → IsNumberAt after event number → (u : EventState) × (slice_get s.events event ≡ Some u) × Contains (numbers_of u.bindings) number
  old_number event number other at =
      let there = number_at after event number at in
      (there.0, at_set s.events c.event event next there.0 there.1 other, there.2)

  new_number : (event number : ℕ) → event ≡ c.event → IsNumberAt after event number → Contains (numbers_of next.bindings) number
  new_number event number same at =
      let there = number_at after event number at in
      let u_is : there.0 ≡ next = same_Some _ _ (sym there.1 ∙ ap (slice_get after.events) same ∙ slice_get-set_same s.events c.event next (slice_get_within s.events c.event t read_t)) in
      subst (λ (x : EventState). Contains (numbers_of x.bindings) number) u_is there.2

  all_apart : (i j number : ℕ) → IsNumberAt after i number → IsNumberAt after j number → i ≡ j
  all_apart i j number first second =
      elim (cases_eq i c.event) [
        | inl i_is ↦ elim (cases_eq j c.event) [
          | inl j_is ↦ i_is ∙ sym j_is
          | inr j_other ↦
              let there = old_number j number j_other second in
              absurd (stays_apart j number there.0 j_other there.1 there.2 (new_number i number i_is first))
        ]
        | inr i_other ↦ elim (cases_eq j c.event) [
          | inl j_is ↦
              let there = old_number i number i_other first in
              absurd (stays_apart i number there.0 i_other there.1 there.2 (new_number j number j_is second))
          | inr j_other ↦
              let one = old_number i number i_other first in
              let two = old_number j number j_other second in
              sound.apart i j number (is_number_at s i number one.0 one.1 one.2) (is_number_at s j number two.0 two.1 two.2)
        ]
      ]

  pub sound_after : IsSound d after
  sound_after = record {
    events = length-set s.events c.event next ∙ sound.events;
    each = each_event;
    apart = all_apart;
  }

-- a replaced binding must precede what it had to, and be preceded by what had to precede it
alike : (rules : List Rule) (v : Verdict) (c : Command) → Alike (replaced_at rules v c)
alike rules v c = record {
  number = number-replaced rules v c;
  precedence = λ b b'. choose (b.number == c.target) (b'.number == c.target) b b';
}
  where
    choose : (x y : Bool) (b b' : Binding) → must_precede (if x then replaced rules v c b else b) (if y then replaced rules v c b' else b') ≡ must_precede b b'
    choose true true b b' = refl
    choose true false b b' = refl
    choose false true b b' = refl
    choose false false b b' = refl

-- an order of the bindings after a command other than an install
pub orderly_after : (d : SetupData) (e : EventDef) (t : EventState) (c : Command) (new : ℕ) (o : Op) → (o ≡ op.Install → ⊥) → HasLawfulOrder t.bindings
    → HasLawfulOrder (bindings_after (rules_of d.policies e.authority) (answer_to d.policies e t.bindings c) new c o t.bindings)
orderly_after d e t c new op.Install other orderly = absurd (other refl)
orderly_after d e t c new op.Remove other orderly = HasLawfulOrder-filter (λ n. not (n == c.target)) t.bindings orderly
orderly_after d e t c new op.Replace other orderly =
    HasLawfulOrder-map (replaced_at (rules_of d.policies e.authority) (answer_to d.policies e t.bindings c) c)
    (alike (rules_of d.policies e.authority) (answer_to d.policies e t.bindings c) c) t.bindings orderly
orderly_after d e t c new op.Default other orderly = orderly
orderly_after d e t c new op.NoDefault other orderly = orderly

-- a cycle is a conflict, since only an install can leave bindings without an order
conflict_at : (d : SetupData) (e : EventDef) (t : EventState) (c : Command) (new : ℕ) (ns : List ℕ) (o : Op) → HasLawfulOrder t.bindings
    → IsCycle (bindings_after (rules_of d.policies e.authority) (answer_to d.policies e t.bindings c) new c o t.bindings) ns
    → (HasLawfulOrder (bindings_after (rules_of d.policies e.authority) (answer_to d.policies e t.bindings c) new c o t.bindings) → ⊥)
    → IsConflict o (bindings_after (rules_of d.policies e.authority) (answer_to d.policies e t.bindings c) new c o t.bindings) (refusal.Conflict ns)
conflict_at d e t c new ns op.Install orderly cycle none = cycle
conflict_at d e t c new ns op.Remove orderly cycle none = absurd (none (orderly_after d e t c new op.Remove (λ q. cc) orderly))
conflict_at d e t c new ns op.Replace orderly cycle none = absurd (none (orderly_after d e t c new op.Replace (λ q. cc) orderly))
conflict_at d e t c new ns op.Default orderly cycle none = absurd (none (orderly_after d e t c new op.Default (λ q. cc) orderly))
conflict_at d e t c new ns op.NoDefault orderly cycle none = absurd (none (orderly_after d e t c new op.NoDefault (λ q. cc) orderly))

-- so is what comes of the search for an order
pub change_fault : (d : SetupData) (e : EventDef) (t : EventState) (c : Command) (new : ℕ) (f : StepFault) → HasLawfulOrder t.bindings
    → IsOrderFault (event_after d.policies e new c t).bindings f → IsChangeFault d.policies e new c t f
change_fault d e t c new fault.NoMemory orderly h = tt
change_fault d e t c new (fault.Refused (refusal.Conflict ns)) orderly h = conflict_at d e t c new ns c.op orderly h.0 h.1
change_fault d e t c new (fault.Refused refusal.UnknownEvent) orderly h = absurd h
change_fault d e t c new (fault.Refused refusal.UnknownModule) orderly h = absurd h
change_fault d e t c new (fault.Refused refusal.UnknownHandler) orderly h = absurd h
change_fault d e t c new (fault.Refused refusal.UnknownGuard) orderly h = absurd h
change_fault d e t c new (fault.Refused refusal.UnknownBinding) orderly h = absurd h
change_fault d e t c new (fault.Refused refusal.WrongType) orderly h = absurd h
change_fault d e t c new (fault.Refused refusal.Downward) orderly h = absurd h
change_fault d e t c new (fault.Refused refusal.WrongMode) orderly h = absurd h
change_fault d e t c new (fault.Refused (refusal.Denied rule)) orderly h = absurd h
change_fault d e t c new (fault.Refused refusal.TooMany) orderly h = absurd h
change_fault d e t c new (fault.Refused (refusal.ForcedMode rule)) orderly h = absurd h

-- a default and a no-default change the default alone
pub after_default : (policies : List (List Rule)) (e : EventDef) (place : ℕ) (c : Command) (t : EventState) → c.op ≡ op.Default
    → event_after policies e place c t ≡ record { bindings = t.bindings; default = c.handler }
after_default policies e place c t is =
    let state : Op → EventState =
    λ o. record { bindings = bindings_after (rules_of policies e.authority) (answer_to policies e t.bindings c) place c o t.bindings; default = default_after c o t.default } in
    ap state is

pub after_no_default : (policies : List (List Rule)) (e : EventDef) (place : ℕ) (c : Command) (t : EventState) → c.op ≡ op.NoDefault
    → event_after policies e place c t ≡ record { bindings = t.bindings; default = 0 }
after_no_default policies e place c t is =
    let state : Op → EventState =
    λ o. record { bindings = bindings_after (rules_of policies e.authority) (answer_to policies e t.bindings c) place c o t.bindings; default = default_after c o t.default } in
    ap state is

-- an order is all that an install asks beside
pub orderly_for : (o : Op) (bs : List Binding) → HasLawfulOrder bs → IsOrderly o bs
orderly_for op.Install bs h = h
orderly_for op.Remove bs h = tt
orderly_for op.Replace bs h = tt
orderly_for op.Default bs h = tt
orderly_for op.NoDefault bs h = tt

-- a fault of the change is the answer to the command
pub answer_of_fault : (d : SetupData) (s : State) (c : Command) (e : EventDef) (t : EventState)
    → slice_get d.events c.event ≡ Some e → slice_get s.events c.event ≡ Some t → first_of (refusals_at d e t.bindings c) ≡ None
    → (f : StepFault) → IsChangeFault d.policies e (s.place + 1) c t f → IsAnswer d s c (Err f)
answer_of_fault d s c e t read_e read_t none (fault.Refused r) h = conflict d s c e t read_e read_t r none h
answer_of_fault d s c e t read_e read_t none fault.NoMemory h = unrefused d s c e t read_e read_t none

-- want of memory is an answer where the command isn't refused
pub short_of_memory : (d : SetupData) (s : State) (c : Command) (r : Result VersionValue StepFault) → IsErrAnd r (λ f. f ≡ fault.NoMemory)
    → refusal_of d s c ≡ None → IsAnswer d s c r
short_of_memory d s c (Ok next) is none = absurd is
short_of_memory d s c (Err f) is none = subst (λ (x : StepFault). IsAnswer d s c (Err x)) (sym is) none
