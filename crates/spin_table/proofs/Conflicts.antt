-- When a command may be refused by a conflict.
use Rattle.std.proofs.Common.{◌≡◌, ℕ, ◌+◌, ◌<◌, ◌≤◌, inl, inr, Bool, true, false, not, List, [], ◌∷◌, get_or, refl, sym, ap, subst, ◌∙◌, arith}
use Rattle.std.specs.Prelude.{slice_get, Option, None, Some, MatchOption, Decides, All, ◌&&◌}
use Rattle.std.specs.List.{list_all, AllByRecursion}
use Rattle.std.proofs.lemmas.List.{get_or-map, length-map, get_or_default}
use Rattle.std.proofs.lemmas.List.Elements.{All-from_recursion}
use Rattle.spin_word.specs.declared.command.Op.{Op}
use Rattle.spin_word.specs.declared.command.Op.TheVariants as op
use Rattle.spin_word.specs.declared.command.Command.{Command}
use Rattle.spin_policy.specs.Verdicts.{is_install}
use Rattle.spin_values.specs.First.{first_of}
use Rattle.spin_place.specs.declared.binding.Binding.{Binding}
use Rattle.spin_place.specs.Orders.{Leads, IsRing}
use Rattle.spin_place.specs.Precedence.{numbers_of, MustPrecede, IsCycle}
use Rattle.spin_table.specs.declared.event.EventDef.{EventDef}
use Rattle.spin_table.specs.declared.refusal.Refusal.{Refusal}
use Rattle.spin_table.specs.declared.refusal.Refusal.TheVariants as refusal
use Rattle.spin_table.specs.declared.refusal.Verdicted.TheVariants as verdicted
use Rattle.spin_table.specs.Setups.{SetupData}
use Rattle.spin_table.specs.States.{State, EventState}
use Rattle.spin_table.specs.Refusals.{refusals_at, refusal_on, refusal_of}
use Rattle.spin_table.specs.Steps.{event_after, state_after, bindings_at, IsConflict, ChangesTo, MayConflict}
use Rattle.spin_table.specs.Soundness.{IsSound}
use Rattle.spin_table.proofs.CommandSteps.{known, next_bindings, conflict, IsOldOr, numbers_after}

abbrev names_cycle : Refusal → Bool
names_cycle (refusal.Conflict cycle) = true
names_cycle other = false

abbrev names_none : Bool × Refusal → Bool
names_none x = not (names_cycle x.1)

first_names_none : (xs : List (Bool × Refusal)) (r : Refusal) → list_all names_none xs ≡ true → first_of xs ≡ Some r → names_cycle r ≡ false
first_names_none [] r all first = absurd (cc (first))
first_names_none ((true, q) ∷ xs) r all first =
    let same : q ≡ r = cc (first) in
    ap names_cycle (sym same) ∙ here (names_cycle q) (list_all names_none xs) all
  where
    here : (b rest : Bool) → (not b && rest) ≡ true → b ≡ false
    here false rest h = refl
    here true rest h = absurd (cc (h))
first_names_none ((false, q) ∷ xs) r all first = first_names_none xs r (later (not (names_cycle q)) (list_all names_none xs) all) first
  where
    later : (b rest : Bool) → (b && rest) ≡ true → rest ≡ true
    later true rest h = h
    later false rest h = absurd (cc (h))

-- the refusals that come before a conflict are no conflicts
not_conflict : (d : SetupData) (e : EventDef) (bs : List Binding) (c : Command) (r : Refusal) (cycle : List ℕ) → first_of (refusals_at d e bs c) ≡ Some r → refusal.Conflict cycle ≡ r → ⊥
not_conflict d e bs c r cycle first same =
    let none = first_names_none (refusals_at d e bs c) r refl first in
    absurd (cc (ap names_cycle same ∙ none))

module _ (d : SetupData) (s : State) (c : Command) (cycle : List ℕ) where
  another : (r : Refusal) → refusal_of d s c ≡ Some r → (refusal.Conflict cycle ≡ r → ⊥) → MayConflict d s c cycle → ⊥
  another r is other h =
      let both = subst (λ o. MatchOption o (ChangesTo d s c (verdicted.Refused (refusal.Conflict cycle)) s) (λ q. (verdicted.Refused (refusal.Conflict cycle) ≡ verdicted.Refused q) × (s ≡ s))) is h in
      let same : refusal.Conflict cycle ≡ r = cc (both.0) in
      other same

  -- another refusal applies
  pub refused_before : (e : EventDef) (t : EventState) (r : Refusal) → slice_get d.events c.event ≡ Some e
      → slice_get s.events c.event ≡ Some t → first_of (refusals_at d e t.bindings c) ≡ Some r → MayConflict d s c cycle → ⊥
  refused_before e t r read_e read_t first h =
      another r (known d s c e t read_e read_t ∙ first) (not_conflict d e t.bindings c r cycle first) h

  -- the event isn't there
  pub no_event : refusal_of d s c ≡ Some refusal.UnknownEvent → MayConflict d s c cycle → ⊥
  no_event is h = another refusal.UnknownEvent is (λ same. cc (same)) h

  -- no other refusal applies
  pub may_conflict : (e : EventDef) (t : EventState) (install ring : Bool) (bs : List Binding) → slice_get d.events c.event ≡ Some e → slice_get s.events c.event ≡ Some t
      → first_of (refusals_at d e t.bindings c) ≡ None → bs ≡ (event_after d.policies e (s.place + 1) c t).bindings
      → install ≡ is_install c.op → Decides ring (IsCycle bs cycle) → Decides (install && ring) (MayConflict d s c cycle)
  may_conflict e t install ring bs read_e read_t none after installs decides = (
    λ h. conflict d s c e t read_e read_t (refusal.Conflict cycle) none
        (subst (λ l. IsConflict c.op l (refusal.Conflict cycle)) after (from_op c.op (sym (ap (λ b. b && ring) installs) ∙ h))),
    λ h. ap (λ b. b && ring) installs ∙ to_op c.op (subst (λ l. IsConflict c.op l (refusal.Conflict cycle)) (next_bindings d s c e t read_e read_t ∙ sym after) (passed h)),
  )
    where
      from_op : (o : Op) → (is_install o && ring) ≡ true → IsConflict o bs (refusal.Conflict cycle)
      from_op op.Install h = decides.0 h
      from_op op.Remove h = absurd (cc (h))
      from_op op.Replace h = absurd (cc (h))
      from_op op.Default h = absurd (cc (h))
      from_op op.NoDefault h = absurd (cc (h))

      to_op : (o : Op) → IsConflict o bs (refusal.Conflict cycle) → (is_install o && ring) ≡ true
      to_op op.Install h = decides.1 h
      to_op op.Remove h = absurd h
      to_op op.Replace h = absurd h
      to_op op.Default h = absurd h
      to_op op.NoDefault h = absurd h

      passed : MayConflict d s c cycle → IsConflict c.op (bindings_at (state_after d c s) c.event) (refusal.Conflict cycle)
      passed h =
          let both = subst (λ o. MatchOption o (ChangesTo d s c (verdicted.Refused (refusal.Conflict cycle)) s) (λ q. (verdicted.Refused (refusal.Conflict cycle) ≡ verdicted.Refused q) × (s ≡ s)))
          (known d s c e t read_e read_t ∙ none) h in
          both.1

-- another op makes no conflict
pub no_ring : (d : SetupData) (s : State) (c : Command) (cycle : List ℕ) (e : EventDef) (t : EventState) → slice_get d.events c.event ≡ Some e → slice_get s.events c.event ≡ Some t
    → first_of (refusals_at d e t.bindings c) ≡ None → false ≡ is_install c.op → Decides false (MayConflict d s c cycle)
no_ring d s c cycle e t read_e read_t none other = (λ f. absurd (cc (f)), λ h. absurd (by_op c.op other (both h).1)) where
  both : MayConflict d s c cycle → (s ≡ s) × IsConflict c.op (bindings_at (state_after d c s) c.event) (refusal.Conflict cycle)
  both h = subst (λ o. MatchOption o (ChangesTo d s c (verdicted.Refused (refusal.Conflict cycle)) s) (λ q. (verdicted.Refused (refusal.Conflict cycle) ≡ verdicted.Refused q) × (s ≡ s)))
      (known d s c e t read_e read_t ∙ none) h

  by_op : (o : Op) → false ≡ is_install o → IsConflict o (bindings_at (state_after d c s) c.event) (refusal.Conflict cycle) → ⊥
  by_op op.Install is h = cc (is)
  by_op op.Remove is h = h
  by_op op.Replace is h = h
  by_op op.Default is h = h
  by_op op.NoDefault is h = h

-- ---- the numbers of a cycle

leads_each : (R : ℕ → ℕ → Type 0) (P : ℕ → Type 0) → ((x y : ℕ) → R x y → P x) → (a : ℕ) (ns : List ℕ) (b : ℕ) → Leads R a ns b → P a × AllByRecursion P ns
leads_each R P so a [] b h = (so a b h, tt)
leads_each R P so a (n ∷ ns) b h = (so a n h.0, leads_each R P so n ns b h.1)

-- each number of a cycle is that of a binding
cycle_within : (bs : List Binding) (top : ℕ) (cycle : List ℕ) → All (λ n. n ≤ top) (numbers_of bs) → IsRing (MustPrecede bs) cycle → All (λ n. n ≤ top) cycle
cycle_within bs top [] numbers h = absurd h
cycle_within bs top (n ∷ ns) numbers h =
    let each = leads_each (MustPrecede bs) (λ m. m ≤ top) (λ x y r.
    let is : get_or (numbers_of bs) r.0 x ≡ x = get_or-map (λ (b : Binding). b.number) bs r.0 r.1 x r.2 ∙ ap (λ (b : Binding). b.number) r.3 ∙ r.4.0 in
    subst (λ m. m ≤ top) is (numbers r.0 x (omega (arith, r.2, length-map bs (λ (b : Binding). b.number))))) n ns n h in
    All-from_recursion (λ m. m ≤ top) (n ∷ ns) each

-- a conflict names numbers up to that of the binding that it would install
pub cycle_bound : (d : SetupData) (s : State) (c : Command) (cycle : List ℕ) → IsSound d s → MayConflict d s c cycle → All (λ n. n ≤ s.place + 1) cycle
cycle_bound d s c cycle sound h = go (slice_get d.events c.event) refl (slice_get s.events c.event) refl
  where
    by_op : (o : Op) (bs : List Binding) → All (λ n. n ≤ s.place + 1) (numbers_of bs) → IsConflict o bs (refusal.Conflict cycle) → All (λ n. n ≤ s.place + 1) cycle
    by_op op.Install bs numbers is = cycle_within bs (s.place + 1) cycle numbers is.closed
    by_op op.Remove bs numbers is = absurd is
    by_op op.Replace bs numbers is = absurd is
    by_op op.Default bs numbers is = absurd is
    by_op op.NoDefault bs numbers is = absurd is

    below : (ns ms : List ℕ) → All (λ n. (0 < n) × (n ≤ s.place)) ns → All (IsOldOr ns (s.place + 1)) ms → All (λ n. n ≤ s.place + 1) ms
    below ns ms old all = λ k x l.
        elim (all k x l) [
          | inl there ↦ let low = old there.0 0 there.1 in let same = there.2 in let read = get_or_default ns there.0 0 (get_or ms k x) there.1 in omega (arith, low.1, same, read)
          | inr new ↦ omega (arith, new)
        ]

    passed : (e : EventDef) (t : EventState) → slice_get d.events c.event ≡ Some e → slice_get s.events c.event ≡ Some t
        → (o : Option Refusal) → first_of (refusals_at d e t.bindings c) ≡ o → All (λ n. n ≤ s.place + 1) cycle
    passed e t read_e read_t (Some r) first = absurd (refused_before d s c cycle e t r read_e read_t first h)
    passed e t read_e read_t None first =
        let both = subst (λ o. MatchOption o (ChangesTo d s c (verdicted.Refused (refusal.Conflict cycle)) s) (λ q. (verdicted.Refused (refusal.Conflict cycle) ≡ verdicted.Refused q) × (s ≡ s)))
        (known d s c e t read_e read_t ∙ first) h in
        let is = subst (λ l. IsConflict c.op l (refusal.Conflict cycle)) (next_bindings d s c e t read_e read_t) both.1 in
        let each = sound.each c.event e t read_e read_t in
        by_op c.op (event_after d.policies e (s.place + 1) c t).bindings (below (numbers_of t.bindings) _ each.installed (numbers_after d e t c (s.place + 1) c.op)) is

    go : (o : Option EventDef) → slice_get d.events c.event ≡ o → (p : Option EventState) → slice_get s.events c.event ≡ p → All (λ n. n ≤ s.place + 1) cycle
    go None is p also = absurd (no_event d s c cycle (ap (λ o. refusal_on d c o (slice_get s.events c.event)) is) h)
    go (Some e) is None also = absurd (no_event d s c cycle (ap (λ o. refusal_on d c o (slice_get s.events c.event)) is ∙ ap (λ o. refusal_on d c (Some e) o) also) h)
    go (Some e) is (Some t) also = passed e t is also (first_of (refusals_at d e t.bindings c)) refl
