-- Where a state is sound, so is one that differs from it in its numbers alone.
use Rattle.std.proofs.Common.{◌≡◌, ℕ, ◌+◌, ◌-◌, ◌<◌, ◌≤◌, List, length, get_or, refl, sym, ap, subst, ◌∙◌, inl, inr, arith}
use Rattle.std.specs.Prelude.{Some, slice_get, IsTrue}
use Rattle.std.specs.List.{All}
use Rattle.std.specs.List.Sorted.{IsStrictlyIncreasing}
use Rattle.std.proofs.lemmas.Bool.{cases_lt}
use Rattle.std.proofs.lemmas.List.{length-map, get_or-map, get_or_default}
use Rattle.std.proofs.lemmas.List.Elements.{All-map}
use Rattle.std.proofs.lemmas.Option.{slice_get_within, slice_get_cases}
use Rattle.spin_place.specs.declared.binding.Binding.{Binding}
use Rattle.spin_place.specs.Precedence.{numbers_of}
use Rattle.spin_table.specs.declared.event.EventDef.{EventDef}
use Rattle.spin_table.specs.Setups.{SetupData}
use Rattle.spin_table.specs.States.{State, EventState}
use Rattle.spin_table.specs.Units.{is_fit_default}
use Rattle.spin_table.specs.Soundness.{is_fit_binding, IsSoundEvent, IsNumberAt, IsSound}
use Rattle.spin_table.specs.Renamings.{Rises, IsRenamedEvent, IsRenamed}
use Rattle.spin_table.proofs.RenamedNumbers.{less_back}
use Rattle.spin_table.proofs.RenamedBindings.{numbers_renamed, length_renamed, same_rest}
use Rattle.spin_table.proofs.RenamedOrders.{at_both, orderly_back}
use Rattle.spin_table.proofs.CommandSteps.{number_at, is_number_at}

module _ (d : SetupData) (to : ℕ → ℕ) (rises : Rises to) (s t : State) (same : IsRenamed to s t) (sound : IsSound d t) where
  -- a number of the first state isn't past its place
  low_number : (n : ℕ) → to n ≤ t.place → n ≤ s.place
  low_number n low =
      elim (cases_lt s.place n) [
        | inl high ↦
            let next : s.place + 1 + (n - (s.place + 1)) ≡ n = omega arith in
            let is = same.coming (n - (s.place + 1)) in
            let same_number = ap to next in
            absurd (omega arith)
        | inr within ↦ within
      ]

  -- the state of an event in the second state
  other : (k : ℕ) (e : EventState) → slice_get s.events k ≡ Some e → (f : EventState) × (slice_get t.events k ≡ Some f) × IsRenamedEvent to e f
  other k e read =
      elim (slice_get_cases t.events k).1 [
        | inl (f, inside, is, at) ↦ (f, is, same.each k e f read is)
        | inr (past, none) ↦ let low = slice_get_within s.events k e read in let count = same.events in absurd (omega arith)
      ]

  module _ (event : ℕ) (def : EventDef) (e f : EventState) (h : IsRenamedEvent to e f) (there : IsSoundEvent d t.place event def f) where
    number_of : (k x : ℕ) → k < length (numbers_of e.bindings) → get_or (numbers_of f.bindings) k (to x) ≡ to (get_or (numbers_of e.bindings) k x)
    number_of k x inside = ap (λ ns. get_or ns k (to x)) (numbers_renamed to e.bindings f.bindings h.bindings) ∙ get_or-map to (numbers_of e.bindings) k x (to x) inside

    sizes : length (numbers_of f.bindings) ≡ length (numbers_of e.bindings)
    sizes = ap (λ (ns : List ℕ). length ns) (numbers_renamed to e.bindings f.bindings h.bindings) ∙ length-map (numbers_of e.bindings) to

    rising_back : IsStrictlyIncreasing (numbers_of e.bindings)
    rising_back k inside =
        let size = sizes in
        let first = number_of k 0 (omega arith) in
        let second = number_of (k + 1) 0 inside in
        let first' = get_or_default (numbers_of f.bindings) k (to 0) 0 (omega arith) in
        let second' = get_or_default (numbers_of f.bindings) (k + 1) (to 0) 0 (omega arith) in
        let up = there.rising k (omega arith) in
        less_back to rises (get_or (numbers_of e.bindings) k 0) (get_or (numbers_of e.bindings) (k + 1) 0) (omega arith)

    installed_back : All (λ n. (0 < n) × (n ≤ s.place)) (numbers_of e.bindings)
    installed_back =
        All-map (λ n. (0 < n) × (n ≤ s.place)) (λ (b : Binding). b.number) e.bindings (λ k x inside.
        let one = at_both to e.bindings f.bindings h.bindings k x inside in
        let size = length_renamed to e.bindings f.bindings h.bindings in
        let count = length-map f.bindings (λ (b : Binding). b.number) in
        let number = one.number in
        let within = there.installed k 0 (omega arith) in
        let is = get_or-map (λ (b : Binding). b.number) f.bindings k x 0 (omega arith) in
        let low = within.1 in
        (one.some, low_number (get_or e.bindings k x).number (omega arith)))

    fit_back : All (λ b. IsTrue (is_fit_binding d event def b)) e.bindings
    fit_back k x inside =
        let one = at_both to e.bindings f.bindings h.bindings k x inside in
        let size = length_renamed to e.bindings f.bindings h.bindings in
        let fit = there.bindings k x (omega arith) in
        subst IsTrue (same_rest to (get_or e.bindings k x) (get_or f.bindings k x) (is_fit_binding d event def) refl one) fit

    pub event_back : IsSoundEvent d s.place event def e
    event_back = record {
      rising = rising_back;
      installed = installed_back;
      few = let size = length_renamed to e.bindings f.bindings h.bindings in let few = there.few in omega arith;
      orderly = orderly_back to rises e.bindings f.bindings h.bindings there.orderly;
      bindings = fit_back;
      default = subst (λ n. IsTrue (is_fit_default d.handlers event def n)) h.default there.default;
    }

  number_there : (event n : ℕ) → IsNumberAt s event n → IsNumberAt t event (to n)
  number_there event n is =
      let here = number_at s event n is in
      let found = other event here.0 here.1 in
      let inside = here.2.1 in
      let size = sizes' here.0 found.0 found.2 in
      is_number_at t event (to n) found.0 found.1 (here.2.0, omega arith, stands_there here.0 found.0 found.2 here.2.0 n inside here.2.2)
    where
      sizes' : (e f : EventState) → IsRenamedEvent to e f → length (numbers_of f.bindings) ≡ length (numbers_of e.bindings)
      sizes' e f h = ap (λ (ns : List ℕ). length ns) (numbers_renamed to e.bindings f.bindings h.bindings) ∙ length-map (numbers_of e.bindings) to

      stands_there : (e f : EventState) → IsRenamedEvent to e f → (k n : ℕ) → k < length (numbers_of e.bindings) → get_or (numbers_of e.bindings) k n ≡ n
          → get_or (numbers_of f.bindings) k (to n) ≡ to n
      stands_there e f h k n inside stands =
          ap (λ ns. get_or ns k (to n)) (numbers_renamed to e.bindings f.bindings h.bindings) ∙ get_or-map to (numbers_of e.bindings) k n (to n) inside ∙ ap to stands

  pub sound_back : IsSound d s
  sound_back = record {
    events = sym same.events ∙ sound.events;
    each = λ event def e read_d read_e. let found = other event e read_e in event_back event def e found.0 found.2 (sound.each event def found.0 read_d found.1);
    apart = λ i j n first second. sound.apart i j (to n) (number_there i n first) (number_there j n second);
  }
