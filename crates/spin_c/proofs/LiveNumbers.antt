-- As many bindings are live as there are numbers of live bindings, and they are counted event by event.
use Rattle.std.proofs.Common.{◌≡◌, ◌∙◌, ℕ, zero, suc, ◌+◌, ◌<◌, ◌≤◌, ◌==◌, Bool, true, false, ◌||◌, ◌⊎◌, cond, List, [], ◌∷◌, length, get_or, take, refl, sym, ap, subst, inl, inr, arith}
use Rattle.std.specs.Prelude.{All, Contains, IsSomeAnd, Some, find, is_some, slice_get, slice_index}
use Rattle.std.specs.List.{count_by, list_any, range_with_len, sum_by}
use Rattle.std.specs.List.Sorted.{IsStrictlyIncreasing}
use Rattle.std.proofs.lemmas.Bool.{cases_eq, eq-eqb, ne_eqb}
use Rattle.std.proofs.lemmas.List.{take_all}
use Rattle.std.proofs.lemmas.List.Elements.{All-head, All-tail}
use Rattle.std.proofs.lemmas.List.Sums.{length-filter, sum_by-cons, sum_by_more}
use Rattle.std.proofs.lemmas.Option.{slice_get-get_or}
use Rattle.spin_place.specs.declared.binding.Binding.{Binding}
use Rattle.spin_place.specs.Precedence.{numbers_of}
use Rattle.spin_table.specs.Renewals.{is_live_in, live_numbers}
use Rattle.spin_table.specs.Setups.{SetupData}
use Rattle.spin_table.specs.Soundness.{IsSound}
use Rattle.spin_table.specs.States.{EventState, State, is_live}
use Rattle.spin_table.proofs.CommandSteps.{event_there}

-- how many bindings an event has
abbrev pub bindings_of : EventState → ℕ
bindings_of e = length e.bindings

-- ---- counting

bits : (a b : Bool) → (a ≡ true → b ≡ true → ⊥) → cond (a || b) 1 0 ≡ cond a 1 0 + cond b 1 0
bits true true apart = absurd (apart refl refl)
bits true false apart = refl
bits false true apart = refl
bits false false apart = refl

-- what passes one of two tests that nothing passes both
count_or : (p q : ℕ → Bool) (xs : List ℕ) → ((n : ℕ) → p n ≡ true → q n ≡ true → ⊥) → count_by (λ n. p n || q n) xs ≡ count_by p xs + count_by q xs
count_or p q [] apart = refl
count_or p q (x ∷ xs) apart =
    omega (
      arith,
      sum_by-cons (λ n. cond (p n || q n) 1 0) x xs,
      sum_by-cons (λ n. cond (p n) 1 0) x xs,
      sum_by-cons (λ n. cond (q n) 1 0) x xs,
      bits (p x) (q x) (apart x),
      count_or p q xs apart,
    )

count_no : (p : ℕ → Bool) (xs : List ℕ) → ((n : ℕ) → p n ≡ false) → count_by p xs ≡ 0
count_no p [] none = refl
count_no p (x ∷ xs) none = omega (arith, sum_by-cons (λ n. cond (p n) 1 0) x xs, ap {B = ℕ} (λ b. cond b 1 0) (none x), count_no p xs none)

-- a number below all of a range, and one of it
count_below : (k a n : ℕ) → k < a → count_by (λ m. k == m) (range_with_len a n) ≡ 0
count_below k a zero below = refl
count_below k a (suc n) below =
    omega (
      arith,
      sum_by-cons (λ m. cond (k == m) 1 0) a (range_with_len (a + 1) n),
      ap {B = ℕ} (λ b. cond b 1 0) (ne_eqb k a (λ e. absurd (omega (arith, e, below)))),
      count_below k (a + 1) n (omega (arith, below)),
    )

count_one : (k a n : ℕ) → a ≤ k → k < a + n → count_by (λ m. k == m) (range_with_len a n) ≡ 1
count_one k a zero low high = absurd (omega (arith, low, high))
count_one k a (suc n) low high =
    let whole = sum_by-cons (λ m. cond (k == m) 1 0) a (range_with_len (a + 1) n) in
    elim (cases_eq k a) [
      | inl same ↦
          omega (arith, whole, ap {B = ℕ} (λ b. cond b 1 0) (eq-eqb k a same), count_below k (a + 1) n (omega (arith, same)))
      | inr apart ↦
          omega (
            arith,
            whole,
            ap {B = ℕ} (λ b. cond b 1 0) (ne_eqb k a apart),
            count_one k (a + 1) n (omega (arith, low, above k a low apart)) (omega (arith, high)),
          )
    ]
  where
    above : (k a : ℕ) → a ≤ k → (k ≡ a → ⊥) → a < k
    above k a low apart = omega (arith, low, apart)

-- ---- one event

-- its bindings rise, and all are above this number
abbrev Above : ℕ → List Binding → Type 0
Above k [] = Unit {0}
Above k (b ∷ bs) = (k < b.number) × Above b.number bs

next : (xs : List ℕ) → IsStrictlyIncreasing xs → (k m : ℕ) → m ≡ k + 1 → m < length xs → slice_index xs k < slice_index xs m
next xs rising k m is inside = subst (λ j. slice_index xs k < slice_index xs j) (sym is) (rising k (omega (arith, is, inside)))

above : (b : Binding) (bs : List Binding) → IsStrictlyIncreasing (numbers_of (b ∷ bs)) → Above b.number bs
above b [] rising = tt
above b (c ∷ bs) rising = (rising 0 (omega arith), above c bs (λ k inside. next (numbers_of (b ∷ c ∷ bs)) rising (suc k) (suc (k + 1)) (omega arith) (omega (arith, inside))))

live_or : (b : Binding) (bs : List Binding) (n : ℕ) → is_live (b ∷ bs) n ≡ ((b.number == n) || is_live bs n)
live_or b bs n = choose (b.number == n)
  where
    choose : (x : Bool) → is_some (cond x (Some b) (find (λ y. y.number == n) bs)) ≡ (x || is_live bs n)
    choose true = refl
    choose false = refl

first_or_rest : (x y : Bool) → (x || y) ≡ true → (x ≡ true) ⊎ (y ≡ true)
first_or_rest true y is = inl refl
first_or_rest false y is = inr is

equal : (m n : ℕ) → (m == n) ≡ true → m ≡ n
equal m n is = Rattle.std.proofs.Common.eqb-true m n is

live_above : (k : ℕ) (bs : List Binding) (n : ℕ) → Above k bs → is_live bs n ≡ true → k < n
live_above k [] n rises live = absurd (cc (live))
live_above k (b ∷ bs) n rises live =
    elim (first_or_rest (b.number == n) (is_live bs n) (sym (live_or b bs n) ∙ live)) [
      | inl here ↦ omega (arith, rises.0, equal b.number n here)
      | inr later ↦ let further = live_above b.number bs n rises.1 later in omega (arith, rises.0, further)
    ]

abbrev IsLow : ℕ → ℕ → Type 0
IsLow place n = (0 < n) × (n ≤ place)

event_count : (place k : ℕ) (bs : List Binding) → Above k bs → All (IsLow place) (numbers_of bs) → count_by (is_live bs) (range_with_len 1 place) ≡ length bs
event_count place k [] rises low = count_no (is_live []) (range_with_len 1 place) (λ n. refl)
event_count place k (b ∷ bs) rises low =
    let numbers = range_with_len 1 place in
    let first = All-head (IsLow place) b.number (numbers_of bs) low in
    let split = count_or (λ n. b.number == n) (is_live bs) numbers
    (λ n here later. let further = live_above b.number bs n rises.1 later in absurd (omega (arith, equal b.number n here, further))) in
    let one = count_one b.number 1 place (omega (arith, first.0)) (omega (arith, first.1)) in
    let rest = event_count place b.number bs rises.1 (All-tail (IsLow place) b.number (numbers_of bs) low) in
    (λ i. count_by (λ n. live_or b bs n i) numbers) ∙ omega (arith, split, one, rest)

-- ---- all events

abbrev IsAt : List EventState → ℕ → ℕ → Type 0
IsAt es event number = IsSomeAnd (slice_get es event) (λ (t : EventState). Contains (numbers_of t.bindings) number)

abbrev has : ℕ → EventState → Bool
has n e = is_live e.bindings n

contained : (bs : List Binding) (n : ℕ) → is_live bs n ≡ true → Contains (numbers_of bs) n
contained [] n live = absurd (cc (live))
contained (b ∷ bs) n live =
    elim (first_or_rest (b.number == n) (is_live bs n) (sym (live_or b bs n) ∙ live)) [
      | inl here ↦ (0, omega arith, equal b.number n here)
      | inr later ↦ let rest = contained bs n later in let inside = rest.1 in (suc rest.0, omega (arith, inside), rest.2)
    ]

some_at : (es : List EventState) (n : ℕ) → list_any (has n) es ≡ true → (event : ℕ) × IsAt es event n
some_at [] n live = absurd (cc (live))
some_at (e ∷ es) n live =
    elim (first_or_rest (has n e) (list_any (has n) es) live) [
      | inl here ↦ (0, contained e.bindings n here)
      | inr later ↦ let rest = some_at es n later in (suc rest.0, rest.1)
    ]

record AreApart (place : ℕ) (es : List EventState) : Type 0 where
  rising : (event : ℕ) (e : EventState) → slice_get es event ≡ Some e → IsStrictlyIncreasing (numbers_of e.bindings)
  low : (event : ℕ) (e : EventState) → slice_get es event ≡ Some e → All (IsLow place) (numbers_of e.bindings)
  apart : (i j number : ℕ) → IsAt es i number → IsAt es j number → i ≡ j

rises_above : (place : ℕ) (bs : List Binding) → IsStrictlyIncreasing (numbers_of bs) → All (IsLow place) (numbers_of bs) → Above 0 bs
rises_above place [] rising low = tt
rises_above place (b ∷ bs) rising low = (let first = All-head (IsLow place) b.number (numbers_of bs) low in first.0, above b bs rising)

events_count : (place : ℕ) (es : List EventState) → AreApart place es → count_by (λ n. list_any (has n) es) (range_with_len 1 place) ≡ sum_by bindings_of es
events_count place [] are = count_no (λ n. list_any (has n) []) (range_with_len 1 place) (λ n. refl)
events_count place (e ∷ es) are =
    let numbers = range_with_len 1 place in
    let low = are.low 0 e refl in
    let never = λ (n : ℕ) (here : has n e ≡ true) (later : list_any (has n) es ≡ true).
    let other = some_at es n later in
    let same = are.apart 0 (suc other.0) n (contained e.bindings n here) other.1 in
    absurd (omega (arith, same)) in
    let split = count_or (λ n. has n e) (λ n. list_any (has n) es) numbers never in
    let first = event_count place 0 e.bindings (rises_above place e.bindings (are.rising 0 e refl) low) low in
    let rest = events_count place es record {
      rising = λ event f there. are.rising (suc event) f there;
      low = λ event f there. are.low (suc event) f there;
      apart = λ i j number at also. let same = are.apart (suc i) (suc j) number at also in omega (arith, same);
    } in
    omega (arith, split, first, rest, sum_by-cons bindings_of e es)

pub live_are_numbered : (d : SetupData) (s : State) → IsSound d s → sum_by bindings_of s.events ≡ length (live_numbers s)
live_are_numbered d s sound =
    let each = λ (event : ℕ) (e : EventState) (there : slice_get s.events event ≡ Some e).
    let of_setup = event_there d s event e sound.events there in
    sound.each event of_setup.0 e of_setup.1 there in
    let counted = events_count s.place s.events record {
      rising = λ event e there. (each event e there).rising;
      low = λ event e there. (each event e there).installed;
      apart = sound.apart;
    } in
    sym (length-filter (is_live_in s) (range_with_len 1 s.place) ∙ counted)

-- ---- event by event

nothing : EventState
nothing = record { bindings = []; default = 0 }

module _ (s : State) (event : ℕ) (bs : List Binding) (inside : event < length s.events) (are : IsSomeAnd (slice_get s.events event) (λ e. bs ≡ e.bindings)) where
  same_bindings : bs ≡ (get_or s.events event nothing).bindings
  same_bindings = subst (λ o. IsSomeAnd o (λ (e : EventState). bs ≡ e.bindings)) (slice_get-get_or s.events event nothing inside) are

  pub sum_more : (count : ℕ) → count ≡ sum_by bindings_of (take event s.events) → count + length bs ≡ sum_by bindings_of (take (event + 1) s.events)
  sum_more count so_far =
      omega (arith, so_far, ap length same_bindings, sum_by_more bindings_of s.events event nothing inside)

  -- an event of a sound state has no more than the setup allows
  pub few_there : (d : SetupData) → IsSound d s → length bs ≤ d.live
  few_there d sound =
      let there = slice_get-get_or s.events event nothing inside in
      let of_setup = event_there d s event (get_or s.events event nothing) sound.events there in
      let few = (sound.each event of_setup.0 (get_or s.events event nothing) of_setup.1 there).few in
      omega (arith, few, ap length same_bindings)

pub sum_whole : (d : SetupData) (s : State) (events count : ℕ) → IsSound d s → length s.events ≤ events → count ≡ sum_by bindings_of (take events s.events)
    → count ≡ length (live_numbers s)
sum_whole d s events count sound past so_far =
    so_far ∙ ap (sum_by bindings_of) (take_all events s.events past) ∙ live_are_numbered d s sound
