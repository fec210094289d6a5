-- The numbers of live bindings before and after a renewal.
use Rattle.std.proofs.Common.{◌≡◌, ℕ, zero, suc, ◌+◌, ◌-◌, ◌<◌, ◌≤◌, ◌⊎◌, Bool, true, false, ◌||◌, cond, eqb, List, [], ◌∷◌, length, get_or, map, refl, sym, ap, subst, ◌∙◌, inl, inr, arith}
use Rattle.std.specs.Prelude.{Option, None, Some, filter, nat_le, position, slice_index}
use Rattle.std.specs.List.{All, AllPairs, Contains, list_any, range_with_len}
use Rattle.std.specs.List.Sorted.{IsStrictlyIncreasing}
use Rattle.std.specs.Option.{option_map_or}
use Rattle.std.proofs.lemmas.Bool.{cases_lt, eqb-true, eq-eqb, ne_eqb}
use Rattle.std.proofs.lemmas.List.{get_or_default}
use Rattle.std.proofs.lemmas.List.Elements.{All-head, All-tail, All-filter}
use Rattle.std.proofs.lemmas.List.FromFn.{length-range_with_len, get_or-range_with_len}
use Rattle.std.proofs.lemmas.List.Kept.{AllPairs-cons, IsStrictlyIncreasing-filter, AllPairs-from_increasing}
use Rattle.std.proofs.lemmas.List.Quantifiers.{position-Some}
use Rattle.std.proofs.lemmas.Option.{slice_get_read}
use Rattle.spin_word.specs.Commands.{no_number}
use Rattle.spin_place.proofs.NumberLists.{Contains-there, Contains-cons}
use Rattle.spin_table.specs.Renamings.{Rises, NameAlike}
use Rattle.spin_table.specs.Renewals.{new_number, old_number, IsGiven}
use Rattle.spin_table.proofs.ImposedGuards.{position-fails}
use Rattle.spin_table.proofs.RenamedNumbers.{at_least, same_test, named_alike}

-- some numbers up to a place, which rise
pub record AreNumbers (place : ℕ) (live : List ℕ) : Type 0 where
  pub rising : IsStrictlyIncreasing live
  pub within : All (λ n. (0 < n) × (n ≤ place)) live

is_le : (a b : ℕ) → a ≤ b → nat_le a b ≡ true
is_le a b le = grind (arith, le)

is_not_le : (a b : ℕ) → b < a → nat_le a b ≡ false
is_not_le a b less = grind (arith, less)

-- 0 stands for the default, and stays
pub old_zero : (live : List ℕ) (place : ℕ) → old_number live place 0 ≡ 0
old_zero live place = ap (λ b. cond b (slice_index (0 ∷ live) 0) (place + (0 - length live))) (is_le 0 (length live) (omega arith))

kept_in : {X : Type 0} (b : Bool) (x y : X) (xs : List X) → Contains xs x → Contains (cond b (y ∷ xs) xs) x
kept_in true x y xs h = Contains-there x y xs h
kept_in false x y xs h = h

-- what passes is left
pub stays_in : {X : Type 0} (p : X → Bool) (x : X) (xs : List X) → p x ≡ true → Contains xs x → Contains (filter p xs) x
stays_in p x [] passes h = absurd (let low = h.1 in omega arith)
stays_in p x (y ∷ ys) passes h =
    elim (Contains-cons x y ys h) [
      | inl same ↦ subst (λ b. Contains (cond b (y ∷ filter p ys) (filter p ys)) x) (sym (ap p same ∙ passes)) (0, omega arith, same)
      | inr rest ↦ kept_in (p y) x y (filter p ys) (stays_in p x ys passes rest)
    ]

-- those of the numbers up to a place that pass a test
pub are_numbers : (place : ℕ) (p : ℕ → Bool) → AreNumbers place (filter p (range_with_len 1 place))
are_numbers place p = record {
  rising = IsStrictlyIncreasing-filter p (range_with_len 1 place) (λ k inside.
      let size = length-range_with_len 1 place in
      let low = get_or-range_with_len 1 place k 0 (omega arith) in
      let high = get_or-range_with_len 1 place (k + 1) 0 (omega arith) in
      omega arith);
  within = All-filter p (λ n. (0 < n) × (n ≤ place)) (range_with_len 1 place) (λ k x inside.
      let size = length-range_with_len 1 place in
      let is = get_or-range_with_len 1 place k x (omega arith) in
      (omega arith, omega arith));
}

pub number_in : (place : ℕ) (p : ℕ → Bool) (n : ℕ) → 0 < n → n ≤ place → p n ≡ true → Contains (filter p (range_with_len 1 place)) n
number_in place p n some low passes =
    let size = length-range_with_len 1 place in
    let is = get_or-range_with_len 1 place (n - 1) n (omega arith) in
    stays_in p n (range_with_len 1 place) passes (n - 1, omega arith, omega arith)

-- where a number stands among the live ones, which is what it comes to
pub record IsAt (live : List ℕ) (n at : ℕ) : Type 0 where
  pub inside : at < length live
  pub stands : get_or live at 0 ≡ n
  pub new : new_number live n ≡ at + 1

-- the number of a live binding is that before its new one
pub record IsRenewed (place : ℕ) (live : List ℕ) (n : ℕ) : Type 0 where
  pub some : 0 < new_number live n
  pub few : new_number live n ≤ length live
  pub old : old_number live place (new_number live n) ≡ n

module _ (place : ℕ) (live : List ℕ) (are : AreNumbers place live) where
  all_rise : AllPairs (λ m n. m < n) (0 ∷ live)
  all_rise = AllPairs-cons (λ m n. m < n) 0 live (λ k d l. (are.within k d l).0) (AllPairs-from_increasing live are.rising)

  low_number : (n : ℕ) → n ≤ length live → old_number live place n ≡ get_or (0 ∷ live) n 0
  low_number n low = ap (λ b. cond b (slice_index (0 ∷ live) n) (place + (n - length live))) (is_le n (length live) low)

  pub high_number : (n : ℕ) → length live < n → old_number live place n ≡ place + (n - length live)
  high_number n high = ap (λ b. cond b (slice_index (0 ∷ live) n) (place + (n - length live))) (is_not_le n (length live) high)

  all_within : (n : ℕ) → n ≤ length live → get_or (0 ∷ live) n 0 ≤ place
  all_within zero low = omega arith
  all_within (suc n) low = (are.within n 0 (omega arith)).1

  -- the numbers before keep their order
  pub old_rises : Rises (old_number live place)
  old_rises m n less =
      elim (cases_lt (length live) n) [
        | inl high ↦ elim (cases_lt (length live) m) [
          | inl high' ↦ let one = high_number m high' in let two = high_number n high in omega arith
          | inr low ↦ let one = low_number m low in let two = high_number n high in let top = all_within m low in omega arith
        ]
        | inr low ↦
            let one = low_number m (omega arith) in
            let two = low_number n low in
            let up = all_rise m n 0 less (omega arith) in
            omega arith
      ]

  pub find_number : (n : ℕ) → ((at : ℕ) × IsAt live n at) ⊎ ((new_number live n ≡ no_number) × (Contains live n → ⊥))
  find_number n = choose (position (λ m. eqb m n) live) refl
    where
      choose : (o : Option ℕ) → position (λ m. eqb m n) live ≡ o → ((at : ℕ) × IsAt live n at) ⊎ ((new_number live n ≡ no_number) × (Contains live n → ⊥))
      choose None none =
          inr (
            ap (λ o. option_map_or (λ at. at + 1) o no_number) none,
            λ h. let fails = position-fails (λ m. eqb m n) live h.0 n none (slice_get_read live (length live) h.0 n refl h.1 (sym h.2)) in absurd (cc (fails, eq-eqb n n refl)),
          )
      choose (Some at) some =
          let found = position-Some (λ m. eqb m n) live at 0 some in
          inl (
            at,
            record {
              inside = found.0;
              stands = eqb-true (get_or live at 0) n found.1;
              new = ap (λ o. option_map_or (λ at. at + 1) o no_number) some;
            },
          )

  pub old_at : (n at : ℕ) → IsAt live n at → old_number live place (at + 1) ≡ n
  old_at n at is =
      let inside = is.inside in
      let next : at + 1 ≡ suc at = omega arith in
      low_number (at + 1) (omega arith) ∙ ap (λ k. get_or (0 ∷ live) k 0) next ∙ is.stands

  pub renewed_number : (n : ℕ) → Contains live n → IsRenewed place live n
  renewed_number n h =
      elim (find_number n) [
        | inl (at, is) ↦ let inside = is.inside in let new = is.new in record { some = omega arith; few = omega arith; old = ap (old_number live place) is.new ∙ old_at n at is }
        | inr (none, dead) ↦ absurd (dead h)
      ]

  -- a number after a renewal was given
  pub new_given : (n : ℕ) → IsGiven (length live) (new_number live n)
  new_given n =
      elim (find_number n) [
        | inl (at, is) ↦ let inside = is.inside in let new = is.new in inl (omega arith, omega arith)
        | inr (none, dead) ↦ inr none
      ]

  -- no number that was given and isn't live is the old number of a new one
  no_old : (n k : ℕ) → 0 < k → old_number live place k < no_number → IsGiven place n → (Contains live n → ⊥) → n ≡ old_number live place k → ⊥
  no_old n k some named given dead same =
      elim (cases_lt (length live) k) [
        | inl high ↦
            let is = high_number k high in
            elim given [
              | inl within ↦ let low = within.1 in omega arith
              | inr none ↦ omega arith
            ]
        | inr low ↦
            let is = low_number k low in
            let next : suc (k - 1) ≡ k = omega arith in
            let stands : get_or live (k - 1) 0 ≡ n = ap (λ j. get_or (0 ∷ live) j 0) next ∙ sym is ∙ sym same in
            dead (k - 1, omega arith, get_or_default live (k - 1) n 0 (omega arith) ∙ stands)
      ]

  same_name : (n k : ℕ) → 0 < k → old_number live place k < no_number → IsGiven place n → eqb n (old_number live place k) ≡ eqb (new_number live n) k
  same_name n k some named given =
      elim (find_number n) [
        | inl (at, is) ↦
            ap (λ m. eqb m (old_number live place k)) (sym (old_at n at is)) ∙ same_test (old_number live place) old_rises (at + 1) k ∙ ap (λ m. eqb m k) (sym is.new)
        | inr (none, dead) ↦
            let low = at_least (old_number live place) old_rises k in
            ne_eqb n (old_number live place k) (no_old n k some named given dead) ∙ sym (ne_eqb (new_number live n) k (λ e. absurd (omega arith)))
      ]

  same_names : (ns : List ℕ) (k : ℕ) → 0 < k → old_number live place k < no_number → All (IsGiven place) ns
      → list_any (λ m. eqb m (old_number live place k)) ns ≡ list_any (λ m. eqb m k) (map (new_number live) ns)
  same_names [] k some named given = refl
  same_names (n ∷ ns) k some named given =
      let rest = same_names ns k some named (All-tail (IsGiven place) n ns given) in
      ap (λ b. b || list_any (λ m. eqb m (old_number live place k)) ns) (same_name n k some named (All-head (IsGiven place) n ns given)) ∙ ap (λ b. eqb (new_number live n) k || b) rest

  -- constraints name the same bindings before and after
  pub renewed_names : (ns : List ℕ) → All (IsGiven place) ns → NameAlike (old_number live place) (map (new_number live) ns) ns
  renewed_names ns given k some named = named_alike (old_number live place) old_rises (map (new_number live) ns) ns k named (same_names ns k some named given)
