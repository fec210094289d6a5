-- Each step keeps the rule of the homes.
use Rattle.std.proofs.Common.{◌≡◌, ◌≢◌, ℕ, zero, suc, ◌+◌, ◌<◌, List, [], ◌∷◌, ◌++◌, length, get_or, set, refl, sym, ap, ◌∙◌, subst, arith, length-set, get_or-set_same, get_or-set_other}
use Rattle.std.specs.Prelude.{Some, None, Option, ⊤, replicate, IfSome}
use mathlib.Core.Logic.{dite}
use mathlib.Core.Option.{none, some}
use native.Mathlib.Decide.{ℕ_discrete}
use lib.ListN.{get_elem?}
use Rattle.std.proofs.lemmas.List.{length-map}
use Rattle.atomic_table.specs.Seated.{TableId}
use Rattle.atomic_table.specs.Table.{State, Me, step, keeps, takes, gives, stepped, Allows, Arrives, opening}
use Rattle.atomic_table.proofs.Lists.{set_here, set_else, at_map}
use Rattle.spin_homes.specs.Rule.{IsHomed, IsTaken, TicketValue, AreTicketsFrom}

within : (l : List ℕ) (k : ℕ) → get_or l k 0 ≡ 1 → k < length l
within [] k e = absurd (omega arith)
within (n ∷ l) zero e = omega arith
within (n ∷ l) (suc k) e = let below = within l k e in omega arith

module _ {T K : Type 0} (fits : K → ℕ → T → Type 0) (key : K) where
  abbrev St : Type 0
  St = State (Option T) K

  -- what is at home elsewhere stays there
  elsewhere : (s : St) → IsHomed fits key s → (slot k n : ℕ) → k ≢ slot → get_or (set s.words slot n) k 0 ≡ 1
      → (x : Option T) × (get_elem? s.homes k ≡ some (some x)) × IfSome x (fits key k)
  elsewhere s h slot k n ne is = h.each k (sym (get_or-set_other s.words slot k n 0 ne) ∙ is)

  put : (s : St) (views : List K) → IsHomed fits key s → (slot : ℕ) (x : T) → slot < length s.homes → fits key slot x
      → IsHomed fits key record { words = set s.words slot 1; homes = set s.homes slot (some (Some x)); views = views }
  put s views h slot x lt ok = record {
    size = length-set s.words slot 1 ∙ h.size ∙ sym (length-set s.homes slot (some (Some x)));
    each = λ k is.
        dite (ℕ_discrete k slot)
        (λ (e : k ≡ slot). (Some x, ap (λ (j : ℕ). get_elem? (set s.homes slot (some (Some x))) j) e ∙ set_here s.homes slot (some (Some x)) lt, subst (λ (j : ℕ). fits key j x) (sym e) ok))
        (λ (ne : k ≢ slot). let old = elsewhere s h slot k 1 ne is in (old.0, set_else s.homes slot k (some (Some x)) ne ∙ old.1, old.2));
  }

  -- a value that fits goes home
  pub gives_home : (slots id : ℕ) (me : Me (Option T) K) (slot : ℕ) (x : T) → slot < slots → me.1 ≡ (slot, Some x) ∷ [] → fits key slot x
      → Allows (IsHomed fits key) slots id me slot (λ _. 1) (λ _ _. ⊤)
  gives_home slots id me slot x lt out ok = λ s h len at word. (
    me.0,
    gives,
    tt,
    subst (λ (c : List (ℕ × Option T)). IsHomed fits key (stepped s slot 1 id c me.0 gives)) (sym out)
        (put s (set s.views id me.0) h slot x (subst (λ (n : ℕ). slot < n) (sym len) lt) ok),
    tt,
  )

  gone : (s : St) → IsHomed fits key s → (slot : ℕ) → slot < length s.homes → get_or (set s.words slot 0) slot 0 ≡ 0
  gone s h slot lt = let size = h.size in get_or-set_same s.words slot 0 0 (omega arith)

  not_there : (s : St) → IsHomed fits key s → (slot k : ℕ) → slot < length s.homes → k ≡ slot → get_or (set s.words slot 0) k 0 ≢ 1
  not_there s h slot k lt e is =
      let zero = gone s h slot lt in
      let one : get_or (set s.words slot 0) slot 0 ≡ 1 = ap (λ (j : ℕ). get_or (set s.words slot 0) j 0) (sym e) ∙ is in
      absurd (omega arith)

  left : (s : St) (views : List K) → IsHomed fits key s → (slot : ℕ) → slot < length s.homes
      → IsHomed fits key record { words = set s.words slot 0; homes = set s.homes slot none; views = views }
  left s views h slot lt = record {
    size = length-set s.words slot 0 ∙ h.size ∙ sym (length-set s.homes slot none);
    each = λ k is.
        dite (ℕ_discrete k slot)
        (λ (e : k ≡ slot). absurd (not_there s h slot k lt e is))
        (λ (ne : k ≢ slot). let old = elsewhere s h slot k 0 ne is in (old.0, set_else s.homes slot k none ne ∙ old.1, old.2));
  }

  unmoved : (s : St) (views : List K) → IsHomed fits key s → (slot : ℕ) → slot < length s.homes
      → IsHomed fits key record { words = set s.words slot 0; homes = s.homes; views = views }
  unmoved s views h slot lt = record {
    size = length-set s.words slot 0 ∙ h.size;
    each = λ k is.
        dite (ℕ_discrete k slot)
        (λ (e : k ≡ slot). absurd (not_there s h slot k lt e is))
        (λ (ne : k ≢ slot). elsewhere s h slot k 0 ne is);
  }

  -- the home is taken, where nobody has it
  pub takes_home : (slots slot : ℕ) → slot < slots → Arrives (IsHomed fits key) slots slot (λ _. 0) (IsTaken fits (step slots slot 0 0 none) (key, []))
  takes_home slots slot lt = λ s h len word.
      let inside : slot < length s.homes = subst (λ (n : ℕ). slot < n) (sym len) lt in
      dite (ℕ_discrete (get_or s.words slot 0) 1)
      (λ (e : get_or s.words slot 0 ≡ 1).
      let old = h.each slot e in (
        key,
        takes slot old.0,
        old.1,
        left s (s.views ++ key ∷ []) h slot inside,
        record { hit = λ _. (old.0, refl, old.2); miss = λ ne. absurd (ne e) },
      ))
      (λ (ne : get_or s.words slot 0 ≢ 1). (
        key,
        keeps,
        tt,
        unmoved s (s.views ++ key ∷ []) h slot inside,
        record { hit = λ e. absurd (ne e); miss = λ _. refl },
      ))

  none_at : (count k : ℕ) → k < count → get_elem? (replicate {A = Option T} count None) k ≡ some None
  none_at zero k lt = absurd (omega (arith, lt))
  none_at (suc count) zero lt = refl
  none_at (suc count) (suc k) lt = none_at count k (omega (arith, lt))

  so_many : {X : Type 0} (count : ℕ) (x : X) → length (replicate count x) ≡ count
  so_many zero x = refl
  so_many (suc count) x = ap suc (so_many count x)

  -- at the start each home is empty
  pub opens : (words : List ℕ) (count : ℕ) → words ≡ replicate count 1 → IsHomed fits key (opening words (replicate count None) key)
  opens words count is = record {
    size = ap length is ∙ so_many count 1 ∙ sym (length-map (replicate count None) some ∙ so_many count None);
    each = λ k one.
        let below = within words k one in
        let all = so_many {X = ℕ} count 1 in
        let lt : k < count = omega (arith, below, ap length is, all) in
        (None, at_map some (replicate count None) k None (none_at count k lt), tt);
  }

-- one ticket more
pub ticket_more : (table : TableId) (slot : ℕ) (ts : List TicketValue) (t : TicketValue)
    → AreTicketsFrom table slot ts → t.table ≡ table → t.slot ≡ slot + length ts → AreTicketsFrom table slot (ts ++ t ∷ [])
ticket_more table slot [] t all own at = (own, omega (arith, at), tt)
ticket_more table slot (x ∷ xs) t all own at = (all.0, all.1, ticket_more table (slot + 1) xs t all.2 own (omega (arith, at)))
