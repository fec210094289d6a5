-- Live bindings that are counted number by number.
use Rattle.std.proofs.Common.{◌≡◌, ℕ, ◌+◌, ◌<◌, ◌≤◌, Bool, true, false, ◌||◌, cond, List, [], ◌∷◌, ◌++◌, length, get_or, take, sym, ap, subst, ◌∙◌, arith, length-append}
use Rattle.std.specs.Prelude.{IsSomeAnd, filter, slice_get}
use Rattle.std.specs.List.{list_any, range_with_len}
use Rattle.std.proofs.lemmas.List.{take_all}
use Rattle.std.proofs.lemmas.List.Folds.{list_any_at, list_any_more}
use Rattle.std.proofs.lemmas.Option.{slice_get-get_or}
use Rattle.spin_place.specs.declared.binding.Binding.{Binding}
use Rattle.spin_table.specs.States.{State, EventState, is_live}
use Rattle.spin_table.specs.Renewals.{is_live_in}
use Rattle.spin_table.proofs.RenewalTables.{filter_numbers_more}

-- a binding of an event has the number
abbrev pub has : ℕ → EventState → Bool
has n e = is_live e.bindings n

nothing : EventState
nothing = record { bindings = []; default = 0 }

module _ (s : State) (event n : ℕ) (bs : List Binding) (inside : event < length s.events) (are : IsSomeAnd (slice_get s.events event) (λ e. bs ≡ e.bindings)) where
  of_event : has n (get_or s.events event nothing) ≡ is_live bs n
  of_event =
      let same : bs ≡ (get_or s.events event nothing).bindings = subst (λ o. IsSomeAnd o (λ (e : EventState). bs ≡ e.bindings)) (slice_get-get_or s.events event nothing inside) are in
      ap (λ b. is_live b n) (sym same)

  pub live_found : is_live bs n ≡ true → true ≡ is_live_in s n
  live_found found = sym (list_any_at (has n) s.events event nothing inside (of_event ∙ found))

  pub live_further : is_live bs n ≡ false → list_any (has n) (take event s.events) ≡ false → list_any (has n) (take (event + 1) s.events) ≡ false
  live_further none so_far =
      list_any_more (has n) s.events event nothing inside ∙ ap (λ b. list_any (has n) (take event s.events) || b) (of_event ∙ none)
      ∙ ap (λ b. b || false) so_far

pub live_nowhere : (s : State) (events n : ℕ) → length s.events ≤ events → list_any (has n) (take events s.events) ≡ false → false ≡ is_live_in s n
live_nowhere s events n past so_far = sym (ap (list_any (has n)) (sym (take_all events s.events past)) ∙ so_far)

-- the count of those that pass, of one number more
pub count_more : (p : ℕ → Bool) (n count : ℕ) → count ≡ length (filter p (range_with_len 1 n)) → p (n + 1) ≡ true → count + 1 ≡ length (filter p (range_with_len 1 (n + 1)))
count_more p n count so_far passes =
    let before = filter p (range_with_len 1 n) in
    let is : length (filter p (range_with_len 1 (n + 1))) ≡ length (before ++ (n + 1) ∷ []) =
    ap length (filter_numbers_more p n ∙ ap (λ b. before ++ cond b ((n + 1) ∷ []) []) passes) in
    omega (arith, is, so_far, length-append before ((n + 1) ∷ []))

pub count_kept : (p : ℕ → Bool) (n count : ℕ) → count ≡ length (filter p (range_with_len 1 n)) → p (n + 1) ≡ false → count ≡ length (filter p (range_with_len 1 (n + 1)))
count_kept p n count so_far fails =
    let before = filter p (range_with_len 1 n) in
    let is : length (filter p (range_with_len 1 (n + 1))) ≡ length (before ++ []) =
    ap length (filter_numbers_more p n ∙ ap (λ b. before ++ cond b ((n + 1) ∷ []) []) fails) in
    omega (arith, is, so_far, length-append before [])
