-- The fact that holds between any two steps of a table of homes, and what each kind of step tells.
use Rattle.std.specs.Prelude.{◌≡◌, ◌≢◌, ℕ, ◌+◌, List, [], ◌∷◌, length, slice_index, Option, IfSome, ⊤}
use mathlib.Core.Option.{some}
use lib.ListN.{get_elem?}
use Rattle.atomic_table.specs.Seated.{TableId}
use Rattle.atomic_table.specs.Table.{State, Step, Me}

-- which table it is, and the index of the home
pub record TicketValue : Type 0 where
  pub table : TableId
  pub slot : ℕ

-- where the word of a home is 1, what is there, if anything, fits the key
pub record IsHomed {T K : Type 0} (fits : K → ℕ → T → Type 0) (key : K) (s : State (Option T) K) : Type 0 where
  pub size : length s.words ≡ length s.homes
  pub each : (k : ℕ) → slice_index s.words k ≡ 1
      → (x : Option T) × (get_elem? s.homes k ≡ some (some x)) × IfSome x (fits key k)

-- Where the step found 1 the seat has the home, and what was there fits the key; and else it has none.
pub record IsTaken {T K : Type 0} (fits : K → ℕ → T → Type 0) (s : Step (Option T)) (m : Me (Option T) K) (n : ℕ)
    (w : Me (Option T) K) : Type 0 where
  pub hit : n ≡ 1 → (x : Option T) × (w.1 ≡ (s.word, x) ∷ []) × IfSome x (fits m.0 s.word)
  pub miss : n ≢ 1 → w.1 ≡ []

-- these are the tickets of that table's homes from that index on, in order
abbrev pub AreTicketsFrom : TableId → ℕ → List TicketValue → Type 0
AreTicketsFrom table slot [] = ⊤
AreTicketsFrom table slot (t ∷ ts) = (t.table ≡ table) × (t.slot ≡ slot) × AreTicketsFrom table (slot + 1) ts
