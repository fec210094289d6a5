-- Orders of numbers of which some must precede others, and cycles among them.
use Rattle.std.specs.Prelude.{◌≡◌, ℕ, ◌<◌, ◌≤◌, ◌⊎◌, List, [], ◌∷◌, length, slice_index, All, AllPairs, IsPermutation}

-- no number stands twice
abbrev pub AreDistinct : List ℕ → Type 0
AreDistinct ns = AllPairs (λ m n. m ≡ n → ⊥) ns

-- all the numbers in an order in which nothing stands after what it must precede
abbrev pub IsLawfulOrder : (ℕ → ℕ → Type 0) → List ℕ → List ℕ → Type 0
IsLawfulOrder MustPrecede numbers ns = IsPermutation numbers ns × AllPairs (λ m n. MustPrecede n m → ⊥) ns

-- at the first difference the first list has the smaller number
abbrev pub IsLess : List ℕ → List ℕ → Type 0
IsLess (m ∷ ms) (n ∷ ns) = (m < n) ⊎ ((m ≡ n) × IsLess ms ns)
IsLess ms ns = ⊥

-- a lawful order that is less than each other one
abbrev pub IsLeastOrder : (ℕ → ℕ → Type 0) → List ℕ → List ℕ → Type 0
IsLeastOrder MustPrecede numbers ns =
    IsLawfulOrder MustPrecede numbers ns
    × ((ms : List ℕ) → IsLawfulOrder MustPrecede numbers ms → (ms ≡ ns) ⊎ IsLess ns ms)

-- from the first number over those of the list to the last number, each must precede the next
abbrev pub Leads : (ℕ → ℕ → Type 0) → ℕ → List ℕ → ℕ → Type 0
Leads MustPrecede first [] last = MustPrecede first last
Leads MustPrecede first (n ∷ ns) last = MustPrecede first n × Leads MustPrecede n ns last

-- each number of the list must precede the next one, and the last one the first
abbrev pub IsRing : (ℕ → ℕ → Type 0) → List ℕ → Type 0
IsRing MustPrecede [] = ⊥
IsRing MustPrecede (n ∷ ns) = Leads MustPrecede n ns n

-- at least two distinct numbers, the least first, of which each must precede the next, and the last
-- the first
pub record IsCycleOf (MustPrecede : ℕ → ℕ → Type 0) (ns : List ℕ) : Type 0 where
  pub several : 2 ≤ length ns
  pub distinct : AreDistinct ns
  pub least_first : All (λ n. slice_index ns 0 ≤ n) ns
  pub closed : IsRing MustPrecede ns
