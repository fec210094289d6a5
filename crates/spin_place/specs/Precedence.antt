-- Which binding must run before which.
use Rattle.std.specs.Prelude.{◌≡◌, ℕ, IsTrue, Bool, true, false, not, ◌&&◌, ◌||◌, ◌==◌, List, map, Any}
use Rattle.std.specs.List.{list_any}
use Rattle.spin_word.specs.Commands.{no_number}
use Rattle.spin_word.specs.declared.command.Place.{Place}
use Rattle.spin_word.specs.declared.command.Place.TheVariants.{Free, First, Last}
use Rattle.spin_place.specs.declared.binding.Binding.{Binding}
use Rattle.spin_place.specs.Orders.{IsLawfulOrder, IsLeastOrder, IsCycleOf}

-- it is to stand before each binding that isn't first too
abbrev pub is_first : Place → Bool
is_first Free = false
is_first First = true
is_first Last = false

-- it is to stand after each binding that isn't last too
abbrev pub is_last : Place → Bool
is_last Free = false
is_last First = false
is_last Last = true

-- the number of a binding is among these numbers, of which 65,535 is none
abbrev pub names : List ℕ → ℕ → Bool
names ns n = not (n == no_number) && list_any (λ m. m == n) ns

-- of two different bindings, the first must precede the second
abbrev pub must_precede : Binding → Binding → Bool
must_precede b c =
    not (b.number == c.number)
    && (is_first b.place && not (is_first c.place)
    || is_last c.place && not (is_last b.place)
    || names b.before c.number
    || names c.after b.number)

-- the numbers of the bindings, in their order
abbrev pub numbers_of : List Binding → List ℕ
numbers_of bs = map (λ b. b.number) bs

-- of the bindings, the one with the first number must precede the one with the second
abbrev pub MustPrecede : List Binding → ℕ → ℕ → Type 0
MustPrecede bs m n = Any (λ b. (b.number ≡ m) × Any (λ c. (c.number ≡ n) × IsTrue (must_precede b c)) bs) bs

-- these numbers are a lawful order of the bindings
abbrev pub IsLawful : List Binding → List ℕ → Type 0
IsLawful bs ns = IsLawfulOrder (MustPrecede bs) (numbers_of bs) ns

-- these numbers are the order of the bindings, the least of their lawful orders
abbrev pub IsTheOrder : List Binding → List ℕ → Type 0
IsTheOrder bs ns = IsLeastOrder (MustPrecede bs) (numbers_of bs) ns

-- two or more distinct numbers, the least first, of which each must precede the next, and the last the first
abbrev pub IsCycle : List Binding → List ℕ → Type 0
IsCycle bs ns = IsCycleOf (MustPrecede bs) ns

-- some order of the bindings is lawful
abbrev pub HasLawfulOrder : List Binding → Type 0
HasLawfulOrder bs = (ns : List ℕ) × IsLawful bs ns

-- what of a binding its place in the order hangs on
abbrev pub constraints_of : Binding → ℕ × Place × List ℕ × List ℕ
constraints_of b = (b.number, b.place, b.before, b.after)
