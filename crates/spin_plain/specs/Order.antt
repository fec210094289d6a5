-- The order in which bindings run, found turn by turn.
use Rattle.std.specs.Prelude.{ℕ, zero, suc, Bool, not, ◌==◌, List, [], ◌∷◌, length, filter, find}
use Rattle.std.specs.List.{list_any}
use Rattle.std.specs.Option.{option_map_or}
use Rattle.spin_place.specs.declared.binding.Binding.{Binding}
use Rattle.spin_place.specs.Precedence.{must_precede}

-- none of the bindings must precede this one
abbrev pub is_ready : List Binding → Binding → Bool
is_ready bindings b = not (list_any (λ c. must_precede c b) bindings)

-- the bindings but the one of that number
abbrev pub all_but : ℕ → List Binding → List Binding
all_but number bindings = filter (λ b. not (b.number == number)) bindings

-- At each of so many turns the first binding goes that none of those left must precede. Where there is none, no more go.
abbrev pub in_turns : ℕ → List Binding → List Binding
in_turns zero bindings = []
in_turns (suc turns) bindings =
    option_map_or (λ b. b ∷ in_turns turns (all_but b.number bindings)) (find (is_ready bindings) bindings) []

-- the bindings, which rise by number, in the order in which they run
abbrev pub in_order : List Binding → List Binding
in_order bindings = in_turns (length bindings) bindings
