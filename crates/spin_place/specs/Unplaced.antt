-- Bindings that ask for no place in the order.
use Rattle.std.specs.Prelude.{ℕ, ◌<◌, Bool, true, false, ◌&&◌, ◌==◌, List, IsTrue, All, AllPairs}
use Rattle.std.specs.List.{list_all}
use Rattle.spin_word.specs.Commands.{no_number}
use Rattle.spin_word.specs.declared.command.Place.{Place}
use Rattle.spin_word.specs.declared.command.Place.TheVariants.{Free, First, Last}
use Rattle.spin_place.specs.declared.binding.Binding.{Binding}
use Rattle.spin_place.specs.Precedence.{numbers_of}

-- it is neither first nor last
abbrev pub is_free : Place → Bool
is_free Free = true
is_free First = false
is_free Last = false

-- none of these is the number of a binding
abbrev pub names_none : List ℕ → Bool
names_none ns = list_all (λ n. n == no_number) ns

-- the binding may stand anywhere among others of which that is so too
abbrev pub asks_nothing : Binding → Bool
asks_nothing b = is_free b.place && names_none b.before && names_none b.after

-- none of the bindings asks for a place, and their numbers rise
abbrev pub AreUnplaced : List Binding → Type 0
AreUnplaced bs =
    All (λ b. IsTrue (asks_nothing b)) bs × AllPairs (λ m n. m < n) (numbers_of bs)
