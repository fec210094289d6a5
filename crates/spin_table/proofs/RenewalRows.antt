-- Worked examples of renewals.
use Rattle.std.proofs.Common.{◌≡◌, ℕ, List, [], ◌∷◌, refl}
use Rattle.spin_word.specs.Commands.{no_number}
use Rattle.spin_word.specs.declared.command.Place.TheVariants as place
use Rattle.spin_word.specs.declared.command.Mode.TheVariants as mode
use Rattle.spin_place.specs.declared.binding.Binding.{Binding}
use Rattle.spin_table.specs.States.{State, EventState}
use Rattle.spin_table.specs.Renewals.{live_numbers, old_number, renewed}

-- a binding that goes before and after bindings of these numbers
abbrev binding : (number before after : ℕ) → Binding
binding number before after = record {
  number = number;
  requester = 0;
  handler = number;
  own_guard = 0;
  imposed = [];
  place = place.Free;
  before = before ∷ no_number ∷ no_number ∷ no_number ∷ [];
  after = after ∷ no_number ∷ no_number ∷ no_number ∷ [];
  mode = mode.Plain;
}

abbrev under : ℕ → Binding → Binding
under handler b = record b { handler = handler }

abbrev event : List Binding → ℕ → EventState
event bindings default = record { bindings = bindings; default = default }

-- where nothing is bound the place is 0, and defaults stay
nothing_bound : renewed (record { place = 6; events = event [] 3 ∷ event [] 0 ∷ [] }) ≡ record { place = 0; events = event [] 3 ∷ event [] 0 ∷ [] }
nothing_bound = refl

-- Bindings 2, 4 and 5 are live. That 2 is to go before 3, which isn't, lapses; that 5 is to go after 2 stays.
abbrev before : State
before = record { place = 6; events = event (binding 2 3 no_number ∷ binding 5 no_number 2 ∷ []) 0 ∷ event (binding 4 no_number no_number ∷ []) 1 ∷ [] }

numbers_before : live_numbers before ≡ 2 ∷ 4 ∷ 5 ∷ []
numbers_before = refl

numbered_anew : renewed before
    ≡ record { place = 3; events = event (under 2 (binding 1 no_number no_number) ∷ under 5 (binding 3 no_number 1) ∷ []) 0 ∷ event (under 4 (binding 2 no_number no_number) ∷ []) 1 ∷ [] }
numbered_anew = refl

-- a renewal of what was renewed changes nothing
once_more : renewed (renewed before) ≡ renewed before
once_more = refl

-- the second binding was 4 before, and the next command's is 4 after and 7 before
second_before : old_number (live_numbers before) 6 2 ≡ 4
second_before = refl

next_before : old_number (live_numbers before) 6 4 ≡ 7
next_before = refl
