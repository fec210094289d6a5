-- A state whose live bindings are numbered anew.
use Rattle.std.specs.Prelude.{◌≡◌, ℕ, ◌+◌, ◌-◌, ◌<◌, ◌≤◌, ◌⊎◌, ◌==◌, Bool, nat_le, if◌then◌else◌, List, ◌∷◌}
use Rattle.std.specs.Prelude.{All, map, filter, length, position, slice_index}
use Rattle.std.specs.List.{list_any, range_with_len}
use Rattle.std.specs.Option.{option_map_or}
use Rattle.spin_word.specs.Commands.{no_number}
use Rattle.spin_place.specs.declared.binding.Binding.{Binding}
use Rattle.spin_table.specs.Setups.{SetupData}
use Rattle.spin_table.specs.States.{State, EventState, is_live, start_of}
use Rattle.spin_table.specs.Steps.{IsStep}
use Rattle.spin_table.specs.Soundness.{IsSound}
use Rattle.spin_table.specs.Renamings.{Rises, IsRenamed}
use Rattle.spin_word.specs.declared.command.Command.{Command}
use Rattle.spin_table.specs.declared.refusal.Verdicted.{Verdicted}

-- a binding of some event has that number
abbrev pub is_live_in : State → ℕ → Bool
is_live_in s number = list_any (λ e. is_live e.bindings number) s.events

-- the numbers of all live bindings, rising
abbrev pub live_numbers : State → List ℕ
live_numbers s = filter (is_live_in s) (range_with_len 1 s.place)

-- Live bindings, of which these are the numbers, are numbered anew from 1 on, in their order. The new number of that
-- number, none where no live binding has it
abbrev pub new_number : List ℕ → ℕ → ℕ
new_number live number = option_map_or (λ at. at + 1) (position (λ n. n == number) live) no_number

-- The number before, where the place was this. Numbers past the live bindings are those past the place
abbrev pub old_number : List ℕ → ℕ → ℕ → ℕ
old_number live place number =
    if nat_le number (length live) then slice_index (0 ∷ live) number
    else place + (number - length live)

-- the binding under its new number; of its constraints those on bindings that aren't live lapse
abbrev pub renewed_binding : List ℕ → Binding → Binding
renewed_binding live b = record b {
  number = new_number live b.number;
  before = map (new_number live) b.before;
  after = map (new_number live) b.after;
}

abbrev pub renewed_event : List ℕ → EventState → EventState
renewed_event live e = record e { bindings = map (renewed_binding live) e.bindings }

-- the state with all live bindings numbered anew; its place is their number
abbrev pub renewed : State → State
renewed s = record {
  place = length (live_numbers s);
  events = map (renewed_event (live_numbers s)) s.events;
}

-- a number that was given to a binding up to that place, or none
abbrev pub IsGiven : ℕ → ℕ → Type 0
IsGiven place number = ((0 < number) × (number ≤ place)) ⊎ (number ≡ no_number)

-- the binding's constraints name numbers that were given
abbrev pub NamesGiven : ℕ → Binding → Type 0
NamesGiven place b = All (IsGiven place) b.before × All (IsGiven place) b.after

-- the same of all live bindings
abbrev pub NameGiven : State → Type 0
NameGiven s = All (λ (e : EventState). All (NamesGiven s.place) e.bindings) s.events

-- So it is at the start, and each step leaves it so.
abbrev pub NamesStayGiven : Type 0
NamesStayGiven =
    (d : SetupData)
    → NameGiven (start_of d)
    × ((s : State) (c : Command) (v : Verdicted) (next : State)
    → IsSound d s → NameGiven s → IsStep d s c v next → NameGiven next)

-- The state before a renewal is the renewed one under the numbers before, which keep their order.
abbrev pub RenewalsAreRenamings : Type 0
RenewalsAreRenamings =
    (d : SetupData) (s : State) → IsSound d s → NameGiven s → s.place < no_number
    → Rises (old_number (live_numbers s) s.place)
    × IsRenamed (old_number (live_numbers s) s.place) (renewed s) s

-- The renewed state is sound, and has no more bindings than its place says.
abbrev pub RenewalsAreSound : Type 0
RenewalsAreSound =
    (d : SetupData) (s : State) → IsSound d s → NameGiven s → s.place < no_number
    → IsSound d (renewed s) × NameGiven (renewed s) × ((renewed s).place ≤ s.place)
