-- What a version stands for.
use Rattle.std.specs.Prelude.{ℕ, ◌==◌, List, [], map, find, Option, Bool, is_some, count_by}
use Rattle.spin_code.specs.declared.test.Test.{Test}
use Rattle.spin_place.specs.declared.binding.Binding.{Binding}
use Rattle.spin_table.specs.declared.event.EventDef.{EventDef}
use Rattle.spin_table.specs.Setups.{SetupData}

-- of one event: its live bindings in rising order of number, and its default, 0 being none
pub record EventState : Type 0 where
  pub bindings : List Binding
  pub default : ℕ

-- the place, which is the number of commands that were accepted, and the state of each event
pub record State : Type 0 where
  pub place : ℕ
  pub events : List EventState

-- what contracts see of a version: its state, and the tests of the guards over which its plans were compiled
pub record VersionValue : Type 0 where
  pub state : State
  pub tests : List Test

-- an event without bindings, with its first default
abbrev pub first_state : EventDef → EventState
first_state e = record { bindings = []; default = e.first_default }

-- the state at the start
abbrev pub start_of : SetupData → State
start_of d = record { place = 0; events = map first_state d.events }

-- the live binding of that number
abbrev pub binding_of : List Binding → ℕ → Option Binding
binding_of bs number = find (λ b. b.number == number) bs

-- a live binding has that number
abbrev pub is_live : List Binding → ℕ → Bool
is_live bs number = is_some (binding_of bs number)

-- how many of the bindings a module asked for
abbrev pub live_of : List Binding → ℕ → ℕ
live_of bs requester = count_by (λ b. b.requester == requester) bs
