-- States that are sound for a setup.
use Rattle.std.specs.Prelude.{◌≡◌, ℕ, ◌<◌, ◌≤◌, Bool, ◌&&◌, IsTrue, length, slice_get, Some}
use Rattle.std.specs.Prelude.{All, IsSomeAnd, Contains}
use Rattle.std.specs.List.{list_all}
use Rattle.std.specs.List.Sorted.{IsStrictlyIncreasing}
use Rattle.spin_place.specs.declared.binding.Binding.{Binding}
use Rattle.spin_place.specs.Precedence.{numbers_of, HasLawfulOrder}
use Rattle.spin_table.specs.declared.event.EventDef.{EventDef}
use Rattle.spin_table.specs.Setups.{SetupData, tests_in}
use Rattle.spin_table.specs.States.{State, EventState, VersionValue}
use Rattle.spin_table.specs.Units.{is_fit_handler, is_fit_guard, is_fit_own_guard, is_fit_default}

-- the binding's handler and guards are there and serve the event
abbrev pub is_fit_binding : SetupData → ℕ → EventDef → Binding → Bool
is_fit_binding d event e b =
    is_fit_handler d.handlers event e b.mode b.handler
    && is_fit_own_guard d.guards e b.own_guard
    && list_all (is_fit_guard d.guards e) b.imposed

-- the state of an event is sound at that place: its bindings rise by number from 1 to the place, are no more than the
-- limit, have a lawful order, and like its default serve the event
pub record IsSoundEvent (d : SetupData) (place event : ℕ) (e : EventDef) (s : EventState)
    : Type 0 where
  pub rising : IsStrictlyIncreasing (numbers_of s.bindings)
  pub installed : All (λ n. (0 < n) × (n ≤ place)) (numbers_of s.bindings)
  pub few : length s.bindings ≤ d.live
  pub orderly : HasLawfulOrder s.bindings
  pub bindings : All (λ b. IsTrue (is_fit_binding d event e b)) s.bindings
  pub default : IsTrue (is_fit_default d.handlers event e s.default)

-- the event of that number has a binding of this number
abbrev pub IsNumberAt : State → ℕ → ℕ → Type 0
IsNumberAt s event number =
    IsSomeAnd (slice_get s.events event)
    (λ (t : EventState). Contains (numbers_of t.bindings) number)

-- the state is sound for the setup: it has the setup's events, each event's state is sound, and no two events have
-- bindings of one number
pub record IsSound (d : SetupData) (s : State) : Type 0 where
  pub events : length s.events ≡ length d.events
  pub each : (event : ℕ) (e : EventDef) (t : EventState)
      → slice_get d.events event ≡ Some e → slice_get s.events event ≡ Some t
      → IsSoundEvent d s.place event e t
  pub apart : (i j number : ℕ) → IsNumberAt s i number → IsNumberAt s j number → i ≡ j

-- the version is sound for the setup: its state is, and its plans were compiled over the setup's guards
pub record IsSoundVersion (d : SetupData) (v : VersionValue) : Type 0 where
  pub state : IsSound d v.state
  pub tests : v.tests ≡ tests_in d
