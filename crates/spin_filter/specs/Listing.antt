-- Which bindings are counted at a state.
use Rattle.std.specs.Prelude.{ℕ, suc, ◌==◌, List, [], ◌∷◌, ◌++◌, map, if◌then◌else◌}
use Rattle.spin_table.specs.States.{State, EventState}
use Rattle.spin_filter.specs.Counting.{BindingAt}

-- the binding of the event under that number
abbrev pub binding_at : ℕ → ℕ → BindingAt
binding_at event number = record { event = event; number = number }

-- the default of an event, if it has one
abbrev pub default_of : ℕ → ℕ → List BindingAt
default_of event default = if default == 0 then [] else binding_at event 0 ∷ []

-- the default of an event, if it has one, and its live bindings in rising order of number
abbrev pub bindings_of : ℕ → EventState → List BindingAt
bindings_of event e = default_of event e.default ++ map (λ b. binding_at event b.number) e.bindings

-- those of these events, of which the first has that number
abbrev pub bindings_from : ℕ → List EventState → List BindingAt
bindings_from event [] = []
bindings_from event (e ∷ events) = bindings_of event e ++ bindings_from (suc event) events

-- those of all events
abbrev pub bindings_at : State → List BindingAt
bindings_at s = bindings_from 0 s.events
