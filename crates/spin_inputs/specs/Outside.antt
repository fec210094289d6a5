-- The shelf, the sink and the endpoints that the top call is handed, before and after it.
use Rattle.std.specs.Prelude.{◌≡◌, List}
use Rattle.spin_outside.specs.Counts.{Rose}
use Rattle.spin_outside.specs.Seen.{ShelfSeen, SinkSeen}
use Rattle.spin_endpoint.specs.Named.{NamedEnd}
use Rattle.spin_inputs.specs.declared.end.End.{End}
use Rattle.spin_inputs.specs.Ends.{stop_line, Tells}

-- what contracts see of the shelf, of the sink and of the endpoints at one moment
pub record Outside : Type 0 where
  pub shelf : ShelfSeen
  pub sink : SinkSeen
  pub ends : List NamedEnd

-- this shelf, this sink and these endpoints, as they are seen at one moment
abbrev pub outside : ShelfSeen → SinkSeen → List NamedEnd → Outside
outside shelf sink ends = record { shelf = shelf; sink = sink; ends = ends }

-- Nothing was done, and only the line of this end was written.
pub record OnlyStops (before after : Outside) (end : End) : Type 0 where
  pub ends : after.ends ≡ before.ends
  pub tells : Tells before.sink after.sink (stop_line end)

-- The shelf's count of faults didn't rise.
abbrev pub NoReadFailed : Outside → Outside → Type 0
NoReadFailed before after = Rose before.shelf.faults after.shelf.faults → ⊥
