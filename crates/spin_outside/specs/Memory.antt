-- What contracts see of a sink in memory.
use Rattle.std.specs.Prelude.{ℕ, List, Bool, Option, Some, None, ◌||◌, ◌+◌, ◌-◌, ◌++◌, [], nat_le, length, take}
use Rattle.std.specs.Prelude.{if◌then◌else◌}
use Rattle.spin_outside.specs.Calls.{CallsState, no_call, next_fails, counted}
use Rattle.spin_outside.specs.Seen.{SinkSeen}
use Rattle.spin_outside.specs.Sources.{moved_at_most}

-- what it took, how many bytes it takes in all, how many a call moves at most, its calls, and its count of faults
pub record SinkState : Type 0 where
  pub taken : List ℕ
  pub room : ℕ
  pub piece : Option ℕ
  pub calls : CallsState
  pub faults : ℕ

-- a sink with room for so many bytes, as it is made
abbrev pub empty_sink : ℕ → SinkState
empty_sink room = record { taken = []; room = room; piece = None; calls = no_call; faults = 0 }

abbrev pub sink_seen : SinkState → SinkSeen
sink_seen sink = record { told = Some sink.taken; faults = sink.faults }

-- The next write fails: its number is listed, or no room is left.
abbrev pub refuses : SinkState → Bool
refuses sink = next_fails sink.calls || nat_le sink.room (length sink.taken)

-- the bytes, of those handed in, that the room left takes and that are allowed in a call
abbrev pub fitting : SinkState → List ℕ → List ℕ
fitting sink bytes = take (moved_at_most sink.piece (sink.room - length sink.taken)) bytes

-- the sink after a write of the bytes
abbrev pub written : SinkState → List ℕ → SinkState
written sink bytes =
    if refuses sink
    then record sink { calls = counted sink.calls; faults = sink.faults + 1 }
    else record sink { calls = counted sink.calls; taken = sink.taken ++ fitting sink bytes }
