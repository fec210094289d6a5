-- Counts of one part of a history after another, and what is told of a part.
use Rattle.std.specs.Prelude.{◌≡◌, ◌<◌, ℕ, ◌+◌, List, length, take, Option, Some, None, Result, Ok, Err, ⊤}
use Rattle.std.specs.Io.KnownBytes.{Appends}
use Rattle.spin_outside.specs.Counts.{Rose}
use Rattle.spin_outside.specs.Seen.{SinkSeen}
use Rattle.spin_run.specs.declared.end.RunEnd.{RunEnd}
use Rattle.spin_run.specs.declared.end.RunEnd.TheVariants as end
use Rattle.spin_run.specs.Summaries.{Counts}

-- all counts, added up
abbrev pub plus : Counts → Counts → Counts
plus a b = record {
  entries = a.entries + b.entries;
  accepted = a.accepted + b.accepted;
  refused = a.refused + b.refused;
  runs = a.runs + b.runs;
  sends = a.sends + b.sends;
}

-- so much was counted more, where it is counted
abbrev pub TalliesOn : Option Counts → Option Counts → Counts → Type 0
TalliesOn None after more = ⊤
TalliesOn (Some before) after more = after ≡ Some (plus before more)

-- The text was told, or a front of it and not all; or there was no memory, and nothing was told.
abbrev pub Tells : SinkSeen → SinkSeen → List ℕ → Result (Unit {0}) RunEnd → Type 0
Tells sink sink' text (Ok done) = Appends sink.told sink'.told text
Tells sink sink' text (Err end.WriteFault) =
    (n : ℕ) × (n < length text) × Appends sink.told sink'.told (take n text)
Tells sink sink' text (Err end.NoMemory) = sink' ≡ sink
Tells sink sink' text (Err other) = ⊥

-- Telling failed only where the sink's count of faults rose, which rose in no call that ended otherwise.
abbrev pub TellsByCount : ℕ → ℕ → Result (Unit {0}) RunEnd → Type 0
TellsByCount before now (Err end.WriteFault) = Rose before now
TellsByCount before now other = now ≡ before
