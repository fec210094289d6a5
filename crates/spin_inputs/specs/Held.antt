-- What contracts see of a source over bytes that are held in memory: it has these left, doesn't tell how many were
-- taken, and never fails.
use Rattle.std.specs.Prelude.{ℕ, List, Some, None}
use Rattle.spin_outside.specs.Sources.{SourceSeen}

abbrev pub held_seen : List ℕ → SourceSeen
held_seen bytes = record {
  left = Some bytes;
  taken = None;
  keep = record { file = 0; files = None; reads = λ _. None; absences = 0; reference = 0 };
  faults = 0;
}
