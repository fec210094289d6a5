-- What the end of a run comes to.
use Rattle.std.specs.Prelude.{◌≡◌, ◌<◌, ◌+◌, ℕ, List, [], length, take, Option, Some, None, Result, Ok, Err}
use Rattle.std.specs.Io.KnownBytes.{Appends}
use Rattle.spin_outside.specs.Seen.{SinkSeen}
use Rattle.spin_pcap.specs.declared.fault.PcapFault.{PcapFault}
use Rattle.spin_pcap.specs.declared.next.Next.{Next}
use Rattle.spin_pcap.specs.declared.next.Next.TheVariants as next
use Rattle.spin_pcap.specs.Passing.{ReaderState}
use Rattle.spin_text.specs.Words.{ended}
use Rattle.spin_report.specs.declared.text.CaptureCounts.{CaptureCounts}
use Rattle.spin_report.specs.Histories.{end_line}
use Rattle.spin_run.specs.declared.end.RunEnd.{RunEnd}
use Rattle.spin_run.specs.declared.end.RunEnd.TheVariants as end
use Rattle.spin_run.specs.Inner.Reading.{given_by, IsGoing, IsCaptureRefused, StopsBy}

-- what became of a capture of which so many records were used and so many are left, where the rest is answered so
abbrev pub counts : ℕ → ℕ → ℕ → CaptureCounts
counts used left cut = record { records = used + left; used = used; cut = cut }

abbrev pub AreCounts : ℕ → ℕ → Option (Result Next PcapFault) → Option CaptureCounts → Type 0
AreCounts used left None told = told ≡ None
AreCounts used left (Some (Ok next.End)) told = told ≡ Some (counts used left 0)
AreCounts used left (Some (Ok (next.Cut count))) told = told ≡ Some (counts used left count)
AreCounts used left (Some (Ok next.Packet)) told = ⊥
AreCounts used left (Some (Err wrong)) told = ⊥

abbrev pub GivesCounts : Option ReaderState → Result (Option CaptureCounts) RunEnd
    → List (List ℕ) → Option (Result Next PcapFault) → Type 0
GivesCounts before (Ok told) left rest = AreCounts (given_by before) (length left) rest told
GivesCounts before (Err stop) left rest = StopsBy (IsCaptureRefused before left rest) (IsGoing before) stop

-- The sink took the last line, or a front of it and not all, or nothing.
abbrev pub Finishes : ℕ → Option ReaderState → SinkSeen → SinkSeen → Result (Unit {0}) RunEnd
    → List (List ℕ) → Option (Result Next PcapFault) → Type 0
Finishes log_length before sink sink' (Ok done) left rest =
    (told : Option CaptureCounts) × AreCounts (given_by before) (length left) rest told
    × Appends sink.told sink'.told (ended (end_line log_length told))
Finishes log_length before sink sink' (Err end.WriteFault) left rest =
    (told : Option CaptureCounts) × AreCounts (given_by before) (length left) rest told
    × (n : ℕ) × (n < length (ended (end_line log_length told)))
    × Appends sink.told sink'.told (take n (ended (end_line log_length told)))
Finishes log_length before sink sink' (Err stop) left rest =
    StopsBy (IsCaptureRefused before left rest) (IsGoing before) stop × Appends sink.told sink'.told []
