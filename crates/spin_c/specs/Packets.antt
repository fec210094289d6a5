-- Captures as C hands them in, and what reading one whole comes to.
use Rattle.std.specs.Prelude.{◌≡◌, ℕ, List, Option, Some, None, Ok, ⊤, if◌then◌else◌, ◌==◌}
use Rattle.spin_outside.specs.Sources.{SourceSeen}
use Rattle.spin_pcap.specs.declared.fault.BadRecord.{BadRecord}
use Rattle.spin_pcap.specs.declared.fault.BadRecord.TheVariants as bad
use Rattle.spin_pcap.specs.declared.next.Next.{Next}
use Rattle.spin_pcap.specs.declared.order.Order.{Order}
use Rattle.spin_pcap.specs.Captures.{IsCapture}
use Rattle.spin_pcap.specs.Whole.{IsRefused, cut_of}
use Rattle.spin_report.specs.Runs.{CaptureSeen}

-- what contracts see of a source of bytes that are handed in: it has these left, and never fails
abbrev pub packets_seen : List ℕ → SourceSeen
packets_seen bytes = record {
  left = Some bytes;
  taken = None;
  keep = record { file = 0; files = None; reads = λ _. None; absences = 0; reference = 0 };
  faults = 0;
}

-- a capture is handed in where the number isn't 0
abbrev pub given_if : ℕ → List ℕ → Option (List ℕ)
given_if has packets = if has == 0 then None else Some packets

-- The bytes are a good capture with these records, behind which so many bytes are no record.
abbrev pub IsWhole : List ℕ → CaptureSeen → Type 0
IsWhole bytes capture =
    (way : Order) × (last : Next) × IsCapture bytes way capture.frames (Ok last) × (capture.cut ≡ cut_of last)

-- This is what the capture of these bytes has; where none is handed in there is none.
abbrev pub AreCaptured : Option (List ℕ) → Option CaptureSeen → Type 0
AreCaptured None None = ⊤
AreCaptured (Some bytes) (Some capture) = IsWhole bytes capture
AreCaptured bytes other = ⊥

-- A capture is handed in, and refused at the record of that number, or 0 for its header, by the fault of that number.
abbrev pub AreRefused : Option (List ℕ) → ℕ → ℕ → Type 0
AreRefused None at fault = ⊥
AreRefused (Some bytes) at fault = IsRefused bytes at fault

-- Why the capture that is handed in isn't read whole: it is refused there, or there is no memory. No read fails.
abbrev pub IsStopped : Option (List ℕ) → BadRecord → Type 0
IsStopped bytes (bad.Capture at fault) = AreRefused bytes at fault
IsStopped bytes bad.ReadFault = ⊥
IsStopped bytes bad.NoMemory = ⊤
