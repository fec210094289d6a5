-- Reading the records of a capture, to its end.
use Rattle.std.specs.Prelude.{◌≡◌, ◌+◌, ℕ, List, length, Result, Ok, Err, ⊤}
use Rattle.spin_pcap.specs.declared.fault.BadRecord.{BadRecord}
use Rattle.spin_pcap.specs.declared.fault.BadRecord.TheVariants as bad
use Rattle.spin_pcap.specs.declared.fault.PcapFault.{PcapFault}
use Rattle.spin_pcap.specs.declared.next.Next.{Next}
use Rattle.spin_pcap.specs.declared.order.Order.{Order}
use Rattle.spin_pcap.specs.declared.captured.Captured.{Captured}
use Rattle.spin_pcap.specs.Captures.{IsBody}
use Rattle.spin_pcap.specs.Passing.{fault_number}
use Rattle.spin_pcap.specs.Whole.{cut_of}

-- What reading the records that begin these bytes gives.
abbrev pub ReadsBody : Order → List ℕ → Result Captured BadRecord → Type 0
ReadsBody way bytes (Ok capture) =
    (last : Next) × IsBody way 0 bytes capture.frames (Ok last) × (capture.cut ≡ cut_of last)
ReadsBody way bytes (Err (bad.Capture at fault)) =
    (frames : List (List ℕ)) × (wrong : PcapFault) × IsBody way 0 bytes frames (Err wrong)
    × (at ≡ length frames + 1) × (fault ≡ fault_number wrong)
ReadsBody way bytes (Err bad.ReadFault) = ⊤
ReadsBody way bytes (Err bad.NoMemory) = ⊤
