-- Captures that are read whole, and those that are refused at a record.
use Rattle.std.specs.Prelude.{◌≡◌, ◌+◌, ◌⊎◌, ℕ, List, length, Result, Ok, Err, ⊤}
use Rattle.spin_outside.specs.Counts.{Rose}
use Rattle.spin_pcap.specs.declared.fault.BadRecord.{BadRecord}
use Rattle.spin_pcap.specs.declared.fault.BadRecord.TheVariants as bad
use Rattle.spin_pcap.specs.declared.fault.PcapFault.{PcapFault}
use Rattle.spin_pcap.specs.declared.fault.PcapFault.TheVariants as fault
use Rattle.spin_pcap.specs.declared.next.Next.{Next}
use Rattle.spin_pcap.specs.declared.next.Next.TheVariants as next
use Rattle.spin_pcap.specs.declared.order.Order.{Order}
use Rattle.spin_pcap.specs.declared.captured.Captured.{Captured}
use Rattle.spin_pcap.specs.Captures.{header_of, IsCapture}
use Rattle.spin_pcap.specs.Passing.{fault_number}

-- what a fault of the record of that number is
abbrev pub bad_at : ℕ → PcapFault → BadRecord
bad_at at fault.ReadFault = bad.ReadFault
bad_at at fault.NoMemory = bad.NoMemory
bad_at at other = bad.Capture at (fault_number other)

-- Only a failed read raises the source's count of faults.
abbrev pub BadByCount : BadRecord → ℕ → ℕ → Type 0
BadByCount (bad.Capture at fault) before now = now ≡ before
BadByCount bad.ReadFault before now = Rose before now
BadByCount bad.NoMemory before now = now ≡ before

abbrev pub EndsByCount : {T : Type 0} → ℕ → ℕ → Result T BadRecord → Type 0
EndsByCount before now (Ok done) = now ≡ before
EndsByCount before now (Err stop) = BadByCount stop before now

-- The capture is refused at the record of that number, counted from 1, by the fault of that number;
-- or at record 0, by a fault of its header.
abbrev pub IsRefused : List ℕ → ℕ → ℕ → Type 0
IsRefused file at fault =
    (wrong : PcapFault) × (fault ≡ fault_number wrong)
    × (((at ≡ 0) × (header_of file ≡ Err wrong))
    ⊎ ((way : Order) × (frames : List (List ℕ)) × (at ≡ length frames + 1)
    × IsCapture file way frames (Err wrong)))

-- Where reading the capture stops for what it is, it is refused there.
abbrev pub IsStopped : List ℕ → BadRecord → Type 0
IsStopped file (bad.Capture at fault) = IsRefused file at fault
IsStopped file bad.ReadFault = ⊤
IsStopped file bad.NoMemory = ⊤

-- how many bytes of a rest are no record
abbrev pub cut_of : Next → ℕ
cut_of next.Packet = 0
cut_of next.End = 0
cut_of (next.Cut count) = count

-- What reading a file to its end gives: where it is a good capture, its records and how many bytes are no record.
abbrev pub ReadsFile : List ℕ → Result Captured BadRecord → Type 0
ReadsFile file (Ok capture) =
    (way : Order) × (last : Next) × IsCapture file way capture.frames (Ok last)
    × (capture.cut ≡ cut_of last)
ReadsFile file (Err stop) = IsStopped file stop
