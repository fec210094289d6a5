-- How the top call ends: the statuses of its ends, and the lines that are written at them.
use Rattle.std.specs.Prelude.{◌≡◌, ◌<◌, ◌⊎◌, ℕ, List, [], ◌++◌, length, take, codes, decimal}
use Rattle.std.specs.Io.KnownBytes.{Appends}
use Rattle.spin_outside.specs.Counts.{Rose}
use Rattle.spin_outside.specs.Seen.{SinkSeen}
use Rattle.spin_pcap.specs.declared.fault.BadRecord.{BadRecord}
use Rattle.spin_pcap.specs.declared.fault.BadRecord.TheVariants as bad
use Rattle.spin_text.specs.Words.{ended}
use Rattle.spin_inputs.specs.declared.end.End.{End}
use Rattle.spin_inputs.specs.declared.end.End.TheVariants.{Whole, Usage, Refused, Capture, Unread, WriteFault, Absent}
use Rattle.spin_inputs.specs.declared.end.End.TheVariants.{NoMemory, Endpoint, NoHistory, LongReport, Trace, Unsuited}
use Rattle.spin_inputs.specs.declared.end.Input.{Input}
use Rattle.spin_inputs.specs.declared.end.Input.TheVariants as input

-- the exit status of an end
abbrev pub exit_status : End → ℕ
exit_status Whole = 0
exit_status Usage = 1
exit_status (Refused line cause) = 2
exit_status (Capture at fault) = 3
exit_status (Unread file) = 4
exit_status WriteFault = 5
exit_status (Absent file) = 6
exit_status NoMemory = 7
exit_status (Endpoint at) = 8
exit_status NoHistory = 9
exit_status LongReport = 10
exit_status (Trace line cause) = 11
exit_status Unsuited = 12

-- the end of a call whose capture wasn't read on
abbrev pub end_at : BadRecord → End
end_at (bad.Capture at fault) = Capture at fault
end_at bad.ReadFault = Unread input.Packets
end_at bad.NoMemory = NoMemory

-- the words of every command
abbrev pub usage : List ℕ
usage =
    codes "usage: spin run SCRIPT [PACKETS]"
    ++ codes " | spin gen NUMBER"
    ++ codes " | spin check SCRIPT REPORT [PACKETS]"
    ++ codes " | spin join SCRIPT PACKETS"
    ++ codes " | spin vm SCRIPT TRACE"

-- the word for a file in a stop line
abbrev pub input_word : Input → List ℕ
input_word input.Script = codes "script"
input_word input.Packets = codes "packets"
input_word input.Report = codes "report"
input_word input.Trace = codes "trace"

-- the line that is written at an end
abbrev pub stop_line : End → List ℕ
stop_line Whole = []
stop_line Usage = ended usage
stop_line (Refused line cause) =
    ended (codes "stop 2 line " ++ decimal line ++ codes " cause " ++ decimal cause)
stop_line (Capture at fault) =
    ended (codes "stop 3 record " ++ decimal at ++ codes " fault " ++ decimal fault)
stop_line (Unread file) = ended (codes "stop 4 read " ++ input_word file)
stop_line WriteFault = []
stop_line (Absent file) = ended (codes "stop 6 " ++ input_word file)
stop_line NoMemory = ended (codes "stop 7 memory")
stop_line (Endpoint at) = ended (codes "stop 8 endpoint " ++ decimal at)
stop_line NoHistory = []
stop_line LongReport = ended (codes "stop 10 report")
stop_line (Trace line cause) =
    ended (codes "stop 11 line " ++ decimal line ++ codes " cause " ++ decimal cause)
stop_line Unsuited = ended (codes "stop 12 script")

-- The bytes were appended, or the sink failed, and a front of them was.
abbrev pub Tells : SinkSeen → SinkSeen → List ℕ → Type 0
Tells before after bytes =
    ((after.faults ≡ before.faults) × Appends before.told after.told bytes)
    ⊎ ((n : ℕ) × (n < length bytes) × Rose before.faults after.faults
    × Appends before.told after.told (take n bytes))
