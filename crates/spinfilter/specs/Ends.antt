-- How a call ends: the statuses of stops, and the lines that are written at them.
use Rattle.std.specs.Prelude.{ℕ, List, [], ◌++◌, codes, decimal}
use Rattle.spin_pcap.specs.Passing.{fault_number}
use Rattle.spin_text.specs.Words.{ended}
use Rattle.spin_filter.specs.declared.stop.Stop.{Stop}
use Rattle.spin_filter.specs.declared.stop.Stop.TheVariants as stop

-- how the words are
abbrev pub usage : List ℕ
usage = codes "usage: spinfilter SCRIPT CAPTURE.. [-w FILE] [--counts]"

-- the exit status of a stop
abbrev pub stop_status : Stop → ℕ
stop_status (stop.Capture number wrong) = 3
stop_status stop.Unread = 4
stop_status stop.WriteFault = 5
stop_status stop.Absent = 6
stop_status stop.NoMemory = 7
stop_status (stop.Endpoint number) = 8
stop_status stop.Retires = 12
stop_status stop.Segments = 12
stop_status (stop.Lane number) = 12
stop_status (stop.InTheWay number) = 12
stop_status stop.NoRecords = 12
stop_status (stop.NoFrame number) = 13

-- the line of a capture that is refused at the record of that number by the fault of that one
abbrev pub stop_refused : ℕ → ℕ → List ℕ
stop_refused number fault = ended (codes "stop 3 record " ++ decimal number ++ codes " fault " ++ decimal fault)

-- the line that is written at a stop
abbrev pub stop_line : Stop → List ℕ
stop_line (stop.Capture number wrong) = stop_refused number (fault_number wrong)
stop_line stop.Unread = ended (codes "stop 4 read packets")
stop_line stop.WriteFault = []
stop_line stop.Absent = ended (codes "stop 6 packets")
stop_line stop.NoMemory = ended (codes "stop 7 memory")
stop_line (stop.Endpoint number) = ended (codes "stop 8 endpoint " ++ decimal number ++ [])
stop_line stop.Retires = ended (codes "stop 12 retire")
stop_line stop.Segments = ended (codes "stop 12 segments")
stop_line (stop.Lane number) = ended (codes "stop 12 line " ++ decimal number ++ codes " lane")
stop_line (stop.InTheWay number) = ended (codes "stop 12 line " ++ decimal number ++ codes " deed")
stop_line stop.NoRecords = ended (codes "stop 12 packets")
stop_line (stop.NoFrame number) = ended (codes "stop 13 endpoint " ++ decimal number ++ [])
