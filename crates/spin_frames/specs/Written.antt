-- A capture as it is written: numbers of four bytes, the lowest first, and times in microseconds.
use Rattle.std.specs.Prelude.{ℕ, ◌/◌, [], ◌∷◌, ◌++◌, Bool, List, if◌then◌else◌}
use Rattle.std.specs.List.{flat_map}
use Rattle.std.specs.Io.KnownBytes.{append_known}
use Rattle.byteorder.specs.Endian.{little_bytes}
use Rattle.spin_outside.specs.Seen.{SinkSeen}
use Rattle.spin_pcap.specs.Captures.{ordered_number_at}
use Rattle.spin_frames.specs.declared.head.Head.{Head}
use Rattle.spin_frames.specs.Packets.{Packet}

-- numbers of four bytes each
abbrev pub numbers : List ℕ → List ℕ
numbers ns = flat_map (little_bytes 4) ns

-- the header of a file with that snapshot length: the magic of microseconds, version 2.4 in two numbers of two bytes,
-- two numbers that are not used, and Ethernet
abbrev pub file_header : ℕ → List ℕ
file_header snap = numbers (0xa1b2c3d4 ∷ 0x40002 ∷ 0 ∷ 0 ∷ snap ∷ 1 ∷ [])

-- so many parts of a second, in microseconds
abbrev pub micros : Bool → ℕ → ℕ
micros is_nano parts = if is_nano then parts / 1000 else parts

-- the header of a record of a capture with that head: its time, how many bytes were captured, and how many there were
abbrev pub record_header : Head → List ℕ → List ℕ
record_header head header =
    numbers (ordered_number_at head.order 0 4 header ∷ micros head.is_nano (ordered_number_at head.order 4 4 header)
    ∷ ordered_number_at head.order 8 4 header ∷ ordered_number_at head.order 12 4 header ∷ [])

-- the record
abbrev pub written_record : Head → Packet → List ℕ
written_record head packet = record_header head packet.header ++ packet.frame

-- a sink, with bytes that wait for it as if it had taken them
abbrev pub with_waiting : SinkSeen → List ℕ → SinkSeen
with_waiting sink waiting = record sink { told = append_known sink.told waiting }
