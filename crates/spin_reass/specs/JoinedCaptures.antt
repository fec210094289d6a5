-- The joined capture: a file of the classic format, with its lowest bytes first.
use Rattle.std.specs.Prelude.{◌≡◌, ℕ, ◌+◌, ◌-◌, nat_lt, if◌then◌else◌, List, [], ◌++◌, length}
use Rattle.std.specs.Prelude.{replicate, Result, Ok, Err}
use Rattle.std.specs.List.{flat_map}
use Rattle.byteorder.specs.Endian.{little_bytes}
use Rattle.spin_pcap.specs.declared.fault.BadRecord.{BadRecord}
use Rattle.spin_pcap.specs.declared.next.Next.{Next}
use Rattle.spin_pcap.specs.declared.next.Next.TheVariants as next
use Rattle.spin_pcap.specs.declared.order.Order.{Order}
use Rattle.spin_pcap.specs.declared.limits.TheConstants.{MAX_CAPTURED}
use Rattle.spin_pcap.specs.Captures.{IsCapture}
use Rattle.spin_pcap.specs.Whole.{IsStopped}
use Rattle.spin_reass.specs.Joining.{joined_frames}

-- microseconds, version 2.4, no time zone and no accuracy, frames of at most that many bytes,
-- Ethernet
abbrev pub file_header : List ℕ
file_header =
    little_bytes 4 0xa1b2c3d4
    ++ little_bytes 2 2
    ++ little_bytes 2 4
    ++ replicate 8 0
    ++ little_bytes 4 MAX_CAPTURED
    ++ little_bytes 4 1

-- the header of a record: no time, the captured length, and the original one
abbrev pub record_header : ℕ → ℕ → List ℕ
record_header captured original =
    replicate 8 0 ++ little_bytes 4 captured ++ little_bytes 4 original

-- the record of a frame, with its length twice
abbrev pub record_of : List ℕ → List ℕ
record_of frame = record_header (length frame) (length frame) ++ frame

-- a cut rest of so many bytes: zeros, but for a captured length that the bytes don't reach
abbrev pub cut_rest : ℕ → List ℕ
cut_rest count =
    if nat_lt count 16 then replicate count 0
    else record_header MAX_CAPTURED 0 ++ replicate (count - 16) 0

-- the rest behind the records
abbrev pub rest_of : Next → List ℕ
rest_of next.Packet = []
rest_of next.End = []
rest_of (next.Cut count) = cut_rest count

-- the joined capture of a capture with these records, and of its rest
abbrev pub joined_capture : List (List ℕ) → Next → List ℕ
joined_capture frames ending =
    file_header ++ flat_map record_of (joined_frames [] frames) ++ rest_of ending

-- What `join_capture` answers of a file: where it is a good capture, its joined capture.
abbrev pub IsJoined : List ℕ → Result (List ℕ) BadRecord → Type 0
IsJoined file (Ok bytes) =
    (way : Order) × (frames : List (List ℕ)) × (ending : Next)
    × IsCapture file way frames (Ok ending) × (bytes ≡ joined_capture frames ending)
IsJoined file (Err stop) = IsStopped file stop

-- The bytes are the joined capture of some good capture.
abbrev pub IsJoinedCapture : List ℕ → Type 0
IsJoinedCapture bytes = (file : List ℕ) × IsJoined file (Ok bytes)
