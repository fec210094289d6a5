-- What contracts see of a reader, and what its calls do.
use Rattle.std.specs.Prelude.{◌≡◌, ℕ, ◌+◌, ◌<◌, ◌≤◌, Option, Some, None, List}
use Rattle.std.specs.Prelude.{[], ◌++◌, length, drop, Result, Ok, Err, ⊤}
use Rattle.std.specs.Io.KnownBytes.{Consumes}
use Rattle.spin_outside.specs.Counts.{Rose}
use Rattle.spin_outside.specs.Sources.{SourceSeen, taken_more}
use Rattle.spin_pcap.specs.declared.fault.PcapFault.{PcapFault}
use Rattle.spin_pcap.specs.declared.fault.PcapFault.TheVariants as fault
use Rattle.spin_pcap.specs.declared.next.Next.{Next}
use Rattle.spin_pcap.specs.declared.next.Next.TheVariants as next
use Rattle.spin_pcap.specs.declared.order.Order.{Order}
use Rattle.spin_pcap.specs.declared.state.State.{State}
use Rattle.spin_pcap.specs.declared.state.State.TheVariants as state
use Rattle.spin_pcap.specs.Captures.{header_of, captured_length, IsRecord, IsRest}
use Rattle.spin_pcap.specs.declared.limits.TheConstants.{MAX_CAPTURED, MAX_HELD, MAX_RECORDS}

-- a reader: the order of the fields, the bytes that it took and hasn't given yet, how many records
-- it gave, and how it stands
pub record ReaderState : Type 0 where
  pub order : Order
  pub held : List ℕ
  pub given : ℕ
  pub state : State

-- what is left for a reader: what it took and hasn't given, and then what the source has left
abbrev pub left_for : List ℕ → Option (List ℕ) → Option (List ℕ)
left_for held None = None
left_for held (Some left) = Some (held ++ left)

-- So many bytes were taken from the source: those that are gone, and those that are held, but for
-- those held before.
pub record Takes (gone held : List ℕ) (source : SourceSeen) (held' : List ℕ)
    (source' : SourceSeen) : Type 0 where
  pub count : ℕ
  pub taken : source'.taken ≡ taken_more source.taken count
  pub balance : count + length held ≡ length gone + length held'

-- These bytes are gone from the front of what was left for the reader, and the source keeps what it
-- keeps.
pub record Passes (gone held : List ℕ) (source : SourceSeen) (held' : List ℕ)
    (source' : SourceSeen) : Type 0 where
  pub left : Consumes (left_for held source.left) (left_for held' source'.left) gone
  pub takes : Takes gone held source held' source'
  pub keep : source'.keep ≡ source.keep

-- The number of a fault, in the order in which they are declared.
abbrev pub fault_number : PcapFault → ℕ
fault_number fault.ReadFault = 1
fault_number fault.BadMagic = 2
fault_number fault.BadVersion = 3
fault_number fault.BadLink = 4
fault_number fault.Short = 5
fault_number fault.TooLong = 6
fault_number fault.TooManyRecords = 7
fault_number (fault.Spoilt first) = 8
fault_number fault.NoMemory = 9

-- The fact holds, unless a read failed or memory ran out.
abbrev pub UnlessFailed : PcapFault → Type 0 → Type 0
UnlessFailed fault.ReadFault fact = ⊤
UnlessFailed fault.BadMagic fact = fact
UnlessFailed fault.BadVersion fact = fact
UnlessFailed fault.BadLink fact = fact
UnlessFailed fault.Short fact = fact
UnlessFailed fault.TooLong fact = fact
UnlessFailed fault.TooManyRecords fact = fact
UnlessFailed (fault.Spoilt first) fact = fact
UnlessFailed fault.NoMemory fact = ⊤

-- Only a failed read raises the count of faults.
abbrev pub FaultByCount : PcapFault → ℕ → ℕ → Type 0
FaultByCount fault.ReadFault before now = Rose before now
FaultByCount fault.BadMagic before now = now ≡ before
FaultByCount fault.BadVersion before now = now ≡ before
FaultByCount fault.BadLink before now = now ≡ before
FaultByCount fault.Short before now = now ≡ before
FaultByCount fault.TooLong before now = now ≡ before
FaultByCount fault.TooManyRecords before now = now ≡ before
FaultByCount (fault.Spoilt first) before now = now ≡ before
FaultByCount fault.NoMemory before now = now ≡ before

abbrev pub ReadsByCount : {T : Type 0} → ℕ → ℕ → Result T PcapFault → Type 0
ReadsByCount before now (Ok x) = now ≡ before
ReadsByCount before now (Err wrong) = FaultByCount wrong before now

-- What `start` answers where these bytes are left: the order of the header, and what follows it is
-- left; or its first fault.
abbrev pub IsStart : List ℕ → Result ReaderState PcapFault → Option (List ℕ) → Type 0
IsStart bytes (Ok reader) left =
    (header_of bytes ≡ Ok reader.order) × (left_for reader.held left ≡ Some (drop 24 bytes))
IsStart bytes (Err wrong) left = UnlessFailed wrong (header_of bytes ≡ Err wrong)

-- What `start` took: the header and what the reader holds.
abbrev pub TakesHeader : Result ReaderState PcapFault → SourceSeen → SourceSeen → Type 0
TakesHeader (Ok reader) source source' =
    source'.taken ≡ taken_more source.taken (24 + length reader.held)
TakesHeader (Err wrong) source source' =
    (count : ℕ) × (count ≤ MAX_HELD) × (source'.taken ≡ taken_more source.taken count)

-- a reader that gave nothing yet
abbrev pub IsFresh : ReaderState → Type 0
IsFresh reader =
    (reader.given ≡ 0) × (reader.state ≡ state.Reading) × (length reader.held ≤ MAX_HELD)

-- What `next` answers where these bytes are left for the reader: the record that stands there,
-- whose bytes are then no longer left; or how the rest is answered.
abbrev pub IsAnswer : Order → ℕ → List ℕ → Result Next PcapFault → List ℕ → Option (List ℕ)
    → Type 0
IsAnswer way given bytes (Ok next.Packet) frame left =
    (rest : List ℕ) × (left ≡ Some rest) × IsRecord way given bytes frame rest
IsAnswer way given bytes (Ok next.End) frame left = IsRest way given bytes (Ok next.End)
IsAnswer way given bytes (Ok (next.Cut count)) frame left =
    IsRest way given bytes (Ok (next.Cut count))
IsAnswer way given bytes (Err wrong) frame left =
    UnlessFailed wrong (IsRest way given bytes (Err wrong))

-- These bytes lie within one record: they are no more than its header, if that is among them, says, and no more than a
-- record can have.
pub record IsWithinRecord (way : Order) (bytes : List ℕ) : Type 0 where
  pub few : length bytes ≤ 16 + MAX_CAPTURED
  pub says : 16 ≤ length bytes → length bytes ≤ 16 + captured_length way bytes

-- A record that was given is gone, its header and its bytes; in any other case at most a part of
-- one record is gone.
abbrev pub IsGone : Order → Result Next PcapFault → List ℕ → List ℕ → Type 0
IsGone way (Ok next.Packet) gone frame =
    (length gone ≡ 16 + length frame) × (length frame ≤ MAX_CAPTURED)
IsGone way (Ok next.End) gone frame = IsWithinRecord way gone
IsGone way (Ok (next.Cut count)) gone frame = IsWithinRecord way gone
IsGone way (Err wrong) gone frame = IsWithinRecord way gone

-- Behind so many records a cut rest may stand: it has a byte, and fewer than the longest record.
abbrev pub IsCutShort : ℕ → Result Next PcapFault → Type 0
IsCutShort given (Ok next.Packet) = ⊤
IsCutShort given (Ok next.End) = ⊤
IsCutShort given (Ok (next.Cut count)) =
    (given < MAX_RECORDS) × (0 < count) × (count < 16 + MAX_CAPTURED)
IsCutShort given (Err wrong) = ⊤

-- A refusal behind so many records: of one record more for its length, or of a byte behind as many as are allowed.
-- Memory is wanted only for one record more.
abbrev pub IsRefusal : ℕ → Result Next PcapFault → Type 0
IsRefusal given (Ok next) = ⊤
IsRefusal given (Err fault.ReadFault) = ⊤
IsRefusal given (Err fault.BadMagic) = ⊥
IsRefusal given (Err fault.BadVersion) = ⊥
IsRefusal given (Err fault.BadLink) = ⊥
IsRefusal given (Err fault.Short) = ⊥
IsRefusal given (Err fault.TooLong) = given < MAX_RECORDS
IsRefusal given (Err fault.TooManyRecords) = MAX_RECORDS ≤ given
IsRefusal given (Err (fault.Spoilt first)) = ⊥
IsRefusal given (Err fault.NoMemory) = given < MAX_RECORDS

-- The frame has no bytes, unless a record was given.
abbrev pub EmptyUnlessPacket : Result Next PcapFault → List ℕ → Type 0
EmptyUnlessPacket (Ok next.Packet) frame = ⊤
EmptyUnlessPacket (Ok next.End) frame = frame ≡ []
EmptyUnlessPacket (Ok (next.Cut count)) frame = frame ≡ []
EmptyUnlessPacket (Err wrong) frame = frame ≡ []

-- how many records were given, and how the reader stands, after an answer
abbrev pub given_after : ℕ → Result Next PcapFault → ℕ
given_after given (Ok next.Packet) = given + 1
given_after given (Ok next.End) = given
given_after given (Ok (next.Cut count)) = given
given_after given (Err wrong) = given

abbrev pub state_after : Result Next PcapFault → State
state_after (Ok next.Packet) = state.Reading
state_after (Ok next.End) = state.End
state_after (Ok (next.Cut count)) = state.Cut count
state_after (Err wrong) = state.Spoilt (fault_number wrong)

-- The one fact holds of a reader that reads, the other of one that came to an end or to a refusal.
abbrev pub IfReading : State → Type 0 → Type 0 → Type 0
IfReading state.Reading fact other = fact
IfReading state.End fact other = other
IfReading (state.Cut count) fact other = other
IfReading (state.Spoilt first) fact other = other

-- An end is answered again, and a refusal by its number.
abbrev pub Repeats : State → Result Next PcapFault → Type 0
Repeats state.Reading result = ⊤
Repeats state.End result = result ≡ Ok next.End
Repeats (state.Cut count) result = result ≡ Ok (next.Cut count)
Repeats (state.Spoilt first) result = result ≡ Err (fault.Spoilt first)
