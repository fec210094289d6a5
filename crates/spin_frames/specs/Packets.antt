-- Captures of any length, record by record, with the headers of the records.
use Rattle.std.specs.Prelude.{◌≡◌, ◌<◌, ◌≤◌, ◌+◌, ℕ, List, [], ◌∷◌, ◌++◌, length, drop, Result, Ok, Err}
use Rattle.std.specs.Io.KnownBytes.{IsAtEnd}
use Rattle.std.specs.Prelude.{Option, ⊤}
use Rattle.spin_pcap.specs.declared.limits.TheConstants.{MAX_CAPTURED}
use Rattle.spin_pcap.specs.declared.fault.PcapFault.{PcapFault}
use Rattle.spin_pcap.specs.declared.fault.PcapFault.TheVariants as fault
use Rattle.spin_pcap.specs.declared.next.Next.{Next}
use Rattle.spin_pcap.specs.Captures.{IsRest, captured_length}
use Rattle.spin_frames.specs.declared.head.Head.{Head}
use Rattle.spin_pcap.specs.declared.order.Order.{Order}
use Rattle.spin_frames.specs.declared.records.Found.{Found}
use Rattle.spin_frames.specs.declared.records.Found.TheVariants as found
use Rattle.spin_frames.specs.Heads.{IsHead}

-- a record: its header, and its captured bytes
pub record Packet : Type 0 where
  pub header : List ℕ
  pub frame : List ℕ

-- At the front stands this record, and the other bytes follow.
pub record IsPacket (o : Order) (bytes : List ℕ) (packet : Packet) (rest : List ℕ) : Type 0 where
  pub size : length packet.header ≡ 16
  pub says : captured_length o packet.header ≡ length packet.frame
  pub small : length packet.frame ≤ MAX_CAPTURED
  pub whole : bytes ≡ packet.header ++ packet.frame ++ rest

-- These bytes are just these records, and then such a rest: empty, cut or bad. However many there are, none is one too
-- many.
abbrev pub ArePackets : Order → List ℕ → List Packet → Result Next PcapFault → Type 0
ArePackets o bytes [] ending = IsRest o 0 bytes ending
ArePackets o bytes (packet ∷ packets) ending =
    (rest : List ℕ) × IsPacket o bytes packet rest × ArePackets o rest packets ending

-- The file has a header that says this, just these records, and then such a rest.
pub record IsLongCapture (file : List ℕ) (head : Head) (packets : List Packet) (ending : Result Next PcapFault)
    : Type 0 where
  pub header : IsHead file head
  pub body : ArePackets head.order (drop 24 file) packets ending

-- What stands at the front of what is held, where these bytes are left behind it.
abbrev pub Finds : Order → Result Found PcapFault → List ℕ → Option (List ℕ) → Type 0
Finds o (Ok (found.Record size)) held left =
    (captured_length o held ≡ size) × (size ≤ MAX_CAPTURED) × (16 + size ≤ length held)
Finds o (Ok found.End) held left = (held ≡ []) × IsAtEnd left
Finds o (Ok (found.Cut count)) held left =
    (length held ≡ count) × IsAtEnd left × (0 < count)
    × (16 ≤ count → (captured_length o held ≤ MAX_CAPTURED) × (count < 16 + captured_length o held))
Finds o (Err fault.ReadFault) held left = ⊤
Finds o (Err fault.TooLong) held left = (16 ≤ length held) × (MAX_CAPTURED < captured_length o held)
Finds o (Err other) held left = ⊥
