-- The capture file of version 2.4 (draft-ietf-opsawg-pcap): a header, whole records, and a rest
-- that is none.
use Rattle.std.specs.Prelude.{◌≡◌, ℕ, ◌+◌, ◌<◌, ◌≤◌, Bool, ◌&&◌, ◌||◌, ◌==◌, not, nat_lt}
use Rattle.std.specs.Prelude.{if◌then◌else◌, Option, Some, None, List, [], ◌∷◌, ◌++◌, length, drop}
use Rattle.std.specs.Prelude.{Result, Ok, Err}
use Rattle.byteorder.specs.Endian.{big_number, little_number}
use Rattle.spin_pcap.specs.declared.limits.TheConstants.{MAX_RECORDS, MAX_CAPTURED}
use Rattle.spin_pcap.specs.declared.fault.PcapFault.{PcapFault}
use Rattle.spin_pcap.specs.declared.fault.PcapFault.TheVariants as fault
use Rattle.spin_pcap.specs.declared.next.Next.{Next}
use Rattle.spin_pcap.specs.declared.next.Next.TheVariants as next
use Rattle.spin_pcap.specs.declared.order.Order.{Order}
use Rattle.spin_pcap.specs.declared.order.Order.TheVariants as order

-- the number in the first bytes, in that order
abbrev pub ordered_number : Order → ℕ → List ℕ → ℕ
ordered_number order.Big width bytes = big_number width bytes
ordered_number order.Little width bytes = little_number width bytes

-- the number in so many bytes from a place on, in that order
abbrev pub ordered_number_at : Order → ℕ → ℕ → List ℕ → ℕ
ordered_number_at way place width bytes = ordered_number way width (drop place bytes)

-- The header of the file

-- the number that a capture begins with: of microseconds, or of nanoseconds
abbrev pub is_magic : ℕ → Bool
is_magic n = (n == 0xa1b2c3d4) || (n == 0xa1b23c4d)

-- the order in which the magic stands there
abbrev pub order_of : List ℕ → Option Order
order_of bytes =
    if is_magic (ordered_number order.Big 4 bytes) then Some order.Big
    else if is_magic (ordered_number order.Little 4 bytes) then Some order.Little
    else None

-- the version in the header of the file is 2.4
abbrev pub is_version : Order → List ℕ → Bool
is_version way bytes = (ordered_number_at way 4 2 bytes == 2) && (ordered_number_at way 6 2 bytes == 4)

-- the first fault of the fields behind the magic, or the order of all fields
abbrev pub fields_of : Option Order → List ℕ → Result Order PcapFault
fields_of None bytes = Err fault.BadMagic
fields_of (Some way) bytes =
    if not (is_version way bytes) then Err fault.BadVersion
    else if not (ordered_number_at way 20 4 bytes == 1) then Err fault.BadLink
    else Ok way

-- the first fault of the header at the front of the file, or the order of all fields
abbrev pub header_of : List ℕ → Result Order PcapFault
header_of bytes = if nat_lt (length bytes) 24 then Err fault.Short else fields_of (order_of bytes) bytes

-- Records

-- the captured length in the header of a record
abbrev pub captured_length : Order → List ℕ → ℕ
captured_length way bytes = ordered_number_at way 8 4 bytes

-- At the front stands a whole record with these captured bytes, and the others follow. So many
-- records came before.
pub record IsRecord (way : Order) (given : ℕ) (bytes frame rest : List ℕ) : Type 0 where
  pub few : given < MAX_RECORDS
  pub header : List ℕ
  pub size : length header ≡ 16
  pub says : captured_length way header ≡ length frame
  pub small : length frame ≤ MAX_CAPTURED
  pub whole : bytes ≡ header ++ frame ++ rest

-- At the front stands the whole header of a record that may be given, whether its bytes follow or not. So many records
-- came before.
pub record HasRecordHeader (way : Order) (given : ℕ) (bytes : List ℕ) : Type 0 where
  pub few : given < MAX_RECORDS
  pub there : 16 ≤ length bytes
  pub small : captured_length way bytes ≤ MAX_CAPTURED

-- So many bytes are there, no whole record among them, and they could still become one.
pub record IsCut (way : Order) (given : ℕ) (bytes : List ℕ) (count : ℕ) : Type 0 where
  pub some : 0 < count
  pub size : length bytes ≡ count
  pub few : given < MAX_RECORDS
  pub begun : 16 ≤ count → (captured_length way bytes ≤ MAX_CAPTURED) × (count < 16 + captured_length way bytes)

-- a rest that no bytes could mend: a byte behind the last record that is allowed, or else a
-- captured length over the limit
abbrev pub IsBad : Order → ℕ → List ℕ → PcapFault → Type 0
IsBad way given bytes fault.ReadFault = ⊥
IsBad way given bytes fault.BadMagic = ⊥
IsBad way given bytes fault.BadVersion = ⊥
IsBad way given bytes fault.BadLink = ⊥
IsBad way given bytes fault.Short = ⊥
IsBad way given bytes fault.TooLong = (given < MAX_RECORDS) × (16 ≤ length bytes) × (MAX_CAPTURED < captured_length way bytes)
IsBad way given bytes fault.TooManyRecords = (MAX_RECORDS ≤ given) × (0 < length bytes)
IsBad way given bytes (fault.Spoilt first) = ⊥
IsBad way given bytes fault.NoMemory = ⊥

-- A rest behind so many records, and how it is answered: it is empty, or cut, or bad.
abbrev pub IsRest : Order → ℕ → List ℕ → Result Next PcapFault → Type 0
IsRest way given bytes (Ok next.Packet) = ⊥
IsRest way given bytes (Ok next.End) = bytes ≡ []
IsRest way given bytes (Ok (next.Cut count)) = IsCut way given bytes count
IsRest way given bytes (Err wrong) = IsBad way given bytes wrong

-- Behind so many records stand whole records with these captured bytes, and then such a rest.
abbrev pub IsBody : Order → ℕ → List ℕ → List (List ℕ) → Result Next PcapFault → Type 0
IsBody way given bytes [] ending = IsRest way given bytes ending
IsBody way given bytes (frame ∷ frames) ending =
    (rest : List ℕ) × IsRecord way given bytes frame rest × IsBody way (given + 1) rest frames ending

-- The file has a header of that order, whole records with these captured bytes, and then such a
-- rest.
pub record IsCapture (file : List ℕ) (way : Order) (frames : List (List ℕ))
    (ending : Result Next PcapFault) : Type 0 where
  pub header : header_of file ≡ Ok way
  pub body : IsBody way 0 (drop 24 file) frames ending
