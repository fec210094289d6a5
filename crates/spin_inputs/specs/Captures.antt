-- Captures on a shelf, and what opening one comes to.
use Rattle.std.specs.Prelude.{◌≡◌, ◌+◌, ◌⊎◌, ℕ, Option, Some, None, List, [], length, drop, IfSome, Result, Ok, Err, ⊤}
use Rattle.spin_outside.specs.Counts.{raised_by}
use Rattle.spin_outside.specs.Files.{File, content, IsLacking}
use Rattle.spin_outside.specs.Seen.{ShelfSeen}
use Rattle.spin_outside.specs.Sources.{SourceSeen}
use Rattle.spin_pcap.specs.declared.fault.PcapFault.{PcapFault}
use Rattle.spin_pcap.specs.declared.next.Next.{Next}
use Rattle.spin_pcap.specs.declared.order.Order.{Order}
use Rattle.spin_pcap.specs.declared.captured.Captured as whole
use Rattle.spin_pcap.specs.Captures.{header_of, IsCapture}
use Rattle.spin_pcap.specs.Passing.{ReaderState, IsFresh, left_for, fault_number}
use Rattle.spin_pcap.specs.Whole.{cut_of, IsRefused}
use Rattle.spin_report.specs.Runs.{CaptureSeen}
use Rattle.spin_script.specs.States.{NativeData}
use Rattle.spin_inputs.specs.declared.end.End.{End}
use Rattle.spin_inputs.specs.declared.end.End.TheVariants.{Capture, Unread, Absent, NoMemory}
use Rattle.spin_inputs.specs.declared.end.Input.TheVariants.{Packets}
use Rattle.spin_inputs.specs.Loading.{Loads, NoScriptBy, HoldsText, IsScriptText}
use Rattle.spin_inputs.specs.Outside.{Outside, NoReadFailed}
use Rattle.spin_inputs.specs.Shelves.{ShelfStood, ShelfFailed, ShelfLacked}

-- The file of that name is no capture: its header has the fault of that number.
pub record IsBadHeader (held : List File) (name : List ℕ) (fault : ℕ) : Type 0 where
  pub bytes : List ℕ
  pub found : content held name ≡ Some bytes
  pub wrong : PcapFault
  pub refused : header_of bytes ≡ Err wrong
  pub fault_is : fault ≡ fault_number wrong

-- A capture is named; and where the shelf tells its files, the capture's header has the fault of that number.
abbrev pub HasBadHeader : Option (List File) → Option (List ℕ) → ℕ → Type 0
HasBadHeader files None fault = ⊥
HasBadHeader files (Some name) fault = IfSome files (λ held. IsBadHeader held name fault)

-- A capture is named; and where the shelf tells its files, none of them has the capture's name.
abbrev pub IsLackingCapture : Option (List File) → Option (List ℕ) → Type 0
IsLackingCapture files None = ⊥
IsLackingCapture files (Some name) = IsLacking files name

-- A capture is named.
abbrev pub IsNamed : Option (List ℕ) → Type 0
IsNamed None = ⊥
IsNamed (Some name) = ⊤

-- The file of that name is a capture with these records, whose rest is answered so.
pub record IsCaptureFile (held : List File) (name : List ℕ) (frames : List (List ℕ))
    (ending : Result Next PcapFault) : Type 0 where
  pub bytes : List ℕ
  pub found : content held name ≡ Some bytes
  pub order : Order
  pub capture : IsCapture bytes order frames ending

-- The capture is refused by its header or by a record.
abbrev pub IsBadCapture : List File → List ℕ → Type 0
IsBadCapture held name =
    ((fault : ℕ) × IsBadHeader held name fault)
    ⊎ ((frames : List (List ℕ)) × (wrong : PcapFault) × IsCaptureFile held name frames (Err wrong))

-- No capture is named, or a good one: its rest is empty or cut.
abbrev pub IsGoodCapture : List File → Option (List ℕ) → Type 0
IsGoodCapture held None = ⊤
IsGoodCapture held (Some name) =
    (frames : List (List ℕ)) × (last : Next) × IsCaptureFile held name frames (Ok last)

-- The bytes have the header of a capture; and where the shelf tells its files, the file of that name has these bytes.
pub record IsBegun (files : Option (List File)) (name bytes : List ℕ) : Type 0 where
  pub order : Order
  pub header : header_of bytes ≡ Ok order
  pub found : IfSome files (λ held. content held name ≡ Some bytes)

-- A capture that is named has these bytes, which begin with its header.
abbrev pub AreBytesOf : Option (List File) → Option (List ℕ) → List ℕ → Type 0
AreBytesOf files None bytes = ⊤
AreBytesOf files (Some name) bytes = IsBegun files name bytes

-- The bytes are a capture with these records, and its rest is answered so.
abbrev pub AreRecordsIn : List ℕ → List (List ℕ) → Option (Result Next PcapFault) → Type 0
AreRecordsIn bytes frames rest =
    (ending : Result Next PcapFault) × (rest ≡ Some ending)
    × (order : Order) × IsCapture bytes order frames ending

-- Where a capture is named and has these bytes, these are its records; without one there are none, and no rest.
abbrev pub AreRecordsOf : Option (List ℕ) → List ℕ → List (List ℕ)
    → Option (Result Next PcapFault) → Type 0
AreRecordsOf None bytes frames rest = (frames ≡ []) × (rest ≡ None)
AreRecordsOf (Some name) bytes frames rest = AreRecordsIn bytes frames rest

-- Where the shelf tells its files, the reader read the header of the file of that name, and the bytes behind it are
-- left for it.
pub record IsBehindHeader (held : List File) (before after : ShelfSeen) (name : List ℕ) (file : ℕ)
    (reader : ReaderState) : Type 0 where
  pub bytes : List ℕ
  pub found : content held name ≡ Some bytes
  pub header : header_of bytes ≡ Ok reader.order
  pub left : left_for reader.held (after.left file) ≡ Some (drop 24 bytes)
  pub named : after.found_as file ≡ Some name
  pub under : after.reads name ≡ raised_by (before.reads name) (24 + length reader.held)

-- What was taken of this source is what was read under the name of the capture, where one is named and the shelf tells
-- its files.
abbrev pub IsTakenUnder : Option (List ℕ) → ShelfSeen → SourceSeen → Type 0
IsTakenUnder None shelf source = ⊤
IsTakenUnder (Some name) shelf source =
    IfSome shelf.files (λ _. source.taken ≡ Some (shelf.reads name))

-- A fresh reader stands behind the header of the file of that name.
pub record IsOpened (before after : ShelfSeen) (name : List ℕ) (file : ℕ) (reader : ReaderState)
    : Type 0 where
  pub stood : ShelfStood before after
  pub fresh : IsFresh reader
  pub behind : IfSome before.files (λ held. IsBehindHeader held before after name file reader)

-- Why there is no open capture.
abbrev pub NoCaptureBy : ShelfSeen → ShelfSeen → Option (List ℕ) → End → Type 0
NoCaptureBy before after packets (Capture at fault) =
    ShelfStood before after × (at ≡ 0) × HasBadHeader before.files packets fault
NoCaptureBy before after packets (Unread Packets) = ShelfFailed before after × IsNamed packets
NoCaptureBy before after packets (Absent Packets) =
    ShelfLacked before after × IsLackingCapture before.files packets
NoCaptureBy before after packets NoMemory = ShelfStood before after
NoCaptureBy before after packets other = ⊥

-- The capture was opened, if one is named: its file, and what reads it.
abbrev pub AreOpened : ShelfSeen → ShelfSeen → Option (List ℕ) → ℕ → Option ReaderState → Type 0
AreOpened before after None file None = ShelfStood before after
AreOpened before after None file (Some reader) = ⊥
AreOpened before after (Some name) file None = ⊥
AreOpened before after (Some name) file (Some reader) = IsOpened before after name file reader

-- ---- captures that are read whole

-- The file of that name is no good capture: it is refused at the record of that number, counted from 1, or at record 0,
-- its header, by the fault of that number.
pub record IsBadAt (held : List File) (name : List ℕ) (at fault : ℕ) : Type 0 where
  pub bytes : List ℕ
  pub found : content held name ≡ Some bytes
  pub refused : IsRefused bytes at fault

-- Where a capture is named, on a shelf that tells its files, it is refused there.
abbrev pub HasBadRecord : Option (List File) → Option (List ℕ) → ℕ → ℕ → Type 0
HasBadRecord files None at fault = ⊥
HasBadRecord files (Some name) at fault = IfSome files (λ held. IsBadAt held name at fault)

-- what contracts see of a capture that was read whole
abbrev pub capture_of : whole.Captured → CaptureSeen
capture_of capture = record { frames = capture.frames; cut = capture.cut }

-- The file of that name is a good capture with these records and that rest.
abbrev pub IsWholeCapture : List File → List ℕ → CaptureSeen → Type 0
IsWholeCapture held name capture =
    (last : Next) × IsCaptureFile held name capture.frames (Ok last) × (capture.cut ≡ cut_of last)

-- This is what the capture that is named has, where the shelf tells its files; where none is named there is none.
abbrev pub IsCaptured : Option (List File) → Option (List ℕ) → Option CaptureSeen → Type 0
IsCaptured files None None = ⊤
IsCaptured files (Some name) (Some capture) = IfSome files (λ held. IsWholeCapture held name capture)
IsCaptured files packets other = ⊥

-- Why the capture that is named wasn't read whole.
abbrev pub NoWholeBy : ShelfSeen → ShelfSeen → Option (List ℕ) → End → Type 0
NoWholeBy before after packets (Capture at fault) =
    ShelfStood before after × HasBadRecord before.files packets at fault
NoWholeBy before after packets (Unread Packets) = ShelfFailed before after × IsNamed packets
NoWholeBy before after packets (Absent Packets) =
    ShelfLacked before after × IsLackingCapture before.files packets
NoWholeBy before after packets NoMemory = ShelfStood before after
NoWholeBy before after packets other = ⊥

-- ---- a script and a capture that are read whole

-- Why script and capture weren't both read: the script wasn't; or it was, and the capture wasn't read whole.
abbrev pub NotBothBy : NativeData → ShelfSeen → ShelfSeen → List ℕ → Option (List ℕ) → End → Type 0
NotBothBy natives before after name packets end =
    NoScriptBy natives before after name end
    ⊎ (Loads natives before.files name × NoWholeBy before after packets end)

-- A capture that isn't there beside a script is told to be absent, unless a read failed or memory ran out.
abbrev pub KnowsNoCapture : NativeData → Outside → Outside → List ℕ → Option (List ℕ) → ℕ → Type 0
KnowsNoCapture natives before after name packets status =
    (held : List File) (text capture : List ℕ) → HoldsText before.shelf held name text
    → IsScriptText natives text → packets ≡ Some capture → content held capture ≡ None
    → NoReadFailed before after → (status ≡ 6) ⊎ (status ≡ 7)

-- A bad capture beside a script is refused, unless a read failed or memory ran out.
abbrev pub KnowsBadCapture : NativeData → Outside → Outside → List ℕ → List ℕ → ℕ → Type 0
KnowsBadCapture natives before after name packets status =
    (held : List File) (text : List ℕ) → HoldsText before.shelf held name text
    → IsScriptText natives text → IsBadCapture held packets
    → NoReadFailed before after → (status ≡ 3) ⊎ (status ≡ 7)
