-- Captures that are read whole: a header, whole records, and a rest that is none.
use Rattle.std.specs.Prelude.{◌≡◌, ◌⊎◌, ◌≤◌, ◌+◌, ℕ, List, [], ◌∷◌, Option, Some, None, length, drop, ⊤}
use Rattle.spin_outside.specs.Files.{File, content}
use Rattle.spin_pcap.specs.declared.order.Order.{Order}
use Rattle.spin_pcap.specs.Captures.{ordered_number_at, IsRecord, IsCut}
use Rattle.spin_report.specs.Runs.{CaptureSeen}

-- The file begins with the header of a capture of Ethernet frames, whose numbers stand in that order.
pub record HasFileHeader (way : Order) (file : List ℕ) : Type 0 where
  pub long : 24 ≤ length file
  pub magic : (ordered_number_at way 0 4 file ≡ 0xa1b2c3d4) ⊎ (ordered_number_at way 0 4 file ≡ 0xa1b23c4d)
  pub version : (ordered_number_at way 4 2 file ≡ 2) × (ordered_number_at way 6 2 file ≡ 4)
  pub link : ordered_number_at way 20 4 file ≡ 1

-- Behind so many records stand whole records with these captured bytes, and then nothing, or so many bytes of a record
-- that is cut.
abbrev pub HoldsRecords : Order → ℕ → List ℕ → List (List ℕ) → (cut : ℕ) → Type 0
HoldsRecords way given bytes [] cut = ((bytes ≡ []) × (cut ≡ 0)) ⊎ IsCut way given bytes cut
HoldsRecords way given bytes (frame ∷ frames) cut =
    (rest : List ℕ) × IsRecord way given bytes frame rest × HoldsRecords way (given + 1) rest frames cut

-- The file of that name is a capture that has this.
pub record HasCapture (held : List File) (name : List ℕ) (captured : CaptureSeen) : Type 0 where
  pub bytes : List ℕ
  pub found : content held name ≡ Some bytes
  pub order : Order
  pub header : HasFileHeader order bytes
  pub records : HoldsRecords order 0 (drop 24 bytes) captured.frames captured.cut

-- This is what the capture that is named has; where none is named there is none.
abbrev pub IsNamedCapture : List File → Option (List ℕ) → Option CaptureSeen → Type 0
IsNamedCapture held None None = ⊤
IsNamedCapture held (Some name) (Some captured) = HasCapture held name captured
IsNamedCapture held packets captured = ⊥
