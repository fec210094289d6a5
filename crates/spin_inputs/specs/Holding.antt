-- A capture that is held in memory: its header.
use Rattle.std.specs.Prelude.{◌≡◌, ℕ, List, Some, Ok, Err, drop, ⊤}
use Rattle.spin_pcap.specs.declared.fault.PcapFault.{PcapFault}
use Rattle.spin_pcap.specs.Captures.{header_of}
use Rattle.spin_pcap.specs.Passing.{ReaderState, IsFresh, left_for, fault_number}
use Rattle.spin_inputs.specs.declared.end.End.{End}
use Rattle.spin_inputs.specs.declared.end.End.TheVariants.{Capture, NoMemory}

-- A fresh reader stands behind the header of these bytes, of which those are left.
pub record IsBehind (bytes left : List ℕ) (reader : ReaderState) : Type 0 where
  pub fresh : IsFresh reader
  pub header : header_of bytes ≡ Ok reader.order
  pub behind : left_for reader.held (Some left) ≡ Some (drop 24 bytes)

-- The header of these bytes is refused, or memory ran out.
abbrev pub HeaderRefuses : List ℕ → End → Type 0
HeaderRefuses bytes (Capture at fault) =
    (at ≡ 0) × (wrong : PcapFault) × (fault ≡ fault_number wrong) × (header_of bytes ≡ Err wrong)
HeaderRefuses bytes NoMemory = ⊤
HeaderRefuses bytes other = ⊥
