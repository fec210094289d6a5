-- The header of a capture file.
use Rattle.std.specs.Prelude.{◌≡◌, ◌==◌, ℕ, List, Result, Ok, Err}
use Rattle.spin_pcap.specs.declared.fault.PcapFault.{PcapFault}
use Rattle.spin_pcap.specs.Captures.{header_of, ordered_number_at}
use Rattle.spin_frames.specs.declared.head.Head.{Head}

-- The file has a header that says this.
pub record IsHead (file : List ℕ) (head : Head) : Type 0 where
  pub order : header_of file ≡ Ok head.order
  pub nano : head.is_nano ≡ (ordered_number_at head.order 0 4 file == 0xa1b23c4d)
  pub snap : head.snap ≡ ordered_number_at head.order 16 4 file

-- What the header says; or its first fault.
abbrev pub HeadBy : List ℕ → Result Head PcapFault → Type 0
HeadBy file (Ok head) = IsHead file head
HeadBy file (Err wrong) = header_of file ≡ Err wrong
