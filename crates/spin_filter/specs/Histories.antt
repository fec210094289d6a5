-- What captures come to, record after record.
use Rattle.std.specs.Prelude.{◌≡◌, ◌<◌, ℕ, List, [], ◌∷◌, map, length, All, Ok, Some, slice_index_or}
use Rattle.std.specs.List.{flat_map}
use Rattle.spin_outside.specs.Files.{File, content}
use Rattle.spin_table.specs.Setups.{SetupData}
use Rattle.spin_table.specs.States.{State}
use Rattle.spin_pcap.specs.declared.next.Next.{Next}
use Rattle.spin_pcap.specs.Whole.{cut_of}
use Rattle.spin_frames.specs.declared.head.Head.{Head}
use Rattle.spin_pcap.specs.declared.order.Order.{Order}
use Rattle.spin_frames.specs.Packets.{ArePackets, IsLongCapture}
use Rattle.spin_filter.specs.Counting.{Happened, nothing, joined, happened_at}
use Rattle.spin_filter.specs.Passing.{Passed, IsPassed}
use Rattle.spin_filter.specs.Rounds.{event_at}

-- what came of these records, one behind the other
abbrev pub happened_in : List Passed → Happened
happened_in [] = nothing
happened_in (passed ∷ others) = joined (happened_at passed) (happened_in others)

-- The records of a capture whose header says this were passed at the state, each as the event whose turn it is.
pub record ArePassed (d : SetupData) (s : State) (round : List ℕ) (head : Head) (passed : List Passed) : Type 0 where
  pub heads : All (λ p. p.taken.head ≡ head) passed
  pub turns : (n : ℕ) (p : Passed) → n < length passed → IsPassed d s (event_at round n) (slice_index_or passed n p)

-- The bytes are just these records, and then so many that are no whole record.
abbrev pub AreRecords : Order → List ℕ → List Passed → ℕ → Type 0
AreRecords order bytes passed cut =
    (last : Next) × ArePackets order bytes (map (λ p. p.taken.packet) passed) (Ok last) × (cut ≡ cut_of last)

-- a capture that was passed: what its header says, its records, and how many bytes behind them are no whole record
pub record PassedCapture : Type 0 where
  pub head : Head
  pub passed : List Passed
  pub cut : ℕ

-- The file is a capture of just these records.
abbrev pub IsCaptureOf : List ℕ → PassedCapture → Type 0
IsCaptureOf file seen =
    (last : Next) × IsLongCapture file seen.head (map (λ p. p.taken.packet) seen.passed) (Ok last) × (seen.cut ≡ cut_of last)

-- The file of that name is this capture.
abbrev pub IsFound : List File → List ℕ → PassedCapture → Type 0
IsFound files name seen = (file : List ℕ) × (content files name ≡ Some file) × IsCaptureOf file seen

-- The files of these names are these captures, one for each name.
abbrev pub AreFound : List File → List (List ℕ) → List PassedCapture → Type 0
AreFound files [] seen = seen ≡ []
AreFound files (name ∷ names) seen =
    (first : PassedCapture) × (others : List PassedCapture) × IsFound files name first × (seen ≡ first ∷ others)
    × AreFound files names others

-- Each capture's records were passed at the state, each record as the event whose turn it is in its capture.
abbrev pub AllPassed : SetupData → State → List ℕ → List PassedCapture → Type 0
AllPassed d s round seen = All (λ c. ArePassed d s round c.head c.passed) seen

-- the records of captures, one capture behind the other
abbrev pub records_of : List PassedCapture → List Passed
records_of seen = flat_map (λ c. c.passed) seen
