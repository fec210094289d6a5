-- What reading the records of a capture, and joining them, gives.
use Rattle.std.specs.Prelude.{◌≡◌, ◌≢◌, ℕ, ◌+◌, ◌≤◌, List, [], ◌∷◌, ◌++◌, length, Result, Ok, Err, ⊤}
use Rattle.std.specs.List.{flat_map}
use Rattle.spin_pcap.specs.declared.fault.BadRecord.{BadRecord}
use Rattle.spin_pcap.specs.declared.fault.BadRecord.TheVariants as stop
use Rattle.spin_pcap.specs.declared.fault.PcapFault.{PcapFault}
use Rattle.spin_pcap.specs.declared.limits.TheConstants.{MAX_CAPTURED, MAX_RECORDS}
use Rattle.spin_pcap.specs.declared.next.Next.{Next}
use Rattle.spin_pcap.specs.declared.next.Next.TheVariants as next
use Rattle.spin_pcap.specs.declared.order.Order.{Order}
use Rattle.spin_pcap.specs.declared.state.State.TheVariants as state
use Rattle.spin_pcap.specs.Captures.{IsBody}
use Rattle.spin_pcap.specs.Passing.{ReaderState, fault_number, IsCutShort}
use Rattle.spin_reass.specs.JoinedCaptures.{record_of}
use Rattle.spin_reass.specs.Joining.{joined_frames}

-- a reader that gave no record yet
abbrev pub IsFreshReader : ReaderState → Type 0
IsFreshReader reader = (reader.given ≡ 0) × (reader.state ≡ state.Reading)

-- Each of them has no more bytes than a record may have.
abbrev pub EachIsFew : List (List ℕ) → Type 0
EachIsFew [] = ⊤
EachIsFew (frame ∷ frames) = (length frame ≤ MAX_CAPTURED) × EachIsFew frames

-- So many records may come with this rest behind them, where the captured bytes of each are few.
abbrev pub AreRecords : List (List ℕ) → Next → Type 0
AreRecords frames ending =
    EachIsFew frames × (length frames ≤ MAX_RECORDS) × IsCutShort (length frames) (Ok ending)
    × (ending ≢ next.Packet)

-- Joining some records gave this, behind the bytes before.
abbrev pub JoinsSome : List ℕ → List ℕ → Result Next BadRecord → Type 0
JoinsSome before after (Ok ending) =
    (frames : List (List ℕ)) × AreRecords frames ending
    × (after ≡ before ++ flat_map record_of (joined_frames [] frames))
JoinsSome before after (Err fault) = ⊤

-- What joining the records that begin these bytes gives, behind the bytes before.
abbrev pub JoinsBody : Order → List ℕ → List ℕ → List ℕ → Result Next BadRecord → Type 0
JoinsBody way bytes before after (Ok ending) =
    (frames : List (List ℕ)) × IsBody way 0 bytes frames (Ok ending)
    × (after ≡ before ++ flat_map record_of (joined_frames [] frames))
JoinsBody way bytes before after (Err (stop.Capture at reason)) =
    (frames : List (List ℕ)) × (wrong : PcapFault) × IsBody way 0 bytes frames (Err wrong)
    × (at ≡ length frames + 1) × (reason ≡ fault_number wrong)
JoinsBody way bytes before after (Err stop.ReadFault) = ⊤
JoinsBody way bytes before after (Err stop.NoMemory) = ⊤
