-- The records of a capture that are left for its reader, and how many bytes were taken for records.
use Rattle.std.specs.Prelude.{◌≡◌, ◌+◌, ◌-◌, ◌≤◌, ℕ, List, [], length, sum_by}
use Rattle.std.specs.Prelude.{Option, Some, None, IfSome, Result, Ok, Err}
use Rattle.spin_outside.specs.Sources.{SourceSeen, taken_more}
use Rattle.spin_pcap.specs.declared.limits.TheConstants.{MAX_HELD}
use Rattle.spin_pcap.specs.declared.fault.PcapFault.{PcapFault}
use Rattle.spin_pcap.specs.declared.fault.PcapFault.TheVariants as fault
use Rattle.spin_pcap.specs.declared.next.Next.{Next}
use Rattle.spin_pcap.specs.declared.next.Next.TheVariants as next
use Rattle.spin_pcap.specs.declared.state.State.{State}
use Rattle.spin_pcap.specs.declared.state.State.TheVariants as state
use Rattle.spin_pcap.specs.Captures.{IsBody}
use Rattle.spin_pcap.specs.Passing.{ReaderState, left_for}

-- These bytes stand there for the reader, and are those that its source tells, if it tells any: whole records with
-- these captured bytes, and then such a rest.
pub record AreBytesLeft (reader : ReaderState) (left : Option (List ℕ)) (frames : List (List ℕ))
    (ending : Result Next PcapFault) : Type 0 where
  pub bytes : List ℕ
  pub told : IfSome (left_for reader.held left) (λ told. told ≡ bytes)
  pub body : IsBody reader.order reader.given bytes frames ending

-- These records are left for the reader, and then its rest is answered so. A reader that came to the end or to a
-- refusal has none left, and answers the same again.
abbrev pub AreLeftBy : State → ReaderState → Option (List ℕ) → List (List ℕ)
    → Result Next PcapFault → Type 0
AreLeftBy state.Reading reader left frames ending = AreBytesLeft reader left frames ending
AreLeftBy state.End reader left frames ending = (frames ≡ []) × (ending ≡ Ok next.End)
AreLeftBy (state.Cut count) reader left frames ending =
    (frames ≡ []) × (ending ≡ Ok (next.Cut count))
AreLeftBy (state.Spoilt first) reader left frames ending =
    (frames ≡ []) × (ending ≡ Err (fault.Spoilt first))

-- A capture has these records left, and then its rest is answered so: those in the bytes that its source tells, and in
-- some bytes where it tells none. Without a capture there are none, and no rest.
abbrev pub AreRecords : Option ReaderState → SourceSeen → List (List ℕ)
    → Option (Result Next PcapFault) → Type 0
AreRecords None source frames rest = (frames ≡ []) × (rest ≡ None)
AreRecords (Some reader) source frames rest =
    (ending : Result Next PcapFault) × (rest ≡ Some ending)
    × AreLeftBy reader.state reader source.left frames ending

-- There are records that are left, and P holds of them, and of how the rest is answered.
abbrev pub HasRecords : Option ReaderState → SourceSeen
    → (List (List ℕ) → Option (Result Next PcapFault) → Type 0) → Type 0
HasRecords capture source P =
    (frames : List (List ℕ)) × (rest : Option (Result Next PcapFault))
    × AreRecords capture source frames rest × P frames rest

-- ---- how many bytes were taken

-- how many bytes records with these captured bytes have, each with its header of 16
abbrev pub bytes_in : List (List ℕ) → ℕ
bytes_in frames = sum_by (λ frame. 16 + length frame) frames

-- how many bytes more the reader can hold, which it hasn't given yet; without a reader none are held
abbrev pub room_of : Option ReaderState → ℕ
room_of None = 0
room_of (Some reader) = MAX_HELD - length reader.held

-- Of the source no more was taken than these records have, and so many bytes past them.
pub record IsTakenPast (past : ℕ) (before after : SourceSeen) (frames : List (List ℕ)) : Type 0 where
  pub count : ℕ
  pub few : count ≤ bytes_in frames + past
  pub taken : after.taken ≡ taken_more before.taken count
