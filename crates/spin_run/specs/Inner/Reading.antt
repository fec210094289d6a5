-- What reading on in a capture gives, of the records that are left.
use Rattle.std.specs.Prelude.{◌≡◌, ◌<◌, ◌≤◌, ◌+◌, ℕ, List, [], ◌∷◌, length, take, drop}
use Rattle.std.specs.Prelude.{Option, Some, None, Result, Ok, Err, ⊤, MatchResult}
use Rattle.spin_outside.specs.Counts.{Rose}
use Rattle.spin_outside.specs.Sources.{SourceSeen, taken_more}
use Rattle.spin_pcap.specs.declared.fault.BadRecord.{BadRecord}
use Rattle.spin_pcap.specs.declared.fault.BadRecord.TheVariants as bad
use Rattle.spin_pcap.specs.declared.fault.PcapFault.{PcapFault}
use Rattle.spin_pcap.specs.declared.limits.TheConstants.{MAX_RECORDS}
use Rattle.spin_pcap.specs.declared.next.Next.{Next}
use Rattle.spin_pcap.specs.declared.next.Next.TheVariants as next
use Rattle.spin_pcap.specs.declared.state.State.{State}
use Rattle.spin_pcap.specs.declared.state.State.TheVariants as state
use Rattle.spin_pcap.specs.Passing.{ReaderState, fault_number}
use Rattle.spin_pcap.specs.Whole.{bad_at}
use Rattle.spin_run.specs.declared.end.RunEnd.{RunEnd}
use Rattle.spin_run.specs.declared.end.RunEnd.TheVariants as end
use Rattle.spin_run.specs.Records.{AreRecords, HasRecords, bytes_in, room_of, IsTakenPast}

-- how many records the reader gave
abbrev pub given_by : Option ReaderState → ℕ
given_by None = 0
given_by (Some reader) = reader.given

-- P speaks of records that are left before a call, of those left afterwards, and of how the rest is answered. Of a call
-- that stopped it holds of some that were left, and none afterwards. Of one that is done, and of whatever is left then,
-- it holds of some that were left before.
abbrev pub Reads : {T : Type 0} → Option ReaderState → SourceSeen → Option ReaderState → SourceSeen
    → Result T RunEnd → (List (List ℕ) → List (List ℕ) → Option (Result Next PcapFault) → Type 0)
    → Type 0
Reads before source after source' (Ok done) P =
    (left : List (List ℕ)) (rest : Option (Result Next PcapFault))
    → AreRecords after source' left rest
    → (frames : List (List ℕ)) × AreRecords before source frames rest × P frames left rest
Reads before source after source' (Err stop) P =
    HasRecords before source (λ frames rest. P frames [] rest)

-- A reader that stands so came to no end.
abbrev pub GoesOn : State → Type 0
GoesOn state.Reading = ⊤
GoesOn state.End = ⊥
GoesOn (state.Cut count) = ⊥
GoesOn (state.Spoilt first) = ⊤

abbrev pub IsGoing : Option ReaderState → Type 0
IsGoing None = ⊥
IsGoing (Some reader) = GoesOn reader.state

-- the rest of a capture that ends behind a whole record; without a capture there is none
abbrev pub whole_rest : Option ReaderState → Option (Result Next PcapFault)
whole_rest None = None
whole_rest (Some reader) = Some (Ok next.End)

-- One record more was given, and there was room for it.
abbrev pub CountsOn : Option ReaderState → Option ReaderState → Type 0
CountsOn before after =
    (given_by before < MAX_RECORDS) × (given_by after ≡ given_by before + 1)

-- how a run ends whose capture isn't read on
abbrev pub ended_by : BadRecord → RunEnd
ended_by (bad.Capture record_number reason) = end.Capture record_number reason
ended_by bad.ReadFault = end.ReadFault
ended_by bad.NoMemory = end.NoMemory

-- why reading stops at a fault of the record of that number
abbrev pub stop_of : ℕ → PcapFault → RunEnd
stop_of record_number wrong = ended_by (bad_at record_number wrong)

-- The capture is refused: at its record of that number, with the number of its fault.
abbrev pub IsCaptureRefused : Option ReaderState → List (List ℕ) → Option (Result Next PcapFault)
    → ℕ → ℕ → Type 0
IsCaptureRefused before frames rest record_number reason =
    (wrong : PcapFault) × (rest ≡ Some (Err wrong)) × (reason ≡ fault_number wrong)
    × (record_number ≡ given_by before + length frames + 1)
    × IsGoing before

-- Reading stopped: the capture is refused so, or the source failed where that fact holds, or there was no memory.
abbrev pub StopsBy : (ℕ → ℕ → Type 0) → Type 0 → RunEnd → Type 0
StopsBy refused failed (end.Capture record_number reason) = refused record_number reason
StopsBy refused failed end.ReadFault = failed
StopsBy refused failed end.NoMemory = ⊤
StopsBy refused failed other = ⊥

-- No record was left and none is, and the rest is this one. Nothing more is given.
pub record IsOver (before after : Option ReaderState) (frames left : List (List ℕ))
    (rest known : Option (Result Next PcapFault)) : Type 0 where
  pub none : frames ≡ []
  pub behind : left ≡ []
  pub rest_is : rest ≡ known
  pub given : given_by after ≡ given_by before
  pub over : IsGoing after → ⊥

-- Where a record was left, no more was taken than it has, and so many bytes past it.
abbrev pub TakesFirst : ℕ → SourceSeen → SourceSeen → List (List ℕ) → Type 0
TakesFirst past source source' [] = ⊤
TakesFirst past source source' (first ∷ others) = IsTakenPast past source source' (first ∷ [])

-- one record; where it isn't given although it is there, no more is taken than it has, and what the reader has room for
abbrev pub GivesNext : Option ReaderState → SourceSeen → Option ReaderState → SourceSeen → List ℕ
    → Result Next RunEnd → List (List ℕ) → List (List ℕ) → Option (Result Next PcapFault) → Type 0
GivesNext before source after source' frame (Ok next.Packet) frames left rest =
    (frames ≡ frame ∷ left) × (given_by after ≡ given_by before + 1)
GivesNext before source after source' frame (Ok next.End) frames left rest =
    IsOver before after frames left rest (whole_rest before)
GivesNext before source after source' frame (Ok (next.Cut count)) frames left rest =
    IsOver before after frames left rest (Some (Ok (next.Cut count)))
GivesNext before source after source' frame (Err stop) frames left rest =
    StopsBy (λ record_number reason. (frames ≡ [])
    × IsCaptureRefused before frames rest record_number reason) (IsGoing before) stop
    × TakesFirst (room_of before) source source' frames

-- so many records wanted: these are the first of those left, and the others are left
abbrev pub GivesFrames : ℕ → Option ReaderState → Option ReaderState
    → Result (List (List ℕ)) RunEnd → List (List ℕ) → List (List ℕ)
    → Option (Result Next PcapFault) → Type 0
GivesFrames wanted before after (Ok taken) frames left rest =
    (taken ≡ take wanted frames) × (left ≡ drop wanted frames)
    × (given_by after ≡ given_by before + length taken)
    × (IsGoing after → IsGoing before × (length taken ≡ wanted))
GivesFrames wanted before after (Err stop) frames left rest =
    StopsBy (λ record_number reason. (length frames < wanted)
    × IsCaptureRefused before frames rest record_number reason) (IsGoing before × (0 < wanted)) stop

-- how many bytes behind the last record the rest has
abbrev pub IsCutRest : Option (Result Next PcapFault) → ℕ → Type 0
IsCutRest (Some (Ok next.End)) cut = cut ≡ 0
IsCutRest (Some (Ok (next.Cut count))) cut = cut ≡ count
IsCutRest (Some (Ok next.Packet)) cut = ⊥
IsCutRest (Some (Err wrong)) cut = ⊥
IsCutRest None cut = cut ≡ 0

-- all records that are left
abbrev pub GivesRest : Option ReaderState → Option ReaderState → Result ℕ RunEnd
    → List (List ℕ) → Option (Result Next PcapFault) → Type 0
GivesRest before after (Ok cut) frames rest =
    IsCutRest rest cut × (given_by after ≡ given_by before + length frames)
GivesRest before after (Err stop) frames rest =
    StopsBy (IsCaptureRefused before frames rest) (IsGoing before) stop

-- ---- how many bytes were taken

-- As many bytes were taken of the source as these records have, and as many more as the reader has less room.
pub record HasTaken (before after : Option ReaderState) (source source' : SourceSeen)
    (frames : List (List ℕ)) : Type 0 where
  pub count : ℕ
  pub taken : source'.taken ≡ taken_more source.taken count
  pub balance : count + room_of after ≡ bytes_in frames + room_of before

-- for so many records, where so many are there
abbrev pub TakesFrames : {T : Type 0} → ℕ → Option ReaderState → Option ReaderState → SourceSeen
    → SourceSeen → Result T RunEnd → List (List ℕ) → Type 0
TakesFrames wanted before after source source' result frames =
    wanted ≤ length frames → MatchResult result
    (λ _. HasTaken before after source source' (take wanted frames))
    (λ _. IsTakenPast (room_of before) source source' (take wanted frames))

-- ---- counts

-- Only a failed read raises the source's count of faults. No failed write stops reading, and no failed delivery.
abbrev pub EndByCount : RunEnd → ℕ → ℕ → Type 0
EndByCount end.ReadFault before now = Rose before now
EndByCount end.WriteFault before now = ⊥
EndByCount (end.Endpoint endpoint) before now = ⊥
EndByCount other before now = now ≡ before

abbrev pub ReadsByCount : {T : Type 0} → ℕ → ℕ → Result T RunEnd → Type 0
ReadsByCount before now result =
    MatchResult result (λ _. now ≡ before) (λ stop. EndByCount stop before now)
