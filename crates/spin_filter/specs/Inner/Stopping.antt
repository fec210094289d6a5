-- Why one capture is passed no further.
use Rattle.std.specs.Prelude.{◌≡◌, ℕ, List, Option, IfSome, Err, ⊤}
use Rattle.spin_outside.specs.Counts.{Rose}
use Rattle.spin_outside.specs.Files.{File, IsLacking}
use Rattle.spin_outside.specs.Seen.{ShelfSeen}
use Rattle.spin_pcap.specs.declared.fault.PcapFault.{PcapFault}
use Rattle.spin_pcap.specs.Captures.{header_of}
use Rattle.spin_frames.specs.declared.head.Head.{Head}
use Rattle.spin_pcap.specs.declared.order.Order.{Order}
use Rattle.spin_filter.specs.declared.stop.Stop.{Stop}
use Rattle.spin_filter.specs.declared.stop.Stop.TheVariants as stop
use Rattle.spin_filter.specs.Counting.{Sending}
use Rattle.spin_filter.specs.Passing.{TakenSeen}
use Rattle.spin_filter.specs.Sending.{OutletsAt, StopsSending}
use Rattle.spin_filter.specs.Stops.{Causes, StopsBy, IsBadRecord, IsBadCapture, IsBadNamed, StandsAt, IsRecordOf, IsRecordNamed}

-- Reading a capture stops: a read failed, or the capture is refused at a record. Memory may be lacking.
abbrev pub StopsReading : Type 0 → (ℕ → PcapFault → Type 0) → Stop → Type 0
StopsReading unread refused stop.Unread = unread
StopsReading unread refused (stop.Capture number wrong) = refused number wrong
StopsReading unread refused stop.NoMemory = ⊤
StopsReading unread refused other = ⊥

-- why the header of a capture isn't read
abbrev pub StopsHeader : Option (List ℕ) → ℕ → ℕ → Stop → Type 0
StopsHeader file faults faults' =
    StopsReading (Rose faults faults') (λ number wrong. (number ≡ 0) × IfSome file (λ bytes. header_of bytes ≡ Err wrong))

-- the record of that number stands in these bytes, behind a header that says this
pub record StandsBehind (head : Head) (left : Option (List ℕ)) (number : ℕ) (taken : TakenSeen) : Type 0 where
  pub head_is : taken.head ≡ head
  pub body : IfSome left (λ bytes. StandsAt head.order bytes number taken.packet)

-- what stops the records that are left of a capture, beside sends
abbrev pub record_causes : Order → Option (List ℕ) → ℕ → ℕ → (Stop → Type 0) → Causes
record_causes order left faults faults' sending = record {
  unread = Rose faults faults';
  absent = ⊥;
  refused = λ number wrong. IfSome left (λ bytes. IsBadRecord order bytes number wrong);
  sending = sending;
}

-- why the records that are left are passed no further, which make sends of this kind
abbrev pub StopsRecords : List (List ℕ) → Option ℕ → (Sending → Type 0) → Order → Option (List ℕ) → ℕ → ℕ
    → OutletsAt → OutletsAt → Stop → Type 0
StopsRecords names capture Kind order left faults faults' before after =
    StopsBy (record_causes order left faults faults' (StopsSending names capture Kind before after))

-- the record of that number stands in the file
abbrev pub StandsInFile : Option (List ℕ) → ℕ → TakenSeen → Type 0
StandsInFile whole number taken = IfSome whole (λ file. IsRecordOf file number taken)

-- what stops a capture, beside sends
abbrev pub capture_causes : Option (List ℕ) → ℕ → ℕ → (Stop → Type 0) → Causes
capture_causes file faults faults' sending = record {
  unread = Rose faults faults';
  absent = ⊥;
  refused = λ number wrong. IfSome file (λ bytes. IsBadCapture bytes number wrong);
  sending = sending;
}

-- why a capture is passed no further
abbrev pub StopsCapture : List (List ℕ) → Option ℕ → (Sending → Type 0) → Option (List ℕ) → ℕ → ℕ
    → OutletsAt → OutletsAt → Stop → Type 0
StopsCapture names capture Kind file faults faults' before after =
    StopsBy (capture_causes file faults faults' (StopsSending names capture Kind before after))

-- the record of that number stands in the file of that name
abbrev pub StandsNamed : Option (List File) → List ℕ → ℕ → TakenSeen → Type 0
StandsNamed files name number taken = IsRecordNamed files number taken name

-- what stops the capture of that name, beside sends
abbrev pub named_causes : List ℕ → ShelfSeen → ShelfSeen → (Stop → Type 0) → Causes
named_causes name shelf shelf' sending = record {
  unread = Rose shelf.faults shelf'.faults;
  absent = Rose shelf.absences shelf'.absences × IsLacking shelf.files name;
  refused = λ number wrong. IsBadNamed shelf.files number wrong name;
  sending = sending;
}

-- why the capture of that name is passed no further
abbrev pub StopsNamed : List (List ℕ) → Option ℕ → (Sending → Type 0) → List ℕ → ShelfSeen → ShelfSeen
    → OutletsAt → OutletsAt → Stop → Type 0
StopsNamed names capture Kind name shelf shelf' before after =
    StopsBy (named_causes name shelf shelf' (StopsSending names capture Kind before after))

-- the shelf's counts stand still
pub record StandsStill (shelf shelf' : ShelfSeen) : Type 0 where
  pub faults : shelf'.faults ≡ shelf.faults
  pub absences : shelf'.absences ≡ shelf.absences
