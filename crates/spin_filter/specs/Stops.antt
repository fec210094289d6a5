-- Why records are passed no further.
use Rattle.std.specs.Prelude.{◌≡◌, ◌<◌, ◌⊎◌, ◌+◌, ◌-◌, ◌^◌, ℕ, zero, suc, List, Option, Some, IfSome, Err, Any, Contains, drop, length}
use Rattle.std.specs.List.{HoldsAt}
use Rattle.spin_outside.specs.Counts.{Rose}
use Rattle.spin_outside.specs.Files.{File, content, IsLacking}
use Rattle.spin_outside.specs.Seen.{ShelfSeen}
use Rattle.spin_table.specs.Setups.{SetupData}
use Rattle.spin_table.specs.States.{State, start_of}
use Rattle.spin_table.specs.declared.refusal.Verdicted.{Verdicted}
use Rattle.spin_script.specs.Soundness.{lines_in}
use Rattle.spin_script.specs.States.{ScriptData}
use Rattle.spin_proto.specs.declared.deed.JobCall.{JobCall}
use Rattle.spin_proto.specs.declared.reply.Reply.{Reply}
use Rattle.spin_proto.specs.declared.reply.Step.{Step}
use Rattle.spin_proto.specs.declared.reply.Step.TheVariants as step
use Rattle.spin_proto.specs.Parts.{trace_in}
use Rattle.spin_proto.specs.Replies.{IsDeedReply, IsJobReply, calls_left}
use Rattle.spin_pcap.specs.declared.fault.PcapFault.{PcapFault}
use Rattle.spin_pcap.specs.declared.fault.PcapFault.TheVariants as fault
use Rattle.spin_pcap.specs.Captures.{header_of}
use Rattle.spin_frames.specs.declared.head.Head.{Head}
use Rattle.spin_pcap.specs.declared.order.Order.{Order}
use Rattle.spin_frames.specs.Heads.{IsHead}
use Rattle.spin_frames.specs.Packets.{Packet, IsPacket, ArePackets}
use Rattle.spin_filter.specs.declared.stop.Stop.{Stop}
use Rattle.spin_filter.specs.declared.stop.Stop.TheVariants as stop
use Rattle.spin_filter.specs.Commands.{commands_of, AreGiven}
use Rattle.spin_filter.specs.Counting.{Sending}
use Rattle.spin_filter.specs.Passing.{TakenSeen, raise_with}
use Rattle.spin_filter.specs.Rounds.{event_at, round_of}
use Rattle.spin_filter.specs.Sending.{OutletsAt, StopsSending}

-- what a fault of the record of that number is
abbrev pub stop_at : ℕ → PcapFault → Stop
stop_at number fault.ReadFault = stop.Unread
stop_at number fault.NoMemory = stop.NoMemory
stop_at number other = stop.Capture number other

-- ---- captures

-- Behind whole records, one fewer than the number says, stands one that is bad. No count goes over 2^64 - 1.
abbrev pub IsBadRecord : Order → List ℕ → ℕ → PcapFault → Type 0
IsBadRecord order bytes number fault.TooManyRecords = number ≡ 2 ^ 64 - 1
IsBadRecord order bytes number wrong =
    (packets : List Packet) × ArePackets order bytes packets (Err wrong) × (number ≡ length packets + 1)

-- The file is refused as a capture at the record of that number, of which 0 is the header.
abbrev pub IsBadCapture : List ℕ → ℕ → PcapFault → Type 0
IsBadCapture file number wrong =
    ((number ≡ 0) × (header_of file ≡ Err wrong))
    ⊎ ((head : Head) × IsHead file head × IsBadRecord head.order (drop 24 file) number wrong)

-- The file of that name is refused so, where the files are these.
abbrev pub IsBadNamed : Option (List File) → ℕ → PcapFault → List ℕ → Type 0
IsBadNamed files number wrong name =
    IfSome files (λ fs. (file : List ℕ) × (content fs name ≡ Some file) × IsBadCapture file number wrong)

-- ---- a send at a record

-- Behind so many whole records stands this one.
abbrev pub StandsAt : Order → List ℕ → ℕ → Packet → Type 0
StandsAt order bytes zero packet = (rest : List ℕ) × IsPacket order bytes packet rest
StandsAt order bytes (suc number) packet =
    (first : Packet) × (rest : List ℕ) × IsPacket order bytes first rest × StandsAt order rest number packet

-- The file is a capture whose header says what the record's does, and in which it stands behind so many others.
pub record IsRecordOf (file : List ℕ) (number : ℕ) (taken : TakenSeen) : Type 0 where
  pub header : IsHead file taken.head
  pub body : StandsAt taken.head.order (drop 24 file) number taken.packet

-- It is the record of that number, counted from 0, of the file of that name, where the files are these.
abbrev pub IsRecordNamed : Option (List File) → ℕ → TakenSeen → List ℕ → Type 0
IsRecordNamed files number taken name =
    IfSome files (λ fs. (file : List ℕ) × (content fs name ≡ Some file) × IsRecordOf file number taken)

-- One of these steps makes the send.
abbrev pub IsSentIn : List Step → Sending → Type 0
IsSentIn steps send = Contains steps (step.Send send.sent.endpoint send.sent.bytes)

-- The job of that call makes the send.
abbrev pub IsSentByJob : SetupData → State → Sending → JobCall → Type 0
IsSentByJob d s send call = (reply : Reply) × IsJobReply d s call reply × IsSentIn (trace_in reply) send

-- The raise of its record as this event at the state makes the send, or one of the jobs that this leaves.
pub record IsSentAt (d : SetupData) (s : State) (event : ℕ) (send : Sending) : Type 0 where
  pub reply : Reply
  pub raised : IsDeedReply d s (raise_with event send.taken.packet.frame) reply
  pub sent : IsSentIn (trace_in reply) send ⊎ Any (IsSentByJob d s send) (calls_left reply)

-- The send is made at a record that stands so, under its number, as the event whose turn it is.
pub record IsSentFrom (d : SetupData) (s : State) (round : List ℕ) (Stands : ℕ → TakenSeen → Type 0) (send : Sending)
    : Type 0 where
  pub number : ℕ
  pub stands : Stands number send.taken
  pub sent : IsSentAt d s (event_at round number) send

-- The record of that number stands in one of the captures of these names.
abbrev pub StandsIn : Option (List File) → List (List ℕ) → ℕ → TakenSeen → Type 0
StandsIn files captures number taken = Any (IsRecordNamed files number taken) captures

-- The send is made at a record of one of the captures, at the state that the commands of the script leave.
pub record IsSentBy (script : ScriptData) (files : Option (List File)) (captures : List (List ℕ)) (send : Sending)
    : Type 0 where
  pub verdicts : List Verdicted
  pub state : State
  pub commands : AreGiven script.setup (start_of script.setup) (commands_of (lines_in script.segments)) verdicts state
  pub sent : IsSentFrom script.setup state (round_of (lines_in script.segments)) (StandsIn files captures) send

-- ---- all captures

-- why a pass may stop: a read failed, there is no such capture, one is refused at a record, or a send isn't made
pub record Causes : Type 1 where
  pub unread : Type 0
  pub absent : Type 0
  pub refused : ℕ → PcapFault → Type 0
  pub sending : Stop → Type 0

-- It stops for one of these.
abbrev pub StopsBy : Causes → Stop → Type 0
StopsBy causes stop.Unread = causes.unread
StopsBy causes stop.Absent = causes.absent
StopsBy causes (stop.Capture number wrong) = causes.refused number wrong
StopsBy causes other = causes.sending other

-- what stops a pass over captures of these names on a shelf, beside sends
abbrev pub pass_causes : List (List ℕ) → ShelfSeen → ShelfSeen → (Stop → Type 0) → Causes
pass_causes captures shelf shelf' sending = record {
  unread = Rose shelf.faults shelf'.faults;
  absent =
      Rose shelf.absences shelf'.absences
      × ((place : ℕ) × (place < length captures) × HoldsAt (IsLacking shelf.files) captures place);
  refused = λ number wrong.
      (place : ℕ) × (place < length captures) × HoldsAt (IsBadNamed shelf.files number wrong) captures place;
  sending = sending;
}

-- Why a pass over captures of these names on a shelf stops, which makes sends of this kind by these names of endpoints.
abbrev pub StopsPass : List (List ℕ) → Option ℕ → (Sending → Type 0) → List (List ℕ) → ShelfSeen → ShelfSeen
    → OutletsAt → OutletsAt → Stop → Type 0
StopsPass names capture Kind captures shelf shelf' before after =
    StopsBy (pass_causes captures shelf shelf' (StopsSending names capture Kind before after))
