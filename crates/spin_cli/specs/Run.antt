-- The command `run`: why it ends so, and what its status tells.
use Rattle.std.specs.Prelude.{◌≡◌, ◌<◌, ◌+◌, ◌⊎◌, ℕ, Option, Some, List, length, Result}
use Rattle.spin_outside.specs.Counts.{Rose}
use Rattle.spin_outside.specs.Files.{File}
use Rattle.spin_outside.specs.Seen.{ShelfSeen, SinkSeen}
use Rattle.spin_outside.specs.Sources.{SourceSeen}
use Rattle.spin_pcap.specs.declared.fault.PcapFault.{PcapFault}
use Rattle.spin_pcap.specs.declared.next.Next.{Next}
use Rattle.spin_pcap.specs.declared.limits.TheConstants.{MAX_HELD}
use Rattle.spin_script.specs.States.{NativeData, ScriptData}
use Rattle.spin_run.specs.declared.end.RunEnd.{RunEnd}
use Rattle.spin_run.specs.declared.end.RunEnd.TheVariants as run
use Rattle.spin_run.specs.Ends.{seen, EndsBy, CountsBy, faults_at}
use Rattle.spin_inputs.specs.declared.end.End.{End}
use Rattle.spin_inputs.specs.declared.end.End.TheVariants.{Whole, Capture, Unread, WriteFault, NoMemory, Endpoint}
use Rattle.spin_inputs.specs.declared.end.Input.TheVariants.{Packets}
use Rattle.spin_inputs.specs.Captures.{IsBadCapture, IsGoodCapture, AreBytesOf, AreRecordsOf, IsTakenUnder, NoCaptureBy, KnowsNoCapture}
use Rattle.spin_inputs.specs.Ends.{exit_status, stop_line, Tells}
use Rattle.spin_inputs.specs.Loading.{IsLoaded, Loads, NoScriptBy, HoldsText, IsScriptText, KnowsRefused, KnowsNoScript}
use Rattle.spin_inputs.specs.Outside.{Outside, OnlyStops, NoReadFailed}
use Rattle.spin_inputs.specs.Shelves.{ShelfStood, ShelfFailed}

-- ---- why

-- the end of a call whose run ended so
abbrev pub end_of : RunEnd → End
end_of run.Whole = Whole
end_of (run.Capture at fault) = Capture at fault
end_of run.ReadFault = Unread Packets
end_of run.WriteFault = WriteFault
end_of run.NoMemory = NoMemory
end_of (run.Endpoint at) = Endpoint at

-- The script was read; the run over it ended so, whatever records and rest the capture has; and then the line of that
-- end was written.
pub record RanOver (natives : NativeData) (before after : Outside) (name : List ℕ)
    (Has : List (List ℕ) → Option (Result Next PcapFault) → Type 0) (from to : SourceSeen)
    (ended : RunEnd) : Type 0 where
  pub script : ScriptData
  pub loaded : IsLoaded natives before.shelf.files name script
  -- the sink when the run ended
  pub sink : SinkSeen
  pub ended_so : (frames : List (List ℕ)) (rest : Option (Result Next PcapFault)) → Has frames rest
      → EndsBy script (24 + MAX_HELD) frames rest
      (seen from before.sink before.ends) (seen to sink after.ends) ended
  pub counts : CountsBy script.endpoints
      (seen from before.sink before.ends) (seen to sink after.ends) ended
  pub line : Tells sink after.sink (stop_line (end_of ended))

-- What a run that ended so does to the shelf: only a failed read raises a count.
abbrev pub ShelfBy : ShelfSeen → ShelfSeen → RunEnd → Type 0
ShelfBy before after run.ReadFault = ShelfFailed before after
ShelfBy before after other = ShelfStood before after

-- The script was read, and the header of the capture, if one is named; the run over the script and the capture's
-- records ended so; and then the line of that end was written. Of the capture no more was read than its header, the
-- records that are wanted up to a stop in a segment, and 65,536 bytes past these. On a shelf that tells no files the
-- capture has some bytes, of which all this holds.
pub record RunCameTo (natives : NativeData) (before after : Outside) (name : List ℕ)
    (packets : Option (List ℕ)) (ended : RunEnd) : Type 0 where
  pub shelf : ShelfBy before.shelf after.shelf ended
  -- the bytes of the capture, if one is named
  pub bytes : List ℕ
  pub capture : AreBytesOf before.shelf.files packets bytes
  -- the capture's file when it was found, and when the run ended
  pub from : SourceSeen
  pub to : SourceSeen
  pub taken : IsTakenUnder packets before.shelf from × IsTakenUnder packets after.shelf to
  pub over : RanOver natives before after name (AreRecordsOf packets bytes) from to ended

-- Why nothing was run: the script wasn't read; or it was, and the capture wasn't opened.
abbrev pub NotRunBy : NativeData → ShelfSeen → ShelfSeen → List ℕ → Option (List ℕ) → End → Type 0
NotRunBy natives before after name packets end =
    NoScriptBy natives before after name end
    ⊎ (Loads natives before.files name × NoCaptureBy before after packets end)

-- Why a run of these files ended so, what was written, and what the endpoints received: nothing was run, and only the
-- line of the end was written; or the run ended so.
abbrev pub RunHasCause : NativeData → Outside → Outside → List ℕ → Option (List ℕ) → End → Type 0
RunHasCause natives before after name packets end =
    (NotRunBy natives before.shelf after.shelf name packets end × OnlyStops before after end)
    ⊎ ((ended : RunEnd) × (end ≡ end_of ended) × RunCameTo natives before after name packets ended)

-- The status of a run of these files is the number of an end that has its cause.
abbrev pub IsRunStatus : NativeData → Outside → Outside → List ℕ → Option (List ℕ) → ℕ → Type 0
IsRunStatus natives before after name packets status =
    (end : End) × (status ≡ exit_status end) × RunHasCause natives before after name packets end

-- ---- what the status tells where the shelf tells its files

-- No count rose.
pub record NoneRose (before after : Outside) : Type 0 where
  pub faults : NoReadFailed before after
  pub absences : Rose before.shelf.absences after.shelf.absences → ⊥
  pub sink : Rose before.sink.faults after.sink.faults → ⊥
  pub ends : (place : ℕ) → place < length before.ends
      → Rose (faults_at before.ends place) (faults_at after.ends place) → ⊥

-- A bad capture beside a script is refused where no count rose, unless memory ran out.
abbrev pub KnowsCapture : NativeData → Outside → Outside → List ℕ → Option (List ℕ) → ℕ → Type 0
KnowsCapture natives before after name packets status =
    (held : List File) (text capture : List ℕ) → HoldsText before.shelf held name text
    → IsScriptText natives text → packets ≡ Some capture → IsBadCapture held capture
    → NoneRose before after → (status ≡ 3) ⊎ (status ≡ 7)

-- A script is run whole where no count rose, over a good capture or none, unless memory ran out.
abbrev pub IsComplete : NativeData → Outside → Outside → List ℕ → Option (List ℕ) → ℕ → Type 0
IsComplete natives before after name packets status =
    (held : List File) (text : List ℕ) → HoldsText before.shelf held name text
    → IsScriptText natives text → IsGoodCapture held packets
    → NoneRose before after → (status ≡ 0) ⊎ (status ≡ 7)

-- Which status a run of these files always comes to.
pub record RunKnows (natives : NativeData) (before after : Outside) (name : List ℕ)
    (packets : Option (List ℕ)) (status : ℕ) : Type 0 where
  pub refused : KnowsRefused natives before after name status
  pub script_absent : KnowsNoScript before after name status
  pub capture_absent : KnowsNoCapture natives before after name packets status
  pub capture : KnowsCapture natives before after name packets status
  pub complete : IsComplete natives before after name packets status
