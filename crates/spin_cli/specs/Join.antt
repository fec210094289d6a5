-- The command `join`: why it ends so, and what its status tells.
use Rattle.std.specs.Prelude.{◌≡◌, ◌⊎◌, ℕ, Some, List, Ok, IfSome}
use Rattle.spin_outside.specs.Files.{File}
use Rattle.spin_outside.specs.Seen.{ShelfSeen}
use Rattle.spin_pcap.specs.declared.next.Next.{Next}
use Rattle.spin_reass.specs.JoinedCaptures.{joined_capture, IsJoinedCapture}
use Rattle.spin_script.specs.States.{NativeData}
use Rattle.spin_run.specs.declared.end.RunEnd.{RunEnd}
use Rattle.spin_inputs.specs.declared.end.End.{End}
use Rattle.spin_inputs.specs.Captures.{AreRecordsIn, IsCaptureFile, NotBothBy, KnowsNoCapture, KnowsBadCapture}
use Rattle.spin_inputs.specs.Ends.{exit_status}
use Rattle.spin_inputs.specs.Held.{held_seen}
use Rattle.spin_inputs.specs.Loading.{KnowsRefused, KnowsNoScript}
use Rattle.spin_inputs.specs.Outside.{Outside, OnlyStops}
use Rattle.spin_inputs.specs.Shelves.{ShelfStood}
use Rattle.spin_cli.specs.Run.{end_of, RanOver, IsComplete}

-- ---- the joined capture

-- The bytes are the joined capture of the file of that name.
pub record IsJoinedFile (held : List File) (name bytes : List ℕ) : Type 0 where
  pub frames : List (List ℕ)
  pub last : Next
  pub file : IsCaptureFile held name frames (Ok last)
  pub bytes_are : bytes ≡ joined_capture frames last

-- The whole file of that name was read, and where the shelf tells its files these bytes are its joined capture.
abbrev pub IsJoinedBy : ShelfSeen → ShelfSeen → List ℕ → List ℕ → Type 0
IsJoinedBy before after name bytes =
    ShelfStood before after × IfSome before.files (λ held. IsJoinedFile held name bytes)

-- ---- why

-- The script was read, and the whole capture, which is good; the run over the script and the records of the joined
-- capture ended so; and then the line of that end was written.
pub record RanJoined (natives : NativeData) (before after : Outside) (name packets : List ℕ)
    (ended : RunEnd) : Type 0 where
  pub stood : ShelfStood before.shelf after.shelf
  -- the joined capture
  pub bytes : List ℕ
  pub joined : IfSome before.shelf.files (λ held. IsJoinedFile held packets bytes)
  pub good : IsJoinedCapture bytes
  -- what is left of it in memory, behind its header and when the run ended
  pub left : List ℕ
  pub left' : List ℕ
  pub over : RanOver natives before after name (AreRecordsIn bytes) (held_seen left) (held_seen left') ended

-- Why a run of this script over the joined capture ended so, what was written, and what the endpoints received: script
-- and capture weren't both read, and only the line of the end was written; or the run ended so. That a capture is bad
-- is known of a shelf that tells its files.
abbrev pub JoinHasCause : NativeData → Outside → Outside → List ℕ → List ℕ → End → Type 0
JoinHasCause natives before after name packets end =
    (NotBothBy natives before.shelf after.shelf name (Some packets) end × OnlyStops before after end)
    ⊎ ((ended : RunEnd) × (end ≡ end_of ended) × RanJoined natives before after name packets ended)

-- The status is the number of an end that has its cause.
abbrev pub IsJoinStatus : NativeData → Outside → Outside → List ℕ → List ℕ → ℕ → Type 0
IsJoinStatus natives before after name packets status =
    (end : End) × (status ≡ exit_status end) × JoinHasCause natives before after name packets end

-- ---- what the status tells where the shelf tells its files

-- Which status this command always comes to.
pub record JoinKnows (natives : NativeData) (before after : Outside) (name packets : List ℕ)
    (status : ℕ) : Type 0 where
  pub refused : KnowsRefused natives before after name status
  pub script_absent : KnowsNoScript before after name status
  pub capture_absent : KnowsNoCapture natives before after name (Some packets) status
  pub capture : KnowsBadCapture natives before after name packets status
  pub complete : IsComplete natives before after name (Some packets) status
