-- The call that does what the words ask for: what each status tells.
use Rattle.std.specs.Prelude.{◌≡◌, ◌⊎◌, ◌==◌, ℕ, Bool, true, false, List, [], ◌++◌, Option, Some, None, codes, bytes_eq, if◌then◌else◌, ⊤}
use Rattle.std.specs.List.{position}
use Rattle.std.specs.Io.KnownBytes.{Appends}
use Rattle.spin_outside.specs.Counts.{Rose}
use Rattle.spin_outside.specs.Files.{File}
use Rattle.spin_outside.specs.Seen.{ShelfSeen, SinkSeen}
use Rattle.spin_pcap.specs.declared.limits.TheConstants.{MAX_CAPTURED}
use Rattle.spin_frames.specs.Written.{file_header}
use Rattle.spin_script.specs.States.{NativeData, ScriptData}
use Rattle.spin_filter.specs.declared.filter.Filtered.{Filtered}
use Rattle.spin_filter.specs.declared.stop.Stop.{Stop}
use Rattle.spin_filter.specs.declared.stop.Stop.TheVariants as stop
use Rattle.spin_filter.specs.Filters.{IsFiltered, StopsFilter}
use Rattle.spin_filter.specs.Sending.{OutletsAt}
use Rattle.spin_inputs.specs.declared.end.End.{End}
use Rattle.spin_inputs.specs.Ends.{exit_status, stop_line, Tells}
use Rattle.spin_inputs.specs.Loading.{IsLoaded, NoScriptBy}
use Rattle.spin_inputs.specs.Shelves.{ShelfStood}
use Rattle.spinfilter.specs.declared.words.Asked.{Asked}
use Rattle.spinfilter.specs.Ends as ends
use Rattle.spinfilter.specs.Told.{counts_text}

-- the number of the endpoint whose sends are written as a capture, if a file is named and an endpoint is named `out0`
abbrev pub writer_of : Option (List ℕ) → List (List ℕ) → Option ℕ
writer_of None names = None
writer_of (Some file) names = position (λ name. bytes_eq name (codes "out0")) names

-- the header of the capture that is written, if a file is named
abbrev pub header_for : Option (List ℕ) → List ℕ
header_for None = []
header_for (Some file) = file_header MAX_CAPTURED

-- The header of the capture that is written was put, if one is.
pub record IsHeaded (file : Option (List ℕ)) (sink sink' : SinkSeen) : Type 0 where
  pub written : Appends sink.told sink'.told (header_for file)
  pub still : sink'.faults ≡ sink.faults

-- The records of the captures that are asked for were passed, behind the header of the capture that is written.
pub record IsPassed (script : ScriptData) (asked : Asked) (files : Option (List File)) (before after : OutletsAt)
    (filtered : Filtered) : Type 0 where
  pub headed : OutletsAt
  pub ends : headed.ends ≡ before.ends
  pub header : IsHeaded asked.file before.sink headed.sink
  pub passed : IsFiltered script (writer_of asked.file script.endpoints) files asked.captures.items headed after
      filtered

-- Why they aren't passed: the file can't be written, or the filter stops.
abbrev pub StopsPassing : ScriptData → Asked → ShelfSeen → ShelfSeen → OutletsAt → OutletsAt → Stop → Type 0
StopsPassing script asked shelf shelf' before after stop.WriteFault = Rose before.sink.faults after.sink.faults
StopsPassing script asked shelf shelf' before after why =
    (headed : OutletsAt) × (stopped : OutletsAt) × (headed.ends ≡ before.ends) × (after.ends ≡ stopped.ends)
    × IsHeaded asked.file before.sink headed.sink
    × StopsFilter script (writer_of asked.file script.endpoints) asked.captures.items shelf shelf' headed stopped why

-- what contracts see of the shelf, of the sink of the counts, and of the outlets at one moment
pub record Around : Type 0 where
  pub shelf : ShelfSeen
  pub out : SinkSeen
  pub outlets : OutletsAt

abbrev pub around : ShelfSeen → SinkSeen → OutletsAt → Around
around shelf out outlets = record { shelf = shelf; out = out; outlets = outlets }

-- the text that is written where all went well
abbrev pub told_by : Asked → ScriptData → Filtered → OutletsAt → List ℕ
told_by asked script filtered after =
    if asked.counts then counts_text script.endpoints filtered after.counts else []

-- The script was read, the records were passed by it, and the counts were written, if they are asked for.
pub record IsWhole (natives : NativeData) (asked : Asked) (before after : Around) (status : ℕ) : Type 0 where
  pub status_is : status ≡ 0
  pub script : ScriptData
  pub filtered : Filtered
  pub loaded : IsLoaded natives before.shelf.files asked.script script
  pub passed : IsPassed script asked before.shelf.files before.outlets after.outlets filtered
  pub told : Appends before.out.told after.out.told (told_by asked script filtered after.outlets)

-- There is no such script, nothing was done, and the line of that was written.
pub record HasNoScript (natives : NativeData) (asked : Asked) (before after : Around) (status : ℕ) : Type 0 where
  pub end : End
  pub status_is : status ≡ exit_status end
  pub why : NoScriptBy natives before.shelf after.shelf asked.script end
  pub outlets : after.outlets ≡ before.outlets
  pub line : Tells before.out after.out (stop_line end)

-- The script was read, and the records weren't all passed by it; the line of that was written.
pub record IsStopped (natives : NativeData) (asked : Asked) (before after : Around) (status : ℕ) : Type 0 where
  pub why : Stop
  pub status_is : status ≡ ends.stop_status why
  pub script : ScriptData
  pub loaded : IsLoaded natives before.shelf.files asked.script script
  pub shelf : ShelfSeen
  pub stood : ShelfStood before.shelf shelf
  pub stops : StopsPassing script asked shelf after.shelf before.outlets after.outlets why
  pub line : Tells before.out after.out (ends.stop_line why)

-- Standard output failed.
pub record LacksOutput (before after : Around) (status : ℕ) : Type 0 where
  pub status_is : status ≡ 5
  pub rose : Rose before.out.faults after.out.faults

-- Why the call has this status. Memory may be lacking at any time.
abbrev pub IsStatus : NativeData → Asked → Around → Around → ℕ → Type 0
IsStatus natives asked before after status =
    IsWhole natives asked before after status
    ⊎ HasNoScript natives asked before after status
    ⊎ IsStopped natives asked before after status
    ⊎ LacksOutput before after status
    ⊎ (status ≡ 7)
