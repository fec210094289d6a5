-- The command `gen`: why it ends so, and what its status tells.
use Rattle.std.specs.Prelude.{◌≡◌, ◌<◌, ◌+◌, ◌⊎◌, ℕ, Some, List, Ok, length}
use Rattle.spin_outside.specs.Counts.{Rose}
use Rattle.spin_outside.specs.Seen.{SinkSeen}
use Rattle.spin_pcap.specs.declared.limits.TheConstants.{MAX_HELD}
use Rattle.spin_pcap.specs.declared.next.Next.TheVariants as next
use Rattle.spin_pcap.specs.declared.order.Order.TheVariants as order
use Rattle.spin_pcap.specs.Captures.{IsCapture}
use Rattle.spin_script.specs.States.{NativeData, ScriptData}
use Rattle.spin_script.specs.Language.{IsScript}
use Rattle.spin_gen.specs.Texts.{script_of, packets_of}
use Rattle.spin_run.specs.declared.end.RunEnd.{RunEnd}
use Rattle.spin_run.specs.Ends.{seen, CountsBy, faults_at}
use Rattle.spin_run.specs.Summaries.{SumsUpBy}
use Rattle.spin_inputs.specs.declared.end.End.{End}
use Rattle.spin_inputs.specs.declared.end.End.TheVariants.{NoMemory}
use Rattle.spin_inputs.specs.Ends as ends
use Rattle.spin_inputs.specs.Ends.{stop_line, Tells}
use Rattle.spin_inputs.specs.Held.{held_seen}
use Rattle.spin_inputs.specs.Outside.{Outside, OnlyStops}
use Rattle.spin_cli.specs.Run.{end_of}

-- ---- why

-- The script of the number was run over the records of the capture of the number, and its history summed up; that ended
-- so; and then the line of that end was written.
pub record RanMade (natives : NativeData) (before after : Outside) (number : ℕ) (ended : RunEnd)
    : Type 0 where
  pub script : ScriptData
  pub read : IsScript natives (script_of number) (Ok script)
  pub frames : List (List ℕ)
  pub capture : IsCapture (packets_of number) order.Little frames (Ok next.End)
  -- what is left of the capture in memory, behind its header and when the run ended
  pub left : List ℕ
  pub left' : List ℕ
  -- the sink when the run ended
  pub sink : SinkSeen
  pub ended_so : SumsUpBy script (24 + MAX_HELD) number frames (Some (Ok next.End))
      (seen (held_seen left) before.sink before.ends) (seen (held_seen left') sink after.ends) ended
  pub counts : CountsBy script.endpoints
      (seen (held_seen left) before.sink before.ends) (seen (held_seen left') sink after.ends) ended
  pub line : Tells sink after.sink (stop_line (end_of ended))

-- Why a summary of what is made from that number ended so, what was written, and what the endpoints received: there was
-- no memory to make it, and only the line of that was written; or the run ended so. The shelf isn't looked at.
abbrev pub GenHasCause : NativeData → Outside → Outside → ℕ → End → Type 0
GenHasCause natives before after number end =
    (after.shelf ≡ before.shelf)
    × (((end ≡ NoMemory) × OnlyStops before after NoMemory)
    ⊎ ((ended : RunEnd) × (end ≡ end_of ended) × RanMade natives before after number ended))

-- The status is the number of an end that has its cause.
abbrev pub IsGenStatus : NativeData → Outside → Outside → ℕ → ℕ → Type 0
IsGenStatus natives before after number status =
    (end : End) × (status ≡ ends.exit_status end) × GenHasCause natives before after number end

-- ---- what the status tells

-- No count of the sink or of an endpoint rose.
pub record NoneRoseBehind (before after : Outside) : Type 0 where
  pub sink : Rose before.sink.faults after.sink.faults → ⊥
  pub ends : (place : ℕ) → place < length before.ends
      → Rose (faults_at before.ends place) (faults_at after.ends place) → ⊥

-- The summary is written whole where none of these counts rose, unless memory ran out.
abbrev pub GenKnows : Outside → Outside → ℕ → Type 0
GenKnows before after status = NoneRoseBehind before after → (status ≡ 0) ⊎ (status ≡ 7)
