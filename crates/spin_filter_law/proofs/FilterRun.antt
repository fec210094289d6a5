-- What a filter does is a run of the longer script.
use Rattle.std.proofs.Common.{◌≡◌, ℕ, ◌<◌, false, List, [], ◌∷◌, map, Option, Some, IfSome, refl, sym, subst}
use Rattle.std.specs.Prelude.{Ok}
use Rattle.std.specs.List.{flat_map}
use Rattle.spin_outside.specs.Files.{File}
use Rattle.spin_table.specs.States.{start_of}
use Rattle.spin_endpoint.specs.Named.{NamedEnd, stands}
use Rattle.spin_endpoint.specs.Sends.{name_of, all_received}
use Rattle.spin_script.specs.declared.script.Line.{Line}
use Rattle.spin_script.specs.declared.script.Segment.{Segment}
use Rattle.spin_script.specs.Soundness.{lines_in}
use Rattle.spin_script.specs.States.{NativeData, ScriptData}
use Rattle.spin_script.specs.Language.{IsScript}
use Rattle.spin_script.proofs.LaneLines.{script_orderly}
use Rattle.spin_report.specs.Histories.{HistorySeen}
use Rattle.spin_report.specs.Runs.{AreRun, IsRun, counts_of}
use Rattle.spin_filter.specs.declared.filter.Filtered.{Filtered}
use Rattle.spin_filter.specs.Filters.{IsFiltered}
use Rattle.spin_filter.specs.Histories.{records_of}
use Rattle.spin_filter.specs.Passing.{Passed}
use Rattle.spin_filter.specs.Rounds.{round_of, lane_of}
use Rattle.spin_filter.specs.Sending.{OutletsAt}
use Rattle.spin_filter_law.specs.Laws.{command_segment, record_segment, AreRecordSegments, turns_in, joined_capture, used_up, answered_in, at_commands, at_record, FilterIsRun, EachIsUnrolled}
use Rattle.spin_filter_law.proofs.CommandEntries.{of_one_lane, lane_below, HasBegun, begun}
use Rattle.spin_filter_law.proofs.SendOrder.{record_sends, ends_after}
use Rattle.spin_filter_law.proofs.RecordRuns.{point, frames_in, HasPassed, all_records, all_turns}

module _ (n : NativeData) (text : List ℕ) (script : ScriptData) (capture : Option ℕ) (files : Option (List File)) (names : List (List ℕ)) (before after : OutletsAt) (filtered : Filtered)
    (cut : ℕ) (is : IsScript n text (Ok script)) (none : IfSome capture (λ number. stands (name_of script.endpoints number) before.ends ≡ false))
    (done : IsFiltered script capture files names before after filtered) (records : List Segment)
    (turns : AreRecordSegments (lane_of (lines_in script.segments)) (turns_in (round_of (lines_in script.segments)) done.captures) records) where
  abbrev lines : List Line
  lines = lines_in script.segments

  abbrev passed : List Passed
  passed = records_of done.captures

  abbrev whole : ScriptData
  whole = record script { segments = command_segment script ∷ records }

  below : lane_of lines < script.lanes
  below =
      let orderly = script_orderly n text script is in
      lane_below script.lanes lines orderly.lanes.some orderly.lanes.each

  first : HasBegun script (start_of script.setup) done.state (frames_in passed) before.ends done.verdicts
  first =
      let orderly = script_orderly n text script is in
      begun script (start_of script.setup) done.state (frames_in passed) before.ends done.verdicts (lane_of lines) below
      (of_one_lane (lane_of lines) [] lines done.suited.suited) orderly.numbers done.commands

  others : HasPassed whole (lane_of lines) below done.state records passed before.ends
  others =
      all_records whole (lane_of lines) below done.state (turns_in (round_of lines) done.captures) records passed before.ends turns
      (all_turns script.setup done.state (round_of lines) done.captures done.passed)

  ends : after.ends ≡ all_received script.endpoints (flat_map record_sends passed) before.ends
  ends = ends_after script.endpoints capture passed before.ends after.ends before.sink.told after.sink.told none done.sent

  abbrev history : HistorySeen
  history = record { segments = first.seen ∷ others.seen; end = done.state.place; capture = Some (counts_of [] (joined_capture done.captures cut)) }

  behind : AreRun whole records (point done.state (frames_in passed) before.ends) others.seen (used_up done.state after.ends)
  behind =
      subst (λ (now : List NamedEnd). AreRun whole records (point done.state (frames_in passed) before.ends) others.seen (used_up done.state now)) (sym ends) others.run

  ran : IsRun whole (Some (joined_capture done.captures cut)) before.ends history (used_up done.state after.ends)
  ran = record {
    segments = (first.seen, others.seen, point done.state (frames_in passed) before.ends, refl, first.run, behind);
    end = refl;
    capture_is = refl;
  }

  answers : map answered_in history.segments ≡ at_commands done.verdicts ∷ map at_record passed
  answers =
      let one = first.answers in
      let rest = others.answers in
      λ i. one i ∷ rest i

pub filter_runs : FilterIsRun
filter_runs n text script long capture files names before after filtered cut is none done unrolled =
    subst
    (λ (x : ScriptData). (history : HistorySeen) × IsRun x (Some (joined_capture done.captures cut)) before.ends history (used_up done.state after.ends)
    × (map answered_in history.segments ≡ at_commands done.verdicts ∷ map at_record (records_of done.captures)))
    (sym unrolled.long_is) (
      history n text script capture files names before after filtered cut is none done unrolled.records unrolled.turns,
      ran n text script capture files names before after filtered cut is none done unrolled.records unrolled.turns,
      answers n text script capture files names before after filtered cut is none done unrolled.records unrolled.turns,
    )

-- ---- the longer script is there

segments_there : (lane : ℕ) (events : List ℕ) → AreRecordSegments lane events (map (record_segment lane 0) events)
segments_there lane [] = refl
segments_there lane (event ∷ events) = (0, map (record_segment lane 0) events, refl, segments_there lane events)

pub each_unrolled : EachIsUnrolled
each_unrolled script captures =
    let lane = lane_of (lines_in script.segments) in
    let events = turns_in (round_of (lines_in script.segments)) captures in
    let records = map (record_segment lane 0) events in
    (record script { segments = command_segment script ∷ records }, record { records = records; turns = segments_there lane events; long_is = refl })
