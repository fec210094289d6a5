use Rattle.std.proofs.Common.{◌≡◌, ◌≤◌, ℕ, Option, length, map, take}
use Rattle.spin_endpoint.specs.Inner.View.{view_of}
use Rattle.spin_pcap.specs.Passing.{ReaderState}
use Rattle.spin_table.specs.SetupOf.{data_of}
use Rattle.spin_script.specs.Soundness.{command_lines}
use Rattle.spin_run.specs.Ends.{RunSeen, faults_of}
use Rattle.spin_run.specs.Summaries.{Counts}
use Rattle.spin_run.specs.Segments.{AreReady, place_of, state_of}
use Rattle.spin_run.specs.Inner.Outside.{moment_by, HoldsSame}
use Rattle.spin_run.specs.Inner.Steps.{setting, script_in, HasToldAll}
use Rattle.spin_run.proofs.SegmentRuns.{KeepsRecords}
use Rattle.spin_run.proofs.script.run_each.Given as goal

-- the segments so far were run
abbrev pub invariant-loop-number : goal.invariant-loop-number
invariant-loop-number g l =
    let all = λ (ends : _). map (view_of (λ e. (goal.Endpoint-dyn g (e.object.vtable, e.object.value)).seen e.object.value)) ends.ends.items in
    let d = data_of l.course.hub.now.setup in
    let s = setting d (length l.fn.lanes) l.course.names.now in
    let before = moment_by g.S.Source.seen g.T.Telling.seen all (state_of d l.fn.lanes) l.fn.outside in
    let now = moment_by g.S.Source.seen g.T.Telling.seen all (state_of d l.lanes) l.outside in
    let counted = g.T.Telling.counts l.fn.outside.out.now in
    let counted' = g.T.Telling.counts l.outside.out.now in
    record {
      stands : KeepsRecords before.capture before.outside.source now.capture now.outside.source (λ frames left rest. (version : ℕ) (reader : Option ReaderState) (start : RunSeen) (tally : Option Counts)
          → HasToldAll (script_in s l.segments version) reader frames frames start 0 before tally counted
          → HasToldAll (script_in s l.segments version) reader frames left start l.number now tally counted');
      ready : AreReady d l.course.hub.now.log.id l.course.hub.now.log.lanes l.lanes;
      room : place_of d l.lanes ≤ command_lines (take l.number l.segments);
      keep : now.outside.source.keep ≡ before.outside.source.keep;
      same : HoldsSame g.T.Telling.reference l.fn.outside l.outside;
      reads : now.outside.source.faults ≡ before.outside.source.faults;
      writes : now.outside.sink.faults ≡ before.outside.sink.faults;
      faults : faults_of now.outside.ends ≡ faults_of before.outside.ends;
    }
