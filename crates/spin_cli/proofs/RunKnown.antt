-- Which status a run always comes to, from the causes of all its ends.
use Rattle.std.proofs.Common.{◌≡◌, ℕ, Option, Some, None, List, sym, ap, subst, ◌∙◌, inl, inr}
use Rattle.std.specs.Prelude.{Result, Err}
use Rattle.spin_outside.specs.Counts.{Rose}
use Rattle.spin_outside.specs.Files.{File, content}
use Rattle.spin_outside.specs.Sources.{SourceSeen}
use Rattle.spin_pcap.specs.declared.fault.PcapFault.{PcapFault}
use Rattle.spin_pcap.specs.declared.next.Next.{Next}
use Rattle.spin_script.specs.States.{NativeData}
use Rattle.spin_run.specs.declared.end.RunEnd.{RunEnd}
use Rattle.spin_run.specs.declared.end.RunEnd.TheVariants as run
use Rattle.spin_inputs.specs.declared.end.End.{End}
use Rattle.spin_inputs.specs.Captures.{AreBytesOf, IsBadCapture, KnowsNoCapture}
use Rattle.spin_inputs.specs.Ends.{exit_status}
use Rattle.spin_inputs.specs.Loading.{HoldsText}
use Rattle.spin_inputs.specs.Outside.{Outside}
use Rattle.spin_cli.specs.Run.{end_of, IsComplete, KnowsCapture, NoneRose, NotRunBy, RunCameTo, RanOver, RunHasCause, RunKnows}
use Rattle.spin_inputs.proofs.ReadingUniqueness.{good_records, header_at, header_lacks, headers_differ, records_at}
use Rattle.spin_inputs.proofs.ShelfLemmas.{tells_nothing}
use Rattle.spin_inputs.proofs.Stages.{ScriptFirst, knows_no_script, knows_refused, opened_bad, opened_lost, opened_memory, script_memory}

-- an endpoint that failed has a count that rose
pub endpoint_rose : (natives : NativeData) (before after : Outside) (name : List ℕ) (Has : List (List ℕ) → Option (Result Next PcapFault) → Type 0) (from to : SourceSeen) (endpoint : ℕ)
    → RanOver natives before after name Has from to (run.Endpoint endpoint) → NoneRose before after → ⊥
endpoint_rose natives before after name Has from to endpoint ran calm =
    let rose = ran.counts.2 in
    calm.ends rose.place rose.there rose.rose

-- a write that failed raised the sink's
pub sink_rose : (natives : NativeData) (before after : Outside) (name : List ℕ) (Has : List (List ℕ) → Option (Result Next PcapFault) → Type 0) (from to : SourceSeen)
    → RanOver natives before after name Has from to run.WriteFault → Rose before.sink.faults after.sink.faults
sink_rose natives before after name Has from to ran = subst (λ n. Rose before.sink.faults n) (sym (tells_nothing ran.sink after.sink ran.line)) ran.counts.1

-- ---- the script

stop_first : (natives : NativeData) (before after : Outside) (name : List ℕ) (packets : Option (List ℕ)) (end : End)
    → NotRunBy natives before.shelf after.shelf name packets end → ScriptFirst natives before.shelf after.shelf name end
stop_first natives before after name packets end (inl by) = inl by
stop_first natives before after name packets end (inr by) = inr by.0

run_first : (natives : NativeData) (before after : Outside) (name : List ℕ) (packets : Option (List ℕ)) (end : End)
    → RunHasCause natives before after name packets end → ScriptFirst natives before.shelf after.shelf name end
run_first natives before after name packets end (inl stop) = stop_first natives before after name packets end stop.0
run_first natives before after name packets end (inr ran) = inr (ran.2.over.script, ran.2.over.loaded)

-- ---- a capture that isn't there

named_header : (natives : NativeData) (before after : Outside) (held : List File) (name capture text : List ℕ) (packets : Option (List ℕ)) (ended : RunEnd)
    → HoldsText before.shelf held name text → packets ≡ Some capture → content held capture ≡ None → RunCameTo natives before after name packets ended → ⊥
named_header natives before after held name capture text packets ended holds named lacking ran =
    header_lacks held capture (header_at before.shelf.files held capture ran.bytes holds.told (subst (λ p. AreBytesOf before.shelf.files p ran.bytes) named ran.capture)) lacking

stop_lost : (natives : NativeData) (before after : Outside) (name : List ℕ) (packets : Option (List ℕ)) (status : ℕ) (end : End)
    → status ≡ exit_status end → NotRunBy natives before.shelf after.shelf name packets end → KnowsNoCapture natives before after name packets status
stop_lost natives before after name packets status end is (inl by) held text capture holds script named lacking calm =
    inr (script_memory natives before.shelf after.shelf held name text status end is holds script calm by)
stop_lost natives before after name packets status end is (inr by) held text capture holds script named lacking calm =
    opened_lost before.shelf after.shelf held packets capture status end is holds.told named lacking calm by.1

lost_at : (natives : NativeData) (before after : Outside) (name : List ℕ) (packets : Option (List ℕ)) (status : ℕ) (end : End)
    → status ≡ exit_status end → RunHasCause natives before after name packets end → KnowsNoCapture natives before after name packets status
lost_at natives before after name packets status end is (inl stop) = stop_lost natives before after name packets status end is stop.0
lost_at natives before after name packets status end is (inr ran) =
    λ held text capture holds script named lacking calm. absurd (named_header natives before after held name capture text packets ran.0 holds named lacking ran.2)

-- ---- a bad capture

bad_whole : (natives : NativeData) (before after : Outside) (held : List File) (name capture text : List ℕ)
    → HoldsText before.shelf held name text → IsBadCapture held capture → RunCameTo natives before after name (Some capture) run.Whole → ⊥
bad_whole natives before after held name capture text holds (inl header) ran =
    headers_differ held capture header.0 (header_at before.shelf.files held capture ran.bytes holds.told ran.capture) header.1
bad_whole natives before after held name capture text holds (inr bad) ran =
    (ran.over.ended_so bad.0 (Some (Err bad.1)) (records_at before.shelf.files held capture ran.bytes bad.0 (Err bad.1) holds.told ran.capture bad.2)).1.capture_is

stop_bad : (natives : NativeData) (before after : Outside) (name : List ℕ) (packets : Option (List ℕ)) (status : ℕ) (end : End)
    → status ≡ exit_status end → NotRunBy natives before.shelf after.shelf name packets end → KnowsCapture natives before after name packets status
stop_bad natives before after name packets status end is (inl by) held text capture holds script named bad calm =
    inr (script_memory natives before.shelf after.shelf held name text status end is holds script calm.faults by)
stop_bad natives before after name packets status end is (inr by) held text capture holds script named bad calm =
    opened_bad before.shelf after.shelf packets status end is calm.faults calm.absences by.1

ran_bad : (natives : NativeData) (before after : Outside) (name : List ℕ) (packets : Option (List ℕ)) (status : ℕ) (end : End) (ended : RunEnd)
    → status ≡ exit_status end → end ≡ end_of ended → RunCameTo natives before after name packets ended → KnowsCapture natives before after name packets status
ran_bad natives before after name packets status end run.Whole is same ran held text capture holds script named bad calm =
    absurd (bad_whole natives before after held name capture text holds bad (subst (λ p. RunCameTo natives before after name p run.Whole) named ran))
ran_bad natives before after name packets status end (run.Capture at fault) is same ran held text capture holds script named bad calm = inl (is ∙ ap exit_status same)
ran_bad natives before after name packets status end run.ReadFault is same ran held text capture holds script named bad calm = absurd (calm.faults ran.shelf.faults)
ran_bad natives before after name packets status end run.WriteFault is same ran held text capture holds script named bad calm = absurd (calm.sink (sink_rose natives before after name _ _ _ ran.over))
ran_bad natives before after name packets status end run.NoMemory is same ran held text capture holds script named bad calm = inr (is ∙ ap exit_status same)
ran_bad natives before after name packets status end (run.Endpoint at) is same ran held text capture holds script named bad calm =
    absurd (endpoint_rose natives before after name _ _ _ at ran.over calm)

capture_at : (natives : NativeData) (before after : Outside) (name : List ℕ) (packets : Option (List ℕ)) (status : ℕ) (end : End)
    → status ≡ exit_status end → RunHasCause natives before after name packets end → KnowsCapture natives before after name packets status
capture_at natives before after name packets status end is (inl stop) = stop_bad natives before after name packets status end is stop.0
capture_at natives before after name packets status end is (inr ran) = ran_bad natives before after name packets status end ran.0 is ran.1 ran.2

-- ---- nothing bad

stop_complete : (natives : NativeData) (before after : Outside) (name : List ℕ) (packets : Option (List ℕ)) (status : ℕ) (end : End)
    → status ≡ exit_status end → NotRunBy natives before.shelf after.shelf name packets end → IsComplete natives before after name packets status
stop_complete natives before after name packets status end is (inl by) held text holds script good calm =
    inr (script_memory natives before.shelf after.shelf held name text status end is holds script calm.faults by)
stop_complete natives before after name packets status end is (inr by) held text holds script good calm =
    inr (opened_memory before.shelf after.shelf held packets status end is holds.told good calm.faults calm.absences by.1)

ran_complete : (natives : NativeData) (before after : Outside) (name : List ℕ) (packets : Option (List ℕ)) (status : ℕ) (end : End) (ended : RunEnd)
    → status ≡ exit_status end → end ≡ end_of ended → RunCameTo natives before after name packets ended → IsComplete natives before after name packets status
ran_complete natives before after name packets status end run.Whole is same ran held text holds script good calm = inl (is ∙ ap exit_status same)
ran_complete natives before after name packets status end (run.Capture at fault) is same ran held text holds script good calm =
    let records = good_records before.shelf.files held packets ran.bytes holds.told ran.capture good in
    let by = ran.over.ended_so records.frames records.rest records.are in
    absurd (records.good by.0 by.1)
ran_complete natives before after name packets status end run.ReadFault is same ran held text holds script good calm = absurd (calm.faults ran.shelf.faults)
ran_complete natives before after name packets status end run.WriteFault is same ran held text holds script good calm = absurd (calm.sink (sink_rose natives before after name _ _ _ ran.over))
ran_complete natives before after name packets status end run.NoMemory is same ran held text holds script good calm = inr (is ∙ ap exit_status same)
ran_complete natives before after name packets status end (run.Endpoint at) is same ran held text holds script good calm = absurd (endpoint_rose natives before after name _ _ _ at ran.over calm)

complete_at : (natives : NativeData) (before after : Outside) (name : List ℕ) (packets : Option (List ℕ)) (status : ℕ) (end : End)
    → status ≡ exit_status end → RunHasCause natives before after name packets end → IsComplete natives before after name packets status
complete_at natives before after name packets status end is (inl stop) = stop_complete natives before after name packets status end is stop.0
complete_at natives before after name packets status end is (inr ran) = ran_complete natives before after name packets status end ran.0 is ran.1 ran.2

pub run_known : (natives : NativeData) (before after : Outside) (name : List ℕ) (packets : Option (List ℕ)) (status : ℕ) (end : End)
    → status ≡ exit_status end → RunHasCause natives before after name packets end → RunKnows natives before after name packets status
run_known natives before after name packets status end is cause =
    let first = run_first natives before after name packets end cause in
    record {
      refused = knows_refused natives before after name status end is first;
      script_absent = knows_no_script natives before after name status end is first;
      capture_absent = lost_at natives before after name packets status end is cause;
      capture = capture_at natives before after name packets status end is cause;
      complete = complete_at natives before after name packets status end is cause;
    }
