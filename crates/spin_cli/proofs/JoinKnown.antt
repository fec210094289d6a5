-- Which status a run over a joined capture always comes to, from the causes of all its ends.
use Rattle.std.proofs.Common.{◌≡◌, ℕ, Some, None, List, refl, sym, ap, subst, ◌∙◌, inl, inr, IfSome}
use Rattle.std.specs.Prelude.{Ok}
use Rattle.spin_outside.specs.Files.{File, content}
use Rattle.spin_pcap.specs.declared.next.Next.{Next}
use Rattle.spin_script.specs.States.{NativeData}
use Rattle.spin_run.specs.declared.end.RunEnd.{RunEnd}
use Rattle.spin_run.specs.declared.end.RunEnd.TheVariants as run
use Rattle.spin_inputs.specs.declared.end.End.{End}
use Rattle.spin_inputs.specs.Captures.{IsBadCapture, IsCaptureFile, KnowsBadCapture, KnowsNoCapture}
use Rattle.spin_inputs.specs.Ends.{exit_status}
use Rattle.spin_cli.specs.Join.{IsJoinedFile, JoinHasCause, JoinKnows, RanJoined}
use Rattle.spin_inputs.specs.Outside.{Outside}
use Rattle.spin_cli.specs.Run.{end_of, IsComplete}
use Rattle.spin_inputs.proofs.BadCaptures.{good_bad}
use Rattle.spin_cli.proofs.MemoryCaptures.{never}
use Rattle.spin_cli.proofs.JoinCauses.{not_bad}
use Rattle.spin_inputs.proofs.ReadingUniqueness.{some_is, some_not_none}
use Rattle.spin_cli.proofs.RunKnown.{endpoint_rose, sink_rose}
use Rattle.spin_inputs.proofs.Stages.{ScriptFirst, both_bad, both_first, both_lost, both_memory, knows_no_script, knows_refused}

file_at : (natives : NativeData) (before after : Outside) (held : List File) (name packets : List ℕ) (ended : RunEnd)
    → before.shelf.files ≡ Some held → (ran : RanJoined natives before after name packets ended) → IsJoinedFile held packets ran.bytes
file_at natives before after held name packets ended told ran = subst (λ f. IfSome f (λ held. IsJoinedFile held packets ran.bytes)) told ran.joined

join_first : (natives : NativeData) (before after : Outside) (name packets : List ℕ) (end : End)
    → JoinHasCause natives before after name packets end → ScriptFirst natives before.shelf after.shelf name end
join_first natives before after name packets end (inl stop) = both_first natives before.shelf after.shelf name (Some packets) end stop.0
join_first natives before after name packets end (inr ran) = inr (ran.2.over.script, ran.2.over.loaded)

-- ---- a capture that isn't there

file_lacks : (held : List File) (name capture : List ℕ) (frames : List (List ℕ)) (last : Next) → Some name ≡ Some capture → content held capture ≡ None → IsCaptureFile held name frames (Ok last) → ⊥
file_lacks held name capture frames last named lacking file =
    some_not_none _ (sym file.found ∙ ap (content held) (some_is name capture named) ∙ lacking)

ran_lacks : (natives : NativeData) (before after : Outside) (held : List File) (name packets capture : List ℕ) (ended : RunEnd)
    → before.shelf.files ≡ Some held → Some packets ≡ Some capture → content held capture ≡ None → RanJoined natives before after name packets ended → ⊥
ran_lacks natives before after held name packets capture ended told named lacking ran =
    let file = file_at natives before after held name packets ended told ran in
    file_lacks held packets capture file.frames file.last named lacking file.file

lost_at : (natives : NativeData) (before after : Outside) (name packets : List ℕ) (status : ℕ) (end : End) → status ≡ exit_status end
    → JoinHasCause natives before after name packets end → KnowsNoCapture natives before after name (Some packets) status
lost_at natives before after name packets status end is (inl stop) held text capture holds script named lacking calm =
    both_lost natives before.shelf after.shelf held name text (Some packets) capture status end is holds script named lacking calm stop.0
lost_at natives before after name packets status end is (inr ran) held text capture holds script named lacking calm =
    absurd (ran_lacks natives before after held name packets capture ran.0 holds.told named lacking ran.2)

-- ---- a bad capture

ran_bad : (natives : NativeData) (before after : Outside) (held : List File) (name packets : List ℕ) (ended : RunEnd)
    → before.shelf.files ≡ Some held → IsBadCapture held packets → RanJoined natives before after name packets ended → ⊥
ran_bad natives before after held name packets ended told bad ran =
    let file = file_at natives before after held name packets ended told ran in
    good_bad held packets file.frames file.last file.file bad

capture_at : (natives : NativeData) (before after : Outside) (name packets : List ℕ) (status : ℕ) (end : End) → status ≡ exit_status end
    → JoinHasCause natives before after name packets end → KnowsBadCapture natives before after name packets status
capture_at natives before after name packets status end is (inl stop) held text holds script bad calm =
    both_bad natives before.shelf after.shelf held name text (Some packets) packets status end is holds script refl bad calm stop.0
capture_at natives before after name packets status end is (inr ran) held text holds script bad calm =
    absurd (ran_bad natives before after held name packets ran.0 holds.told bad ran.2)

-- ---- nothing bad

ran_complete : (natives : NativeData) (before after : Outside) (name packets : List ℕ) (status : ℕ) (end : End) (ended : RunEnd) → status ≡ exit_status end
    → end ≡ end_of ended → RanJoined natives before after name packets ended → IsComplete natives before after name (Some packets) status
ran_complete natives before after name packets status end run.Whole is same ran held text holds script good calm = inl (is ∙ ap exit_status same)
ran_complete natives before after name packets status end (run.Capture at fault) is same ran held text holds script good calm =
    absurd (not_bad natives before after name packets at fault (run.Capture at fault) refl ran)
ran_complete natives before after name packets status end run.ReadFault is same ran held text holds script good calm = absurd (never ran.over.counts.0)
ran_complete natives before after name packets status end run.WriteFault is same ran held text holds script good calm = absurd (calm.sink (sink_rose natives before after name _ _ _ ran.over))
ran_complete natives before after name packets status end run.NoMemory is same ran held text holds script good calm = inr (is ∙ ap exit_status same)
ran_complete natives before after name packets status end (run.Endpoint at) is same ran held text holds script good calm = absurd (endpoint_rose natives before after name _ _ _ at ran.over calm)

complete_at : (natives : NativeData) (before after : Outside) (name packets : List ℕ) (status : ℕ) (end : End) → status ≡ exit_status end
    → JoinHasCause natives before after name packets end → IsComplete natives before after name (Some packets) status
complete_at natives before after name packets status end is (inl stop) held text holds script good calm =
    inr (both_memory natives before.shelf after.shelf held name text (Some packets) status end is holds script good calm.faults stop.0)
complete_at natives before after name packets status end is (inr ran) held text holds script good calm =
    ran_complete natives before after name packets status end ran.0 is ran.1 ran.2 held text holds script good calm

pub join_known : (natives : NativeData) (before after : Outside) (name packets : List ℕ) (status : ℕ) (end : End)
    → status ≡ exit_status end → JoinHasCause natives before after name packets end → JoinKnows natives before after name packets status
join_known natives before after name packets status end is cause =
    let first = join_first natives before after name packets end cause in
    record {
      refused = knows_refused natives before after name status end is first;
      script_absent = knows_no_script natives before after name status end is first;
      capture_absent = lost_at natives before after name packets status end is cause;
      capture = capture_at natives before after name packets status end is cause;
      complete = complete_at natives before after name packets status end is cause;
    }
