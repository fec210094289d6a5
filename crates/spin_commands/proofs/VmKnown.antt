-- Which status a trace always comes to, from the causes of all its ends.
use Rattle.std.proofs.Common.{◌≡◌, ◌⊎◌, ℕ, Bool, true, false, Option, Some, None, List, ◌&&◌, [], ◌∷◌, map, refl, sym, ap, subst, ◌∙◌, inl, inr}
use Rattle.std.specs.Prelude.{Result, Ok, Err}
use Rattle.spin_outside.specs.Counts.{Rose}
use Rattle.spin_outside.specs.Files.{File, content}
use Rattle.spin_outside.specs.Seen.{ShelfSeen}
use Rattle.spin_script.specs.Language.{IsScript}
use Rattle.spin_table.specs.declared.event.EventDef.{EventDef}
use Rattle.spin_script.specs.Laws.{bare_event, bare_script}
use Rattle.spin_script.specs.States.{NativeData, ScriptData}
use Rattle.spin_script.proofs.OutcomeUniqueness.{one_outcome}
use Rattle.spin_vm.specs.declared.cause.TraceCause.{TraceCause}
use Rattle.spin_vm.specs.declared.end.VmEnd.{VmEnd}
use Rattle.spin_vm.specs.declared.end.VmEnd.TheVariants as vm
use Rattle.spin_vm.specs.declared.line.TraceLine.{TraceLine}
use Rattle.spin_vm.specs.Scripts.{asks_commands, has_fault_events, is_single, is_suited}
use Rattle.spin_vm.specs.Traces.{outcome}
use Rattle.spin_inputs.specs.declared.end.End.{End}
use Rattle.spin_inputs.specs.declared.end.End.TheVariants.{Unread, Absent, NoMemory, Trace}
use Rattle.spin_inputs.specs.declared.end.Input.TheVariants as input
use Rattle.spin_inputs.specs.Ends.{exit_status}
use Rattle.spin_inputs.specs.Loading.{HoldsText, IsContent, IsScriptText}
use Rattle.spin_inputs.specs.Outside.{Outside}
use Rattle.spin_commands.specs.Vm.{IsBadTrace, IsSuitedText, IsTraceComplete, KnowsNoTrace, KnowsTrace, KnowsUnsuited}
use Rattle.spin_commands.specs.Vm.{LoadsSuited, NoSuitedTraceBy, NotTracedBy, NoTraceBy, RanTrace, VmHasCause, VmKnows, vm_end}
use Rattle.spin_inputs.proofs.ReadingUniqueness.{content_at, lacking_at, some_is, some_not_none}
use Rattle.spin_inputs.proofs.ShelfLemmas.{tells_nothing}
use Rattle.spin_inputs.proofs.Stages.{ScriptFirst, knows_no_script, knows_refused, script_memory}

-- ---- one script, and one trace

true_not_false : (b : Bool) → b ≡ true → b ≡ false → ⊥
true_not_false b is not = cc

-- whether a script is suited doesn't rest on where its boxes lie
bare_events : (events : List EventDef) → has_fault_events (map bare_event events) ≡ has_fault_events events
bare_events [] = refl
bare_events (a ∷ []) = refl
bare_events (a ∷ b ∷ []) = refl
bare_events (a ∷ b ∷ c ∷ events) = refl

bare_suited : (script : ScriptData) → is_suited (bare_script script) ≡ is_suited script
bare_suited script = ap (λ b. is_single script && asks_commands script.segments && b) (bare_events script.setup.events)

-- a text isn't a suited script and an unsuited one
one_kind : (natives : NativeData) (text : List ℕ) (a b : ScriptData) → IsScript natives text (Ok a) → IsScript natives text (Ok b) → is_suited a ≡ is_suited b
one_kind natives text a b is_a is_b =
    sym (bare_suited a) ∙ ap is_suited (one_outcome natives text (Ok a) (Ok b) is_a is_b) ∙ bare_suited b

both_kinds : (natives : NativeData) (shelf : ShelfSeen) (held : List File) (name text : List ℕ) (a b : Bool)
    → HoldsText shelf held name text → IsSuitedText natives text a → LoadsSuited natives shelf.files name b → b ≡ a
both_kinds natives shelf held name text a b holds is loads =
    let same : loads.1.text ≡ text = some_is loads.1.text text (sym (content_at shelf.files held name loads.1.text holds.told loads.1.read) ∙ holds.found) in
    let reads : IsScript natives text (Ok loads.0) = subst (λ t. IsScript natives t (Ok loads.0)) same loads.1.reads in
    sym loads.2 ∙ one_kind natives text loads.0 is.0 reads is.1 ∙ is.2

ok_not_err : {A B : Type 0} (r : Result A B) (a : A) (b : B) → r ≡ Ok a → r ≡ Err b → ⊥
ok_not_err r a b good bad = cc

is_script : (natives : NativeData) (text : List ℕ) (suited : Bool) → IsSuitedText natives text suited → IsScriptText natives text
is_script natives text suited is = (is.0, is.1)

loads_suited : (natives : NativeData) (before after : Outside) (name trace : List ℕ) (ended : VmEnd) → RanTrace natives before after name trace ended → LoadsSuited natives before.shelf.files name true
loads_suited natives before after name trace ended ran = (ran.script, ran.loaded, ran.suited)

-- the trace that was read is the text under its name
same_trace : (files : Option (List File)) (held : List File) (trace traced text : List ℕ) → files ≡ Some held → content held trace ≡ Some traced → IsContent files trace text → text ≡ traced
same_trace files held trace traced text told found read = some_is text traced (sym (content_at files held trace text told read) ∙ found)

lacks_trace : (files : Option (List File)) (held : List File) (trace text : List ℕ) → files ≡ Some held → content held trace ≡ None → IsContent files trace text → ⊥
lacks_trace files held trace text told lacking read = some_not_none text (sym (content_at files held trace text told read) ∙ lacking)

-- ---- the script

stop_first : (natives : NativeData) (before after : Outside) (name trace : List ℕ) (end : End)
    → NotTracedBy natives before.shelf after.shelf name trace end → ScriptFirst natives before.shelf after.shelf name end
stop_first natives before after name trace end (inl by) = inl by
stop_first natives before after name trace end (inr by) = inr (by.1.0, by.1.1)

vm_first : (natives : NativeData) (before after : Outside) (name trace : List ℕ) (end : End) → VmHasCause natives before after name trace end → ScriptFirst natives before.shelf after.shelf name end
vm_first natives before after name trace end (inl stop) = stop_first natives before after name trace end stop.0
vm_first natives before after name trace end (inr ran) = inr (ran.2.script, ran.2.loaded)

-- ---- a script that isn't suited

suits_not : (natives : NativeData) (shelf : ShelfSeen) (held : List File) (name text : List ℕ)
    → HoldsText shelf held name text → IsSuitedText natives text false → LoadsSuited natives shelf.files name true → ⊥
suits_not natives shelf held name text holds is loads = true_not_false true refl (both_kinds natives shelf held name text false true holds is loads)

suits : (natives : NativeData) (shelf : ShelfSeen) (held : List File) (name text : List ℕ)
    → HoldsText shelf held name text → IsSuitedText natives text true → LoadsSuited natives shelf.files name false → ⊥
suits natives shelf held name text holds is loads = true_not_false false (both_kinds natives shelf held name text true false holds is loads) refl

unsuited_by : (natives : NativeData) (before after : Outside) (name trace : List ℕ) (status : ℕ) (end : End) (suited : Bool) → status ≡ exit_status end
    → LoadsSuited natives before.shelf.files name suited → NoSuitedTraceBy suited before.shelf after.shelf trace end → KnowsUnsuited natives before after name status
unsuited_by natives before after name trace status end false is loads by held text holds script calm = inl (is ∙ ap exit_status by.0)
unsuited_by natives before after name trace status end true is loads by held text holds script calm = absurd (suits_not natives before.shelf held name text holds script loads)

-- a suited script's trace wasn't read
trace_by : (natives : NativeData) (before after : ShelfSeen) (held : List File) (name text trace : List ℕ) (end : End) (suited : Bool) → HoldsText before held name text
    → IsSuitedText natives text true → LoadsSuited natives before.files name suited → NoSuitedTraceBy suited before after trace end → NoTraceBy before after trace end
trace_by natives before after held name text trace end false holds script loads by = absurd (suits natives before held name text holds script loads)
trace_by natives before after held name text trace end true holds script loads by = by

stop_unsuited : (natives : NativeData) (before after : Outside) (name trace : List ℕ) (status : ℕ) (end : End) → status ≡ exit_status end
    → NotTracedBy natives before.shelf after.shelf name trace end → KnowsUnsuited natives before after name status
stop_unsuited natives before after name trace status end is (inl by) held text holds script calm =
    inr (script_memory natives before.shelf after.shelf held name text status end is holds (is_script natives text false script) calm by)
stop_unsuited natives before after name trace status end is (inr by) held text holds script calm = unsuited_by natives before after name trace status end by.0 is by.1 by.2 held text holds script calm

unsuited_at : (natives : NativeData) (before after : Outside) (name trace : List ℕ) (status : ℕ) (end : End)
    → status ≡ exit_status end → VmHasCause natives before after name trace end → KnowsUnsuited natives before after name status
unsuited_at natives before after name trace status end is (inl stop) = stop_unsuited natives before after name trace status end is stop.0
unsuited_at natives before after name trace status end is (inr ran) =
    λ held text holds script calm. absurd (suits_not natives before.shelf held name text holds script (loads_suited natives before after name trace ran.0 ran.2))

-- ---- a trace that isn't there

trace_lost : (before after : ShelfSeen) (held : List File) (trace : List ℕ) (status : ℕ) (end : End) → status ≡ exit_status end → before.files ≡ Some held
    → content held trace ≡ None → (Rose before.faults after.faults → ⊥) → NoTraceBy before after trace end → (status ≡ 6) ⊎ (status ≡ 7)
trace_lost before after held trace status (Trace line cause) is told lacking calm by = absurd (lacks_trace before.files held trace by.1.0 told lacking by.1.1)
trace_lost before after held trace status (Unread input.Trace) is told lacking calm by = absurd (calm by.faults)
trace_lost before after held trace status (Absent input.Trace) is told lacking calm by = inl is
trace_lost before after held trace status NoMemory is told lacking calm by = inr is
trace_lost before after held trace status other is told lacking calm by = absurd by

stop_lost : (natives : NativeData) (before after : Outside) (name trace : List ℕ) (status : ℕ) (end : End) → status ≡ exit_status end
    → NotTracedBy natives before.shelf after.shelf name trace end → KnowsNoTrace natives before after name trace status
stop_lost natives before after name trace status end is (inl by) held text holds script lacking calm =
    inr (script_memory natives before.shelf after.shelf held name text status end is holds (is_script natives text true script) calm by)
stop_lost natives before after name trace status end is (inr by) held text holds script lacking calm =
    trace_lost before.shelf after.shelf held trace status end is holds.told lacking calm (trace_by natives before.shelf after.shelf held name text trace end by.0 holds script by.1 by.2)

lost_at : (natives : NativeData) (before after : Outside) (name trace : List ℕ) (status : ℕ) (end : End) → status ≡ exit_status end
    → VmHasCause natives before after name trace end → KnowsNoTrace natives before after name trace status
lost_at natives before after name trace status end is (inl stop) = stop_lost natives before after name trace status end is stop.0
lost_at natives before after name trace status end is (inr ran) = λ held text holds script lacking calm. absurd (lacks_trace before.shelf.files held trace ran.2.text holds.told lacking ran.2.read)

-- ---- a text that is no trace

good_trace : (files : Option (List File)) (held : List File) (trace traced text : List ℕ) (line : ℕ) (why : TraceCause) (lines : List TraceLine)
    → files ≡ Some held → content held trace ≡ Some traced → outcome traced ≡ Err (line, why) → IsContent files trace text → outcome text ≡ Ok lines → ⊥
good_trace files held trace traced text line why lines told found bad read good =
    ok_not_err (outcome text) lines (line, why) good (ap outcome (same_trace files held trace traced text told found read) ∙ bad)

trace_bad : (before after : ShelfSeen) (held : List File) (trace traced : List ℕ) (status : ℕ) (end : End) → status ≡ exit_status end → before.files ≡ Some held
    → content held trace ≡ Some traced → (Rose before.faults after.faults → ⊥) → NoTraceBy before after trace end → (status ≡ 11) ⊎ (status ≡ 7)
trace_bad before after held trace traced status (Trace line cause) is told found calm by = inl is
trace_bad before after held trace traced status (Unread input.Trace) is told found calm by = absurd (calm by.faults)
trace_bad before after held trace traced status (Absent input.Trace) is told found calm by = absurd (some_not_none traced (sym found ∙ lacking_at before.files held trace told by.1))
trace_bad before after held trace traced status NoMemory is told found calm by = inr is
trace_bad before after held trace traced status other is told found calm by = absurd by

stop_bad : (natives : NativeData) (before after : Outside) (name trace : List ℕ) (status : ℕ) (end : End) → status ≡ exit_status end
    → NotTracedBy natives before.shelf after.shelf name trace end → KnowsTrace natives before after name trace status
stop_bad natives before after name trace status end is (inl by) held text traced line why holds script found bad calm =
    inr (script_memory natives before.shelf after.shelf held name text status end is holds (is_script natives text true script) calm by)
stop_bad natives before after name trace status end is (inr by) held text traced line why holds script found bad calm =
    trace_bad before.shelf after.shelf held trace traced status end is holds.told found calm (trace_by natives before.shelf after.shelf held name text trace end by.0 holds script by.1 by.2)

ran_bad : (natives : NativeData) (before after : Outside) (name trace : List ℕ) (status : ℕ) (end : End) (ended : VmEnd) → status ≡ exit_status end
    → end ≡ vm_end ended → RanTrace natives before after name trace ended → KnowsTrace natives before after name trace status
ran_bad natives before after name trace status end vm.Whole is same ran held text traced line why holds script found bad calm =
    let by = ran.ended_so in
    absurd (good_trace before.shelf.files held trace traced ran.text line why by.0 holds.told found bad ran.read by.2)
ran_bad natives before after name trace status end (vm.Trace at cause) is same ran held text traced line why holds script found bad calm = inl (is ∙ ap exit_status same)
ran_bad natives before after name trace status end vm.WriteFault is same ran held text traced line why holds script found bad calm =
    let by = ran.ended_so in
    absurd (good_trace before.shelf.files held trace traced ran.text line why by.0 holds.told found bad ran.read by.2)
ran_bad natives before after name trace status end vm.NoMemory is same ran held text traced line why holds script found bad calm = inr (is ∙ ap exit_status same)

trace_at : (natives : NativeData) (before after : Outside) (name trace : List ℕ) (status : ℕ) (end : End)
    → status ≡ exit_status end → VmHasCause natives before after name trace end → KnowsTrace natives before after name trace status
trace_at natives before after name trace status end is (inl stop) = stop_bad natives before after name trace status end is stop.0
trace_at natives before after name trace status end is (inr ran) = ran_bad natives before after name trace status end ran.0 is ran.1 ran.2

-- ---- nothing bad

-- one outcome of the trace
good_bad : (files : Option (List File)) (held : List File) (trace traced : List ℕ) (at cause : ℕ) (lines : List TraceLine)
    → files ≡ Some held → content held trace ≡ Some traced → outcome traced ≡ Ok lines → IsBadTrace files trace at cause → ⊥
good_bad files held trace traced at cause lines told found good bad =
    ok_not_err (outcome traced) lines (at, bad.2) good (ap outcome (sym (same_trace files held trace traced bad.0 told found bad.1)) ∙ bad.3)

trace_memory : (before after : ShelfSeen) (held : List File) (trace traced : List ℕ) (lines : List TraceLine) (status : ℕ) (end : End) → status ≡ exit_status end
    → before.files ≡ Some held → content held trace ≡ Some traced → outcome traced ≡ Ok lines → (Rose before.faults after.faults → ⊥) → NoTraceBy before after trace end → status ≡ 7
trace_memory before after held trace traced lines status (Trace line cause) is told found good calm by = absurd (good_bad before.files held trace traced line cause lines told found good by.1)
trace_memory before after held trace traced lines status (Unread input.Trace) is told found good calm by = absurd (calm by.faults)
trace_memory before after held trace traced lines status (Absent input.Trace) is told found good calm by = absurd (some_not_none traced (sym found ∙ lacking_at before.files held trace told by.1))
trace_memory before after held trace traced lines status NoMemory is told found good calm by = is
trace_memory before after held trace traced lines status other is told found good calm by = absurd by

stop_complete : (natives : NativeData) (before after : Outside) (name trace : List ℕ) (status : ℕ) (end : End) → status ≡ exit_status end
    → NotTracedBy natives before.shelf after.shelf name trace end → IsTraceComplete natives before after name trace status
stop_complete natives before after name trace status end is (inl by) held text traced lines holds script found good calm still =
    inr (script_memory natives before.shelf after.shelf held name text status end is holds (is_script natives text true script) calm by)
stop_complete natives before after name trace status end is (inr by) held text traced lines holds script found good calm still =
    inr (trace_memory before.shelf after.shelf held trace traced lines status end is holds.told found good calm
    (trace_by natives before.shelf after.shelf held name text trace end by.0 holds script by.1 by.2))

ran_complete : (natives : NativeData) (before after : Outside) (name trace : List ℕ) (status : ℕ) (end : End) (ended : VmEnd) → status ≡ exit_status end
    → end ≡ vm_end ended → RanTrace natives before after name trace ended → IsTraceComplete natives before after name trace status
ran_complete natives before after name trace status end vm.Whole is same ran held text traced lines holds script found good calm still = inl (is ∙ ap exit_status same)
ran_complete natives before after name trace status end (vm.Trace at cause) is same ran held text traced lines holds script found good calm still =
    let by = ran.ended_so in
    absurd (good_bad before.shelf.files held trace traced at cause lines holds.told found good (ran.text, ran.read, by.0, by.1, by.2))
ran_complete natives before after name trace status end vm.WriteFault is same ran held text traced lines holds script found good calm still =
    absurd (still (subst (λ n. Rose before.sink.faults n) (sym (tells_nothing ran.sink after.sink ran.line)) ran.counts))
ran_complete natives before after name trace status end vm.NoMemory is same ran held text traced lines holds script found good calm still = inr (is ∙ ap exit_status same)

complete_at : (natives : NativeData) (before after : Outside) (name trace : List ℕ) (status : ℕ) (end : End) → status ≡ exit_status end
    → VmHasCause natives before after name trace end → IsTraceComplete natives before after name trace status
complete_at natives before after name trace status end is (inl stop) = stop_complete natives before after name trace status end is stop.0
complete_at natives before after name trace status end is (inr ran) = ran_complete natives before after name trace status end ran.0 is ran.1 ran.2

pub vm_known : (natives : NativeData) (before after : Outside) (name trace : List ℕ) (status : ℕ) (end : End)
    → status ≡ exit_status end → VmHasCause natives before after name trace end → VmKnows natives before after name trace status
vm_known natives before after name trace status end is cause =
    let first = vm_first natives before after name trace end cause in
    record {
      refused = knows_refused natives before after name status end is first;
      script_absent = knows_no_script natives before after name status end is first;
      unsuited = unsuited_at natives before after name trace status end is cause;
      trace_absent = lost_at natives before after name trace status end is cause;
      bad_trace = trace_at natives before after name trace status end is cause;
      complete = complete_at natives before after name trace status end is cause;
    }
