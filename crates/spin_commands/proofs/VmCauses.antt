-- What the end of a trace rests on: what was done before it.
use Rattle.std.proofs.Common.{◌≡◌, ℕ, Bool, true, false, Option, List, length, refl, sym, subst, arith, inl, inr}
use Rattle.std.specs.Prelude.{nat_lt, Result, Ok, Err, IfOk, IfErr}
use Rattle.std.proofs.lemmas.Bool.{false≢true}
use Rattle.std.proofs.lemmas.Bool.Decides.{nat_tests}
use Rattle.spin_outside.specs.Files.{File, IsLacking}
use Rattle.spin_outside.specs.Seen.{ShelfSeen, SinkSeen}
use Rattle.spin_script.specs.States.{NativeData, ScriptData}
use Rattle.spin_vm.specs.declared.cause.TraceCause.TheVariants as why
use Rattle.spin_vm.specs.declared.end.VmEnd.{VmEnd}
use Rattle.spin_vm.specs.Ends.{TraceEndsBy, TraceCountsBy}
use Rattle.spin_vm.specs.Scripts.{is_suited}
use Rattle.spin_vm.specs.Traces.{outcome}
use Rattle.spin_inputs.specs.declared.end.End.{End}
use Rattle.spin_inputs.specs.declared.end.End.TheVariants.{Unread, Absent, NoMemory, Trace, Unsuited}
use Rattle.spin_inputs.specs.declared.end.Input.TheVariants as input
use Rattle.spin_inputs.specs.Ends.{Tells, stop_line}
use Rattle.spin_inputs.specs.Loading.{IsContent, IsLoaded, IsOver, NoScriptBy}
use Rattle.spin_inputs.specs.Outside.{OnlyStops, Outside}
use Rattle.spin_inputs.specs.Shelves.{ShelfStood}
use Rattle.spin_commands.specs.Vm.{IsBadTrace, NoSuitedTraceBy, NoTraceBy, VmHasCause, vm_end}
use Rattle.spin_inputs.proofs.ShelfLemmas.{stood_failed, stood_lacked, stood_stood}

-- ---- stops before the trace is run

pub not_loaded : (natives : NativeData) (before after : Outside) (name trace : List ℕ) (end : End)
    → NoScriptBy natives before.shelf after.shelf name end → OnlyStops before after end → VmHasCause natives before after name trace end
not_loaded natives before after name trace end by only = inl (inl by, only)

-- a text that is too large is no trace
pub large_trace : (files : Option (List File)) (name : List ℕ) → IsOver 1048576 files name → IsBadTrace files name 0 1
large_trace files name over =
    let large : nat_lt 1048576 (length over.0) ≡ true = grind (arith, nat_tests, over.2) in
    let is : outcome over.0 ≡ Err (0, why.TooLarge) = rw large refl in
    (over.0, over.1, why.TooLarge, is, refl)

-- the trace behind a shelf that stood
traced_behind : (a b c : ShelfSeen) (trace : List ℕ) (end : End) → ShelfStood a b → NoTraceBy b c trace end → NoTraceBy a c trace end
traced_behind a b c trace (Trace line cause) stood by = (stood_stood a b c stood by.0, subst (λ files. IsBadTrace files trace line cause) stood.files by.1)
traced_behind a b c trace (Unread input.Trace) stood by = stood_failed a b c stood by
traced_behind a b c trace (Absent input.Trace) stood by = (stood_lacked a b c stood by.0, subst (λ files. IsLacking files trace) stood.files by.1)
traced_behind a b c trace NoMemory stood by = stood_stood a b c stood by
traced_behind a b c trace other stood by = absurd by

suited_behind : (suited : Bool) (a b c : ShelfSeen) (trace : List ℕ) (end : End) → ShelfStood a b → NoSuitedTraceBy suited b c trace end → NoSuitedTraceBy suited a c trace end
suited_behind false a b c trace end stood by = (by.0, stood_stood a b c stood by.1)
suited_behind true a b c trace end stood by = traced_behind a b c trace end stood by

pub not_traced : (natives : NativeData) (before after : Outside) (mid : ShelfSeen) (name trace : List ℕ) (script : ScriptData) (end : End) → ShelfStood before.shelf mid
    → IsLoaded natives before.shelf.files name script → NoSuitedTraceBy (is_suited script) mid after.shelf trace end → OnlyStops before after end → VmHasCause natives before after name trace end
not_traced natives before after mid name trace script end stood loaded by only =
    inl (inr (is_suited script, (script, loaded, refl), suited_behind (is_suited script) before.shelf mid after.shelf trace end stood by), only)

-- a script that isn't suited has none
pub unsuited_here : (suited : Bool) (a : ShelfSeen) (trace : List ℕ) → suited ≡ false → NoSuitedTraceBy suited a a trace Unsuited
unsuited_here false a trace is = (refl, record { files = refl; faults = refl; absences = refl })
unsuited_here true a trace is = absurd (false≢true (sym is))

-- and that of one that is wasn't read
pub suited_here : {T : Type 0} (result : Result T End) (suited : Bool) (a b : ShelfSeen) (trace : List ℕ)
    → suited ≡ true → IfErr result (NoTraceBy a b trace) → IfErr result (NoSuitedTraceBy suited a b trace)
suited_here result false a b trace is by = absurd (false≢true is)
suited_here result true a b trace is by = by

pub of_any : {T E : Type 0} (P : Type 0) (result : Result T E) → P → IfOk result (λ _. P)
of_any P (Ok value) holds = holds
of_any P (Err error) holds = tt

-- ---- the trace

pub was_traced : (natives : NativeData) (before after : Outside) (mid : ShelfSeen) (sink : SinkSeen) (name trace text : List ℕ) (script : ScriptData) (ended : VmEnd) → ShelfStood before.shelf mid
    → IsLoaded natives before.shelf.files name script → is_suited script ≡ true → ShelfStood mid after.shelf → IsContent mid.files trace text → TraceEndsBy script text before.sink sink ended
    → TraceCountsBy before.sink sink ended → Tells sink after.sink (stop_line (vm_end ended)) → after.ends ≡ before.ends → VmHasCause natives before after name trace (vm_end ended)
was_traced natives before after mid sink name trace text script ended stood loaded suited stood' read by counts line ends =
    inr (
      ended,
      refl,
      record {
        stood = stood_stood before.shelf mid after.shelf stood stood';
        script = script;
        loaded = loaded;
        suited = suited;
        text = text;
        read = subst (λ files. IsContent files trace text) stood.files read;
        sink = sink;
        ended_so = by;
        counts = counts;
        line = line;
        ends = ends;
      },
    )
