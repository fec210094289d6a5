-- How a trace ends, and what was written by then.
use Rattle.std.specs.Prelude.{◌≡◌, ◌<◌, ◌⊎◌, ℕ, List, ◌++◌, length, Ok, Err}
use Rattle.std.specs.Io.KnownBytes.{Appends}
use Rattle.spin_outside.specs.Counts.{Rose}
use Rattle.spin_outside.specs.Seen.{SinkSeen}
use Rattle.spin_word.specs.declared.work.Deed.{Deed}
use Rattle.spin_table.specs.States.{State}
use Rattle.spin_proto.specs.declared.reply.Reply.{Reply}
use Rattle.spin_script.specs.States.{ScriptData}
use Rattle.spin_vm.specs.declared.line.TraceLine.{TraceLine}
use Rattle.spin_vm.specs.declared.cause.TraceCause.{TraceCause}
use Rattle.spin_vm.specs.declared.end.VmEnd.{VmEnd}
use Rattle.spin_vm.specs.declared.end.VmEnd.TheVariants as end
use Rattle.spin_vm.specs.Traces.{outcome, trace_cause_number}
use Rattle.spin_vm.specs.Output.{output}
use Rattle.spin_vm.specs.Scripts.{IsLast, AreReplies}

-- The trace's output: its faults are raised at the state that the script leaves.
pub record IsOutput (script : ScriptData) (trace : List TraceLine) (text : List ℕ) : Type 0 where
  pub last : State
  pub is_last : IsLast script last
  pub reply : Deed → Reply
  pub replies : AreReplies script.setup last reply
  pub text_is : text ≡ output reply trace

-- a front of the text was written, and not all of it
abbrev pub WritesFront : SinkSeen → SinkSeen → List ℕ → Type 0
WritesFront before after text =
    (front : List ℕ) × (behind : List ℕ) × (text ≡ front ++ behind) × (0 < length behind)
    × Appends before.told after.told front

-- A trace of that text over the script ends so.
abbrev pub TraceEndsBy : ScriptData → List ℕ → SinkSeen → SinkSeen → VmEnd → Type 0
TraceEndsBy script text before after end.Whole =
    (trace : List TraceLine) × (written : List ℕ) × (outcome text ≡ Ok trace)
    × IsOutput script trace written × Appends before.told after.told written
TraceEndsBy script text before after (end.Trace line number) =
    (cause : TraceCause) × (outcome text ≡ Err (line, cause)) × (number ≡ trace_cause_number cause)
    × (after ≡ before)
TraceEndsBy script text before after end.WriteFault =
    (trace : List TraceLine) × (written : List ℕ) × (outcome text ≡ Ok trace)
    × IsOutput script trace written × WritesFront before after written
TraceEndsBy script text before after end.NoMemory =
    (after ≡ before)
    ⊎ ((trace : List TraceLine) × (written : List ℕ) × (outcome text ≡ Ok trace)
    × IsOutput script trace written × WritesFront before after written)

-- The sink's count of faults rose at a failed write, and nowhere else.
abbrev pub TraceCountsBy : SinkSeen → SinkSeen → VmEnd → Type 0
TraceCountsBy before after end.WriteFault = Rose before.faults after.faults
TraceCountsBy before after other = after.faults ≡ before.faults
