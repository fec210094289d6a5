-- How the writing of an output ends.
use Rattle.std.specs.Prelude.{◌≡◌, ◌⊎◌, ℕ, List, Result, Ok, Err}
use Rattle.std.specs.Io.KnownBytes.{Appends}
use Rattle.spin_outside.specs.Counts.{Rose}
use Rattle.spin_outside.specs.Seen.{SinkSeen}
use Rattle.spin_script.specs.States.{ScriptData}
use Rattle.spin_vm.specs.declared.line.TraceLine.{TraceLine}
use Rattle.spin_vm.specs.declared.writing.Stop.{Stop}
use Rattle.spin_vm.specs.declared.writing.Stop.TheVariants as stop
use Rattle.spin_vm.specs.declared.end.VmEnd.{VmEnd}
use Rattle.spin_vm.specs.declared.end.VmEnd.TheVariants as end
use Rattle.spin_vm.specs.Ends.{IsOutput, WritesFront}

abbrev pub OutputEnds : {A : Type 0} → ScriptData → List TraceLine → SinkSeen → SinkSeen
    → Result A Stop → Type 0
OutputEnds script trace before after (Ok done) =
    (written : List ℕ) × IsOutput script trace written × Appends before.told after.told written
OutputEnds script trace before after (Err stop.WriteFault) =
    (written : List ℕ) × IsOutput script trace written × WritesFront before after written
OutputEnds script trace before after (Err stop.NoMemory) =
    (after ≡ before)
    ⊎ ((written : List ℕ) × IsOutput script trace written × WritesFront before after written)

abbrev pub OutputCounts : {A : Type 0} → SinkSeen → SinkSeen → Result A Stop → Type 0
OutputCounts before after (Err stop.WriteFault) = Rose before.faults after.faults
OutputCounts before after other = after.faults ≡ before.faults

-- how a trace ends whose output ends so
abbrev pub end_of : {A : Type 0} → Result A Stop → VmEnd
end_of (Ok done) = end.Whole
end_of (Err stop.WriteFault) = end.WriteFault
end_of (Err stop.NoMemory) = end.NoMemory
