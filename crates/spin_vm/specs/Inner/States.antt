-- What the reading of a line says of the trace so far.
use Rattle.std.specs.Prelude.{◌≡◌, Result, Ok, Err}
use Rattle.spin_vm.specs.declared.cause.TraceCause.{TraceCause}
use Rattle.spin_vm.specs.declared.read.LineFault.{LineFault}
use Rattle.spin_vm.specs.declared.read.LineFault.TheVariants as fault
use Rattle.spin_vm.specs.Traces.{TraceState}

-- a line was read as it should be, and the trace so far is t then; or it is bad
abbrev pub GivesState : {A : Type 0} → Result TraceState TraceCause → Result A LineFault → TraceState
    → Type 0
GivesState came (Ok a) t = came ≡ Ok t
GivesState came (Err (fault.Bad c)) t = came ≡ Err c
GivesState came (Err fault.NoMemory) t = Unit {0}
