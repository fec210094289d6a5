-- Traces as they are answered.
use Rattle.std.specs.Prelude.{◌≡◌, ℕ, List, Result, Ok, Err}
use Rattle.spin_vm.specs.declared.line.TraceLine.{TraceLine}
use Rattle.spin_vm.specs.declared.read.TraceFault.{TraceFault}
use Rattle.spin_vm.specs.declared.read.TraceFault.TheVariants as fault
use Rattle.spin_vm.specs.Traces.{outcome}

-- the answer to a text is what it comes to; want of memory comes at any time
abbrev pub GivesTrace : List ℕ → Result (List TraceLine) TraceFault → Type 0
GivesTrace text (Ok trace) = outcome text ≡ Ok trace
GivesTrace text (Err (fault.Bad line cause)) = outcome text ≡ Err (line, cause)
GivesTrace text (Err fault.NoMemory) = Unit {0}
