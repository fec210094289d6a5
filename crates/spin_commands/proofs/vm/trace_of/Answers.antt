use Rattle.std.proofs.Common.{ap, Err}
use Rattle.spin_commands.proofs.VmCauses.{large_trace}
use Rattle.spin_commands.proofs.vm.trace_of.Goals as goal

pub returns-in-Err-TooLarge-clause-refused : goal.returns-in-Err-TooLarge-clause-refused
returns-in-Err-TooLarge-clause-refused g c =
    let stood = rw c.in-Err-TooLarge.field-0-is at c.in-Err-TooLarge.ensures.cause in
    let large = c.in-Err-TooLarge.ensures.large (ap Err c.in-Err-TooLarge.field-0-is) in
    (record { files = c.in-Err-TooLarge.ensures.files; faults = stood.0; absences = stood.1 }, large_trace _ _ large)
