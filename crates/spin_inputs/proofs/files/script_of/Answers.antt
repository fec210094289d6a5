use Rattle.std.proofs.Common.{ap, Err}
use Rattle.spin_script.specs.States.{natives_seen}
use Rattle.spin_inputs.proofs.LargeTexts.{bad_as_a_whole}
use Rattle.spin_inputs.proofs.files.script_of.Goals as goal

pub returns-in-Err-TooLarge-clause-refused : goal.returns-in-Err-TooLarge-clause-refused
returns-in-Err-TooLarge-clause-refused g c =
    let stood = rw c.in-Err-TooLarge.field-0-is at c.in-Err-TooLarge.ensures.cause in
    let large = c.in-Err-TooLarge.ensures.large (ap Err c.in-Err-TooLarge.field-0-is) in
    ((record { files = c.in-Err-TooLarge.ensures.files; faults = stood.0; absences = stood.1 }, (large.0, large.1, bad_as_a_whole (natives_seen c.args.natives) large.0 large.2)), c.in-Err-TooLarge.ensures.bound)
