use Rattle.std.proofs.Common.{ap, Err}
use Rattle.spin_inputs.proofs.ShelfLemmas.{too_large_file}
use Rattle.spin_inputs.proofs.files.load.Goals as goal

pub returns-in-Err-TooLarge-clause-large : goal.returns-in-Err-TooLarge-clause-large
returns-in-Err-TooLarge-clause-large g c =
    λ _. too_large_file _ _ _ c.args.limit c.in-Ok.ensures.found (c.in-Err-TooLarge.ensures.large (ap Err c.in-Err-TooLarge.field-0-is))
