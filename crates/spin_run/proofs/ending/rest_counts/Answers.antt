use Rattle.std.proofs.Common.{◌≡◌, true, rules}
use Rattle.std.specs.Prelude.{is_none}
use Rattle.spin_run.proofs.RunEnds.{counts_none}
use Rattle.spin_run.proofs.ending.rest_counts.Goals as goal

pub returns-then-is_none-clause-answer : goal.returns-then-is_none-clause-answer
returns-then-is_none-clause-answer g c =
    let there : is_none c.args.capture.now ≡ true = search rules in
    counts_none _ _ there
