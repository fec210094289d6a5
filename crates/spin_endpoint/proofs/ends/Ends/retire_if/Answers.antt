use Rattle.std.proofs.Common.{sym, ◌∙◌}
use Rattle.spin_endpoint.specs.Named.{retired}
use Rattle.spin_endpoint.proofs.ReceivedSends.{none_stands}
use Rattle.spin_endpoint.proofs.ends.Ends.retire_if.Goals as goal

pub returns-in-Err-clause-ends : goal.returns-in-Err-clause-ends
returns-in-Err-clause-ends g c = c.in-Err.ensures.1 ∙ sym (none_stands c.args.name.now retired _ c.in-Err.ensures.0)
