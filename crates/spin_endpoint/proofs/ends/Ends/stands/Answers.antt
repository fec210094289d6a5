use Rattle.std.proofs.Common.{sym}
use Rattle.spin_endpoint.proofs.EndpointChanges.{stands_at}
use Rattle.spin_endpoint.proofs.ends.Ends.stands.Goals as goal

pub returns-in-Some : goal.returns-in-Some
returns-in-Some g c = sym (stands_at _ c.args.name.now c.in-Some._at c.in-Some.ensures.there c.in-Some.ensures.some)

pub returns : goal.returns
returns g c = sym c.in_default.ensures.none
