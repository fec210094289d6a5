use Rattle.spin_endpoint.proofs.EndpointChanges.{changed_at}
use Rattle.spin_endpoint.proofs.ends.Ends.retire.Goals as goal

pub returns-in-Some : goal.returns-in-Some
returns-in-Some g c =
    changed_at _ c.args.self.now.ends.items c.args.name.now _ c.in-Some.at c.index_mut.result.now c.retire.new.self
    c.args.self.now.apart c.in-Some.ensures.there c.index_mut.ensures.value c.in-Some.ensures.some c.retire.ensures
