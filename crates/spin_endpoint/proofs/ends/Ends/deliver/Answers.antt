use Rattle.spin_endpoint.proofs.EndpointChanges.{changed_at, fails_at}
use Rattle.spin_endpoint.proofs.ends.Ends.deliver.Goals as goal

pub returns-in-Ok : goal.returns-in-Ok
returns-in-Ok g c =
    changed_at _ c.args.self.now.ends.items c.args.name.now _ c.in-Some.at c.index_mut.result.now c.take.new.self
    c.args.self.now.apart c.in-Some.ensures.there c.index_mut.ensures.value c.in-Some.ensures.some c.in-Ok.ensures.ok

pub returns-in-Err : goal.returns-in-Err
returns-in-Err g c =
    fails_at _ c.args.self.now.ends.items c.args.name.now c.in-Some.at c.index_mut.result.now c.take.new.self c.args.self.now.apart
    c.in-Some.ensures.there c.index_mut.ensures.value c.in-Some.ensures.some c.in-Err.ensures.err c.in-Err.ensures.rose
