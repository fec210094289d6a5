use Rattle.std.proofs.Common.{map, Ok, Err}
use Rattle.spin_endpoint.specs.Inner.View.{view_of}
use Rattle.spin_run.specs.declared.end.RunEnd.TheVariants as end
use Rattle.spin_run.proofs.FaultCounts.{sends_counted}
use Rattle.spin_run.proofs.sends.send_all.Goals as goal

pub returns-in-Ok-clause-counts : goal.returns-in-Ok-clause-counts
returns-in-Ok-clause-counts g c =
    let all = λ (ends : _). map (view_of (λ e. (goal.Endpoint-dyn g (e.object.vtable, e.object.value)).seen e.object.value)) ends in
    sends_counted c.args.names.now c.as_slice.result.now (all c.args.ends.now.ends.items) (all c.deliver_all.new.self.ends.items) (Ok c.in-Ok.lost) c.in-Ok.ensures

pub returns-clause-counts : goal.returns-clause-counts
returns-clause-counts g c =
    let all = λ (ends : _). map (view_of (λ e. (goal.Endpoint-dyn g (e.object.vtable, e.object.value)).seen e.object.value)) ends in
    sends_counted c.args.names.now c.as_slice.result.now (all c.args.ends.now.ends.items) (all c.deliver_all.new.self.ends.items) (Err (end.Endpoint c.in-Err.endpoint)) c.in-Err.ensures
