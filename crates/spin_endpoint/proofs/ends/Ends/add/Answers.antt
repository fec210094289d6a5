use Rattle.std.proofs.Common.{true, sym, subst}
use Rattle.std.specs.Result.{is_ok}
use Rattle.spin_endpoint.specs.Inner.View.{view_of}
use Rattle.spin_endpoint.proofs.EndpointChanges.{Apart, apart-pushed, stands_at}
use Rattle.spin_endpoint.proofs.ends.Ends.add.Goals as goal

pub invariant_of-self : goal.invariant_of-self
invariant_of-self g c =
    let seen = view_of (λ e. (goal.Endpoint-dyn g (e.object.vtable, e.object.value)).seen e.object.value) in
    let pushed =
    apart-pushed seen c.args.self.now.ends.items (record { name = c.args.name; stands = true; object = c.args.object }) (is_ok c.push.result) c.args.self.now.apart c.in-None.ensures.none in
    record { apart = subst (λ (xs : _). Apart seen xs) (sym c.push.ensures.items) pushed }

pub returns-in-Some-clause-fault : goal.returns-in-Some-clause-fault
returns-in-Some-clause-fault g c = stands_at _ c.args.name c.in-Some.field-0 c.in-Some.ensures.there c.in-Some.ensures.some
