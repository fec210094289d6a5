use Rattle.spin_filter.proofs.FreshHits.{event-fresh}
use Rattle.std.specs.Prelude.{slice_get}
use Rattle.spin_filter.specs.Listing.{default_of}
use Rattle.std.proofs.Common.{◌++◌}
use Rattle.spin_filter.proofs.listing.list_event.Goals as goal

pub returns : goal.returns
returns c = λ listed are.
    event-fresh (slice_get c.args.version.now.state.events c.args.event) c.args.event c.default_of.result c.bindings.result.now listed c.list_bindings.new.hits.items c.default_of.ensures c.bindings.ensures
    (c.in_ok-list_bindings.ensures (listed ++ default_of c.args.event c.default_of.result) (c.in_ok-list_default.ensures listed are))
