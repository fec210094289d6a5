use Rattle.std.proofs.Common.{take}
use Rattle.spin_filter.specs.Inner.Fresh.{AreFresh}
use Rattle.spin_filter.specs.Listing.{bindings_from}
use Rattle.spin_filter.proofs.listing.list_hits.Given as goal

abbrev pub invariant-loop-event : goal.invariant-loop-event
invariant-loop-event g l = AreFresh (bindings_from 0 (take l.event l.version.state.events)) l.hits.items
