use Rattle.std.proofs.Common.{arith, take}
use Rattle.spin_filter.specs.Listing.{bindings_from}
use Rattle.spin_filter.proofs.FreshHits.{events-fresh}
use Rattle.spin_filter.proofs.listing.list_hits.Goals as goal

pub loop-event-preserved : goal.loop-event-preserved
loop-event-preserved g c =
    let events = c.args.version.now.state.events in
    events-fresh events c.loop-event.event c.list_event.new.hits.items (omega (arith, c.loop-event-test.true, c.events-event-end.ensures, c.requires.state.events))
    (c.in_ok-list_event.ensures (bindings_from 0 (take c.loop-event.event events)) c.loop-event.invariant)
