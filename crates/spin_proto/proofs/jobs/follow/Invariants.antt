use Rattle.std.proofs.Common.{length}
use Rattle.std.specs.List.{flat_map}
use Rattle.spin_table.specs.SetupOf.{data_of}
use Rattle.spin_proto.specs.Replies.{units_in}
use Rattle.spin_proto.specs.Whole.{marks_up, marks_of, raised_after}
use Rattle.spin_proto.specs.Inner.Walks.{OnBounds, UpsRise}
use Rattle.spin_proto.proofs.WalkLemmas.{Owes}
use Rattle.spin_proto.proofs.jobs.follow.Given as goal

abbrev pub invariant-loop-up : goal.invariant-loop-up
invariant-loop-up g l =
    let u = units_in (data_of l.setup) in
    OnBounds (data_of l.setup) l.version.state (λ bounds.
    Owes (marks_of l.event (raised_after l.runner u bounds l.event) l.fn.given) (flat_map (marks_up (raised_after l.runner u bounds l.event)) l.queue.items) l.fn.walk l.walk)
    × UpsRise (length l.version.state.events) l.event l.queue.items

abbrev pub decreases-loop-up : goal.decreases-loop-up
decreases-loop-up g l = length l.queue.items
