use Rattle.std.proofs.Common.{◌≡◌, ◌-◌, [], length, fold, reverse}
use Rattle.std.specs.List.{flat_map}
use Rattle.spin_raise.specs.Firing.{as_found, fired, items_by, answer_of}
use Rattle.spin_raise.specs.Progress.{to_come, answer_after}
use Rattle.spin_table.specs.SetupOf.{data_of}
use Rattle.spin_proto.specs.Replies.{units_in}
use Rattle.spin_proto.specs.Whole.{marks_up, marks_of, raised_after}
use Rattle.spin_proto.specs.Inner.Walks.{OnBounds, UpsRise}
use Rattle.spin_proto.proofs.WalkLemmas.{Owes}
use Rattle.spin_proto.proofs.RisingRaises.{FiringsRise}
use Rattle.spin_proto.proofs.rising.+raise_event.Given as goal

abbrev pub decreases-raise_event : goal.decreases-raise_event
decreases-raise_event g l = length l.version.now.state.events - l.event

abbrev pub invariant-turns : goal.invariant-turns
invariant-turns g l =
    let u = units_in (data_of l.setup) in
    let b = as_found l.bound in
    let rest = to_come l.runner u b l.progress in
    let all = fired l.runner u b l.fn.progress.args in
    OnBounds (data_of l.setup) l.version.state (λ bounds.
    Owes (flat_map (λ f. marks_of l.event (raised_after l.runner u bounds l.event) (items_by f)) all)
    (flat_map (λ f. marks_of l.event (raised_after l.runner u bounds l.event) (items_by f)) rest) l.fn.walk l.walk)
    × (fold (answer_after b.merge) l.progress.answer rest ≡ answer_of b.merge all)
    × FiringsRise (length l.version.state.events) l.event rest
    × (l.ups ≡ [])

abbrev pub decreases-turns : goal.decreases-turns
decreases-turns g l = length (to_come l.runner (units_in (data_of l.setup)) (as_found l.bound) l.progress)

abbrev pub invariant-loop-up : goal.invariant-loop-up
invariant-loop-up g l =
    let u = units_in (data_of l.setup) in
    OnBounds (data_of l.setup) l.version.state (λ bounds.
    Owes (flat_map (marks_up (raised_after l.runner u bounds l.event)) (reverse l.initial.ups)) (flat_map (marks_up (raised_after l.runner u bounds l.event)) (reverse l.ups))
    l.initial.walk l.walk)
    × UpsRise (length l.version.state.events) l.event (reverse l.ups)

abbrev pub decreases-loop-up : goal.decreases-loop-up
decreases-loop-up g l = length l.ups
