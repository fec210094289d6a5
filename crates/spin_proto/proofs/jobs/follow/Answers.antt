use Rattle.std.proofs.Common.{length, ◌∙◌}
use Rattle.spin_table.specs.SetupOf.{data_of}
use Rattle.spin_proto.specs.Replies.{units_in}
use Rattle.spin_proto.specs.Whole.{raised_after}
use Rattle.spin_proto.proofs.RaiseTurns.{follow_on, follow_spent, follow_waits, follow_rises, notes_short, rest_rises}
use Rattle.spin_proto.proofs.jobs.follow.Goals as goal

pub returns-then-not-branch : goal.returns-then-not-branch
returns-then-not-branch g c = λ bounds are.
    let a = c.args in
    notes_short a.event (raised_after a.runner (units_in (data_of a.setup.now)) bounds a.event) a.given.now _ (rw c.if-not-branch.true at c.in_ok-note_items.ensures)

pub loop-up-init : goal.loop-up-init
loop-up-init g c =
    let a = c.args in
    let notes = rw c.if-not-branch.false at c.in_ok-note_items.ensures in
    let waiting = c.from-queue.ensures.0 ∙ c.into_vec.ensures in (
      (λ bounds are. follow_waits a.event (raised_after a.runner (units_in (data_of a.setup.now)) bounds a.event) a.given.now _ _ _ _ waiting notes),
      follow_rises (length a.version.now.state.events) a.event a.given.now _ _ waiting notes.0 c.requires.rise,
    )

pub returns-in-None : goal.returns-in-None
returns-in-None g c = λ bounds are.
    let a = c.args in
    let came = rw c.in-None.is at c.in_ok-raise_event.ensures in
    follow_spent a.runner (units_in (data_of a.setup.now)) bounds (length a.version.now.state.events) a.event _ c.in-Some.up _ c.pop_front.new.self.items _ _ _ c.raise_event.new.walk
    c.in-Some.ensures.items c.loop-up.invariant.1 (c.loop-up.invariant.0 bounds are) c.in_ok-note.ensures (came bounds are)

pub loop-up-preserved : goal.loop-up-preserved
loop-up-preserved g c =
    let a = c.args in
    let came = rw c.in-Some-2.is at c.in_ok-raise_event.ensures in (
      (λ bounds are.
          follow_on a.runner (units_in (data_of a.setup.now)) bounds (length a.version.now.state.events) a.event _ c.in-Some.up _ c.pop_front.new.self.items c.in-Some-2.answer _ _ _ _ _
          c.in-Some.ensures.items c.loop-up.invariant.1 (c.loop-up.invariant.0 bounds are) c.in_ok-note.ensures (came bounds are) c.in_ok-note-in-Some-2.ensures),
      rest_rises (length a.version.now.state.events) a.event c.in-Some.up _ c.pop_front.new.self.items c.in-Some.ensures.items c.loop-up.invariant.1,
    )
