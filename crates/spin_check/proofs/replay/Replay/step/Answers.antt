use Rattle.std.proofs.Common.{◌≤◌, ◌+◌, true, false, length, refl, sym, ap, subst, arith}
use Rattle.std.specs.Prelude.{All, None, Some}
use Rattle.std.specs.Arc.{arc_value}
use Rattle.spin_word.specs.declared.command.TheConstants.{MAX_LANES, MAX_PLACE}
use Rattle.spin_table.specs.SetupOf.{data_of}
use Rattle.spin_table.specs.Soundness.{IsSoundVersion}
use Rattle.spin_check.specs.Inner.Asks.{IsValid, commands_left}
use Rattle.spin_check.specs.Inner.Replays.{At, DidJobs, IsFound, GoesOn, version_at}
use Rattle.spin_check.proofs.JobCounts.{entry_few}
use Rattle.spin_check.proofs.ReplaySteps.{no_room, goes_on}
use Rattle.spin_check.proofs.replay.Replay.step.Goals as goal

pub next_entry-requires-clause-sound : goal.next_entry-requires-clause-sound
next_entry-requires-clause-sound g c = subst (λ (a : At). IsSoundVersion (data_of c.args.setup.now) (version_at a)) (sym c.self.view_is) c.requires.sound

pub next_entry-requires-clause-valid : goal.next_entry-requires-clause-valid
next_entry-requires-clause-valid g c = subst (λ (a : At). All (λ queue. All IsValid queue) a.queues) (sym c.self.view_is) c.requires.valid

pub next_entry-requires-clause-lanes : goal.next_entry-requires-clause-lanes
next_entry-requires-clause-lanes g c = subst (λ (a : At). length a.queues ≤ MAX_LANES) (sym c.self.view_is) c.requires.lanes

pub next_entry-requires-clause-room : goal.next_entry-requires-clause-room
next_entry-requires-clause-room g c = subst (λ (a : At). a.state.place + commands_left a.queues ≤ MAX_PLACE) (sym c.self.view_is) c.requires.room

pub returns-in_default : goal.returns-in_default
returns-in_default g c =
    let d = data_of c.args.setup.now in
    let i = c.self.inside in
    let now : At = record { state = (arc_value i.version).state; tests = (arc_value i.version).tests; queues = i.deeds; last = i.last; rest = i.rest.now; owed = i.owed; sends = i.sends; job_sends = i.job_sends } in
    let none : IsFound d now c.next_entry.new.deeds None = subst (IsFound d now c.next_entry.new.deeds) c.in_default.is (c.in_ok-next.ensures i.owed i.sends i.job_sends) in
    subst (λ (a : At). GoesOn d a None) c.self.view_is (λ e next more h own jobs. absurd (none e next more h))

pub do_jobs-requires-clause-sound : goal.do_jobs-requires-clause-sound
do_jobs-requires-clause-sound g c =
    let d = data_of c.args.setup.now in
    let i = c.self.inside in
    let now : At = record { state = (arc_value i.version).state; tests = (arc_value i.version).tests; queues = i.deeds; last = i.last; rest = i.rest.now; owed = i.owed; sends = i.sends; job_sends = i.job_sends } in
    let found : IsFound d now c.next_entry.new.deeds (Some (c.in-Some.answered, c.in-Some.rest)) =
    subst (IsFound d now c.next_entry.new.deeds) c.in-Some.is (c.in_ok-next.ensures i.owed i.sends i.job_sends) in
    found.2

pub do_jobs-requires-clause-belong : goal.do_jobs-requires-clause-belong
do_jobs-requires-clause-belong g c =
    let d = data_of c.args.setup.now in
    let i = c.self.inside in
    let now : At = record { state = (arc_value i.version).state; tests = (arc_value i.version).tests; queues = i.deeds; last = i.last; rest = i.rest.now; owed = i.owed; sends = i.sends; job_sends = i.job_sends } in
    let found : IsFound d now c.next_entry.new.deeds (Some (c.in-Some.answered, c.in-Some.rest)) =
    subst (IsFound d now c.next_entry.new.deeds) c.in-Some.is (c.in_ok-next.ensures i.owed i.sends i.job_sends) in
    found.3

pub do_jobs-requires-clause-few : goal.do_jobs-requires-clause-few
do_jobs-requires-clause-few g c =
    let d = data_of c.args.setup.now in
    let i = c.self.inside in
    let now : At = record { state = (arc_value i.version).state; tests = (arc_value i.version).tests; queues = i.deeds; last = i.last; rest = i.rest.now; owed = i.owed; sends = i.sends; job_sends = i.job_sends } in
    let found : IsFound d now c.next_entry.new.deeds (Some (c.in-Some.answered, c.in-Some.rest)) =
    subst (IsFound d now c.next_entry.new.deeds) c.in-Some.is (c.in_ok-next.ensures i.owed i.sends i.job_sends) in
    let answered = c.in-Some.answered in
    let few = entry_few d now.state answered.entry.what (arc_value answered.version).state found.0.answers.0 in
    omega (arith, few)

pub returns-then-not-fits : goal.returns-then-not-fits
returns-then-not-fits g c =
    let d = data_of c.args.setup.now in
    let i = c.self.inside in
    let now : At = record { state = (arc_value i.version).state; tests = (arc_value i.version).tests; queues = i.deeds; last = i.last; rest = i.rest.now; owed = i.owed; sends = i.sends; job_sends = i.job_sends } in
    let found : IsFound d now c.next_entry.new.deeds (Some (c.in-Some.answered, c.in-Some.rest)) =
    subst (IsFound d now c.next_entry.new.deeds) c.in-Some.is (c.in_ok-next.ensures i.owed i.sends i.job_sends) in
    let answered = c.in-Some.answered in
    let short : DidJobs d (arc_value answered.version).state answered.entry (length c.in-Some.rest.now) (i.owed, i.job_sends) (c.do_jobs.new.out, c.do_jobs.new.sends) false =
    subst (DidJobs d (arc_value answered.version).state answered.entry (length c.in-Some.rest.now) (i.owed, i.job_sends) (c.do_jobs.new.out, c.do_jobs.new.sends)) c.if-not-fits.true c.in_ok-fits.ensures in
    subst (λ (a : At). GoesOn d a None) c.self.view_is
    (no_room d now c.next_entry.new.deeds answered c.in-Some.rest found short)

pub returns : goal.returns
returns g c =
    let d = data_of c.args.setup.now in
    let i = c.self.inside in
    let now : At = record { state = (arc_value i.version).state; tests = (arc_value i.version).tests; queues = i.deeds; last = i.last; rest = i.rest.now; owed = i.owed; sends = i.sends; job_sends = i.job_sends } in
    let found : IsFound d now c.next_entry.new.deeds (Some (c.in-Some.answered, c.in-Some.rest)) =
    subst (IsFound d now c.next_entry.new.deeds) c.in-Some.is (c.in_ok-next.ensures i.owed i.sends i.job_sends) in
    let answered = c.in-Some.answered in
    let after : At = record {
      state = (arc_value answered.version).state;
      tests = (arc_value answered.version).tests;
      queues = c.next_entry.new.deeds;
      last = Some c.moment.result;
      rest = c.in-Some.rest.now;
      owed = c.do_jobs.new.out;
      sends = c.add_of_entry.new.sends;
      job_sends = c.do_jobs.new.sends;
    } in
    let jobs : DidJobs d (arc_value answered.version).state answered.entry (length c.in-Some.rest.now) (i.owed, i.job_sends) (c.do_jobs.new.out, c.do_jobs.new.sends) true =
    subst (DidJobs d (arc_value answered.version).state answered.entry (length c.in-Some.rest.now) (i.owed, i.job_sends) (c.do_jobs.new.out, c.do_jobs.new.sends)) c.if-not-fits.false c.in_ok-fits.ensures in
    subst (λ (a : At). GoesOn d a (Some after)) c.self.view_is
    (goes_on d now after answered c.in-Some.rest jobs.0 found refl (ap Some c.moment.ensures) refl jobs.1 jobs.2 c.in_ok-add_of_entry.ensures jobs.3)
