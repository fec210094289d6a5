use Rattle.std.proofs.Common.{◌≡◌, ℕ, List, length, sym, ap, subst, ◌+◌, ◌≤◌, ◌∙◌}
use Rattle.std.specs.Prelude.{All}
use Rattle.std.specs.List.{AllZip}
use Rattle.std.proofs.lemmas.Slice.Zip.{AllZip-long}
use Rattle.spin_word.specs.declared.row.Row.{Row}
use Rattle.spin_table.specs.Setups.{SetupData}
use Rattle.spin_table.specs.SetupOf.{data_of}
use Rattle.spin_table.specs.States.{State}
use Rattle.spin_jobs.specs.Jobs.{CanRun, IsReplyTo}
use Rattle.spin_report.specs.declared.entry.Entry.{Entry}
use Rattle.spin_report.specs.Segments.{asked_in, IsWoven}
use Rattle.std.proofs.lemmas.List.{length-map}
use Rattle.spin_run.specs.declared.trail.Trail.{Trail}
use Rattle.spin_run.specs.Trails.{AreMarksOf, trail_of, unmarked_trail}
use Rattle.spin_run.specs.Inner.Weaves.{unmarked}
use Rattle.spin_run.specs.Lanes.{AreJobsOf, kept_with}
use Rattle.spin_run.specs.Segments.{front_of, first_of, place_of, jobs_seen, kept_at}
use Rattle.spin_run.proofs.SegmentLemmas.{Facts, Wove, wove, lifted, marks_under, trails_told, met_count, some_lane, known, marks_lanes, marks_order, jobs_lanes, jobs_order, few_jobs, jobs_can_run}
use Rattle.spin_run.proofs.SegmentLemmas.{still_of_hub, woven_made, first, replay_first, jobs_left, front_told, front_after, base_after, place_after, kept_after, state_after, ready_again, room_taken}
use Rattle.spin_run.proofs.ShortRuns.{none_short, on_err}
use Rattle.spin_run.proofs.segment.run_segment.Goals as goal
use Rattle.spin_script.specs.Soundness.{commands_in}

pub meet-requires-clause-seats : goal.meet-requires-clause-seats
meet-requires-clause-seats g c = still_of_hub _ _ _ _ _ _ _ c.requires.ready c.run_lanes.ensures.1

pub weave-requires : goal.weave-requires
weave-requires g c =
    let facts : Facts (data_of c.args.hub.now.setup) c.args.hub.now.log.id c.args.hub.now.log.lanes c.args.segment.now.lines c.args.frames.now c.args.lanes.now c.run_lanes.new.lanes
    c.meet.new.self c.run_lanes.ensures.0
    (some_lane c.args.lanes.now c.requires.ready.some) =
    known _ _ _ _ _ _ _ _ _ c.requires.ready c.requires.lines c.requires.room c.run_lanes.ensures.1 (c.lacked_memory.ensures.had c.if-lacked_memory.false) c.in_ok-meet.ensures.met in
    record {
      marks = marks_lanes _ _ _ _ _ _ _ _ _ _ facts;
      marks_order = marks_order _ _ _ _ _ _ _ _ _ _ facts;
      jobs = jobs_lanes _ _ _ _ _ _ _ _ _ _ facts;
      jobs_order = jobs_order _ _ _ _ _ _ _ _ _ _ facts;
    }

pub run_all-requires-clause-sincere : goal.run_all-requires-clause-sincere
run_all-requires-clause-sincere g c κs within = rw c.setup.ensures c.requires.sincere

pub run_all-requires-clause-few : goal.run_all-requires-clause-few
run_all-requires-clause-few g c κs within =
    let facts : Facts (data_of c.args.hub.now.setup) c.args.hub.now.log.id c.args.hub.now.log.lanes c.args.segment.now.lines c.args.frames.now c.args.lanes.now c.run_lanes.new.lanes
    c.meet.new.self c.run_lanes.ensures.0
    (some_lane c.args.lanes.now c.requires.ready.some) =
    known _ _ _ _ _ _ _ _ _ c.requires.ready c.requires.lines c.requires.room c.run_lanes.ensures.1 (c.lacked_memory.ensures.had c.if-lacked_memory.false) c.in_ok-meet.ensures.met in
    let woven = c.in_ok-trails.ensures in
    let told = lifted _ _ _ _ _ _ _ _ _ _ facts c.in_ok-trails.marks woven.marks in
    let wove : Wove _ _ _ _ _ _ _ _ _ _ facts told.all c.in_ok-trails.jobs =
    wove _ _ _ _ _ _ _ _ _ _ facts told.all c.in_ok-trails.jobs c.in_ok-trails.marks told.pairs told.each (marks_under _ _ _ _ _ _ _ _ _ _ facts c.in_ok-trails.marks woven.marks)
    woven.marks_order woven.jobs woven.jobs_order in
    few_jobs _ _ _ _ _ _ _ _ _ _ facts _ _ wove

pub run_all-requires-clause-jobs : goal.run_all-requires-clause-jobs
run_all-requires-clause-jobs g c κs within =
    let facts : Facts (data_of c.args.hub.now.setup) c.args.hub.now.log.id c.args.hub.now.log.lanes c.args.segment.now.lines c.args.frames.now c.args.lanes.now c.run_lanes.new.lanes
    c.meet.new.self c.run_lanes.ensures.0
    (some_lane c.args.lanes.now c.requires.ready.some) =
    known _ _ _ _ _ _ _ _ _ c.requires.ready c.requires.lines c.requires.room c.run_lanes.ensures.1 (c.lacked_memory.ensures.had c.if-lacked_memory.false) c.in_ok-meet.ensures.met in
    let woven = c.in_ok-trails.ensures in
    let told = lifted _ _ _ _ _ _ _ _ _ _ facts c.in_ok-trails.marks woven.marks in
    let wove : Wove _ _ _ _ _ _ _ _ _ _ facts told.all c.in_ok-trails.jobs =
    wove _ _ _ _ _ _ _ _ _ _ facts told.all c.in_ok-trails.jobs c.in_ok-trails.marks told.pairs told.each (marks_under _ _ _ _ _ _ _ _ _ _ facts c.in_ok-trails.marks woven.marks)
    woven.marks_order woven.jobs woven.jobs_order in
    subst (λ (d : SetupData). All (CanRun d) c.in_ok-trails.jobs) (ap (λ setup. data_of setup) (sym c.setup.ensures)) (jobs_can_run _ _ _ _ _ _ _ _ _ _ facts _ _ wove)

pub returns-in_err-meet-clause-short : goal.returns-in_err-meet-clause-short
returns-in_err-meet-clause-short g c =
    on_err c.from_residual.result (none_short (data_of c.args.hub.now.setup) (asked_in c.args.segment.now.lines c.args.frames.now) c.args.lanes.now c.run_lanes.new.lanes c.meet.new.self
    c.run_lanes.ensures.1.count c.meet.ensures.stops (c.lacked_memory.ensures.had c.if-lacked_memory.false))

pub returns-in_err-trails-clause-short : goal.returns-in_err-trails-clause-short
returns-in_err-trails-clause-short g c =
    on_err c.from_residual-in_err-trails.result (none_short (data_of c.args.hub.now.setup) (asked_in c.args.segment.now.lines c.args.frames.now) c.args.lanes.now c.run_lanes.new.lanes c.weave.new.self
    c.run_lanes.ensures.1.count (c.weave.ensures.stops ∙ c.meet.ensures.stops) (c.lacked_memory.ensures.had c.if-lacked_memory.false))

pub returns-in_err-replies-clause-short : goal.returns-in_err-replies-clause-short
returns-in_err-replies-clause-short g c =
    on_err c.from_residual-in_err-replies.result (none_short (data_of c.args.hub.now.setup) (asked_in c.args.segment.now.lines c.args.frames.now) c.args.lanes.now c.run_lanes.new.lanes c.weave.new.self
    c.run_lanes.ensures.1.count (c.weave.ensures.stops ∙ c.meet.ensures.stops) (c.lacked_memory.ensures.had c.if-lacked_memory.false))

pub returns : goal.returns
returns g c =
    let facts : Facts (data_of c.args.hub.now.setup) c.args.hub.now.log.id c.args.hub.now.log.lanes c.args.segment.now.lines c.args.frames.now c.args.lanes.now c.run_lanes.new.lanes
    c.meet.new.self c.run_lanes.ensures.0
    (some_lane c.args.lanes.now c.requires.ready.some) =
    known _ _ _ _ _ _ _ _ _ c.requires.ready c.requires.lines c.requires.room c.run_lanes.ensures.1 (c.lacked_memory.ensures.had c.if-lacked_memory.false) c.in_ok-meet.ensures.met in
    let woven = c.in_ok-trails.ensures in
    let told = lifted _ _ _ _ _ _ _ _ _ _ facts c.in_ok-trails.marks woven.marks in
    let wove : Wove _ _ _ _ _ _ _ _ _ _ facts told.all c.in_ok-trails.jobs =
    wove _ _ _ _ _ _ _ _ _ _ facts told.all c.in_ok-trails.jobs c.in_ok-trails.marks told.pairs told.each (marks_under _ _ _ _ _ _ _ _ _ _ facts c.in_ok-trails.marks woven.marks)
    woven.marks_order woven.jobs woven.jobs_order in
    let new_front : front_of c.weave.new.self ≡ front_of c.meet.new.self = front_after _ _ _ _ _ _ _ _ _ _ facts c.weave.new.self c.in_ok-trails.ensures.seats c.in_ok-trails.ensures.stops in
    record {
      woven = record {
        entries = told.all;
        trail_count = ap length woven.trails ∙ length-map c.meet.new.self unmarked ∙ met_count _ _ _ _ _ _ _ _ _ _ facts;
        trails_are = λ k lt. ap (λ (trails : List Trail). trail_of trails k) woven.trails ∙ trails_told _ _ _ _ _ _ _ _ _ _ facts k lt
            ∙ ap unmarked_trail (sym (told.each k));
        marks_are = subst (λ (trails : List Trail). AreMarksOf trails c.in_ok-trails.marks told.all) (sym woven.trails) told.pairs;
        kept = λ k lt. kept_after _ _ _ _ _ _ _ _ _ _ facts c.weave.new.self c.in_ok-trails.ensures.seats c.in_ok-trails.ensures.stops c.in_ok-trails.ensures.kept k lt
            ∙ ap (λ (given : List Entry). kept_with (kept_at c.args.lanes.now k) given) (sym (told.each k));
        first_is = base_after _ _ _ _ _ _ _ _ _ _ facts c.weave.new.self c.in_ok-trails.ensures.seats c.in_ok-trails.ensures.stops;
        start = first _ _ _ _ _ _ _ _ _ _ facts;
        start_is = replay_first _ _ _ _ _ _ _ _ _ _ facts;
        answers = subst (λ (after : State). IsWoven (data_of c.args.hub.now.setup) (length c.args.lanes.now) (asked_in c.args.segment.now.lines c.args.frames.now)
            (first _ _ _ _ _ _ _ _ _ _ facts) after told.all (jobs_seen c.in_ok-trails.jobs c.in_ok-replies.replies))
            (sym (state_after _ _ _ _ _ _ _ _ _ _ facts c.weave.new.self c.in_ok-trails.ensures.seats c.in_ok-trails.ensures.stops))
            (woven_made _ _ _ _ _ _ _ _ _ _ facts _ _ wove c.in_ok-replies.replies
            (subst (λ (d : SetupData). AllZip (IsReplyTo d) c.in_ok-trails.jobs c.in_ok-replies.replies) (ap (λ setup. data_of setup) c.setup.ensures) c.in_ok-replies.ensures));
        jobs_are = subst (λ (front : List Row). AreJobsOf (data_of c.args.hub.now.setup) (first_of (data_of c.args.hub.now.setup) c.args.lanes.now) told.all front c.in_ok-trails.jobs) (sym new_front) (jobs_left _ _ _ _ _ _ _ _ _ _ facts _ _ wove);
        front_is = new_front ∙ front_told _ _ _ _ _ _ _ _ _ _ facts _ _ wove;
      };
      replies = AllZip-long (IsReplyTo (data_of c.setup.result.now)) c.in_ok-trails.jobs c.in_ok-replies.replies c.in_ok-replies.ensures;
      ready = ready_again _ _ _ _ _ _ _ _ _ _ facts c.weave.new.self c.in_ok-trails.ensures.seats c.in_ok-trails.ensures.stops c.in_ok-trails.ensures.emptied;
      taken = subst (λ (place : ℕ). place ≤ place_of (data_of c.args.hub.now.setup) c.args.lanes.now + commands_in c.args.segment.now.lines)
          (sym (place_after _ _ _ _ _ _ _ _ _ _ facts c.weave.new.self c.in_ok-trails.ensures.seats c.in_ok-trails.ensures.stops)) (room_taken _ _ _ _ _ _ _ _ _ _ facts);
      short = tt;
    }
