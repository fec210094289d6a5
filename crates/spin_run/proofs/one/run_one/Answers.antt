use Rattle.std.proofs.Common.{◌≡◌, ◌<◌, List, ◌∷◌, ◌++◌, ℕ, length, map, Ok, Err, refl, sym, ap, subst, ◌∙◌, ◌⊎◌, inr}
use Rattle.std.specs.Prelude.{All}
use Rattle.std.specs.List.{flat_map}
use Rattle.std.proofs.lemmas.Result.{err_from_is_err_and, on_ok_weaker}
use Rattle.spin_endpoint.specs.Inner.View.{view_of}
use Rattle.spin_endpoint.specs.Sends.{SentSeen, all_retired}
use Rattle.spin_text.specs.Words.{ended}
use Rattle.spin_table.specs.SetupOf.{data_of}
use Rattle.spin_report.specs.Lines.{entry_line, job_line}
use Rattle.spin_report.specs.Histories.{retire_line, segment_line, lost_lines}
use Rattle.spin_report.specs.Segments.{wanted_by}
use Rattle.spin_report.specs.Runs.{retirements, sends_of_reply}
use Rattle.spin_run.specs.declared.end.RunEnd.TheVariants as end
use Rattle.spin_run.specs.Segments.{state_of, jobs_seen}
use Rattle.spin_run.specs.declared.trail.EntryIndex.{EntryIndex}
use Rattle.spin_run.specs.declared.trail.Trail.{Trail}
use Rattle.spin_run.specs.Inner.Marks.{IsInTrails, sends_in}
use Rattle.spin_run.specs.Inner.Lining.{counts_to}
use Rattle.spin_run.specs.Inner.Writing.{joined}
use Rattle.spin_run.specs.Inner.Outside.{moment_by}
use Rattle.spin_run.specs.Inner.Steps.{moment, setting}
use Rattle.spin_run.proofs.SentNames.{all_sent}
use Rattle.spin_run.proofs.FaultCounts.{counts_reading, counts_sending, results_telling}
use Rattle.spin_run.proofs.SegmentLemmas.{rest_of_ready, woven_ready}
use Rattle.spin_run.proofs.MarkOrder.{woven_lie}
use Rattle.spin_run.proofs.OneSegment.{HasAnswered, HasLines, sends_are, sends_as, marks_sent, stops_retiring, stops_before, stops_within, stops_behind, stops_sending, one_told}
use Rattle.spin_run.proofs.one.run_one.Goals as goal

pub run_segment-requires-clause-ready : goal.run_segment-requires-clause-ready
run_segment-requires-clause-ready g c κs within = rest_of_ready (data_of c.args.course.now.hub.now.setup) c.args.course.now.hub.now.log.id c.args.course.now.hub.now.log.lanes c.args.lanes.now c.requires.ready

pub send_all-requires-clause-lie : goal.send_all-requires-clause-lie
send_all-requires-clause-lie g c =
    let w = c.in_ok-woven.woven in
    subst (λ (x : List Trail × List EntryIndex). All (IsInTrails x.0) x.1) (λ i. (sym c.as_slice-trails.ensures i, sym c.as_slice-marks.ensures i))
    (woven_lie (length c.args.lanes.now) w.trails w.marks c.in_ok-woven.ensures.woven.entries c.in_ok-woven.ensures.woven.trail_count
    c.in_ok-woven.ensures.woven.marks_are c.in_ok-woven.ensures.woven.answers.lanes_are)

pub send_all-requires-clause-named : goal.send_all-requires-clause-named
send_all-requires-clause-named g c =
    let w = c.in_ok-woven.woven in
    let woven = c.in_ok-woven.ensures.woven in
    let same = marks_sent c.as_slice-trails.result.now w.trails c.as_slice-marks.result.now w.marks woven.entries c.as_slice-replies.result.now w.replies
    c.as_slice-trails.ensures c.as_slice-marks.ensures c.as_slice-replies.ensures woven.marks_are ∙ sends_are woven.entries w.jobs w.replies c.in_ok-woven.ensures.replies in
    subst (λ (x : List SentSeen). All (λ (sent : SentSeen). sent.endpoint < length c.args.course.now.names.now) x) (sym same)
    (all_sent (length c.args.course.now.names.now) (data_of c.args.course.now.hub.now.setup) _ _ woven.entries (jobs_seen w.jobs w.replies) c.requires.sent woven.answers.legal woven.answers.jobs_are)

pub tell-requires : goal.tell-requires
tell-requires g c =
    let w = c.in_ok-woven.woven in
    let woven = c.in_ok-woven.ensures.woven in
    record {
      replies = c.in_ok-woven.ensures.replies;
      few = c.requires.few;
      lie = woven_lie (length c.args.lanes.now) w.trails w.marks woven.entries woven.trail_count woven.marks_are woven.answers.lanes_are;
    }

pub returns-in_err-retired : goal.returns-in_err-retired
returns-in_err-retired g c =
    let d = data_of c.args.course.now.hub.now.setup in
    let all = λ (ends : _). map (view_of (λ e. (goal.Endpoint-dyn g (e.object.vtable, e.object.value)).seen e.object.value)) ends.ends.items in
    let source = g.S.Source.seen in
    let sink = g.T.Telling.seen in
    let s = setting d (length c.args.lanes.now) c.args.course.now.names.now in
    let before = moment_by source sink all (state_of d c.args.lanes.now) c.args.outside.now in
    let after = moment (state_of d c.args.lanes.now) c.args.outside.now.capture.now (source c.args.outside.now.source.now) (sink c.args.outside.now.out.now) (all c.retire.new.ends) in
    let ends = all c.args.outside.now.ends.now in
    let ends' = all c.retire.new.ends in
    let memory = subst (λ (x : List ℕ). (ends' ≡ ends) ⊎ (ends' ≡ all_retired c.args.course.now.names.now x ends)) c.as_slice.ensures c.in_err-retired.ensures.memory in
    let p = err_from_is_err_and c.from_residual.result c.from_residual.ensures.1 in
    rw (p.1, p.2) (record {
      one = stops_before s c.args.number c.args.segment.now before after (g.T.Telling.counts c.args.outside.now.out.now)
          (g.T.Telling.counts c.args.outside.now.out.now) end.NoMemory refl (λ left rest. stops_retiring s c.args.number c.args.segment.now before after left rest refl memory);
      ready = tt;
      taken = tt;
      keep = refl;
      same = record { capture = refl; source = refl; out = refl; ends = refl; within = refl };
      counts = (refl, refl, c.in_err-retired.ensures.faults);
    })

pub returns-in_err-frames : goal.returns-in_err-frames
returns-in_err-frames g c =
    let d = data_of c.args.course.now.hub.now.setup in
    let all = λ (ends : _). map (view_of (λ e. (goal.Endpoint-dyn g (e.object.vtable, e.object.value)).seen e.object.value)) ends.ends.items in
    let source = g.S.Source.seen in
    let sink = g.T.Telling.seen in
    let s = setting d (length c.args.lanes.now) c.args.course.now.names.now in
    let before = moment_by source sink all (state_of d c.args.lanes.now) c.args.outside.now in
    let after = moment (state_of d c.args.lanes.now) c.read_records.new.capture (source c.read_records.new.source) (sink c.args.outside.now.out.now) (all c.retire.new.ends) in
    let retired : all c.retire.new.ends ≡ all_retired c.args.course.now.names.now c.args.segment.now.retires (all c.args.outside.now.ends.now) =
    c.in_ok-retired.ensures.ends ∙ ap (λ x. all_retired c.args.course.now.names.now x (all c.args.outside.now.ends.now)) c.as_slice.ensures in
    let wanted : c.wanted_by-wanted.result ≡ wanted_by c.args.segment.now.lines = c.wanted_by-wanted.ensures ∙ ap wanted_by c.as_slice-2.ensures in
    let p = err_from_is_err_and c.from_residual-in_err-frames.result c.from_residual-in_err-frames.ensures.1 in
    rw (p.1, p.2) (record {
      one = stops_within s c.args.number c.args.segment.now before after (g.T.Telling.counts c.args.outside.now.out.now)
          (g.T.Telling.counts c.args.outside.now.out.now) c.wanted_by-wanted.result c.in_err-frames.field-0.0 refl retired wanted c.in_err-frames.ensures.answer;
      ready = tt;
      taken = tt;
      keep = c.in_err-frames.ensures.keep;
      same = record { capture = refl; source = refl; out = refl; ends = refl; within = refl };
      counts = counts_reading c.args.course.now.names.now c.in_err-frames.field-0.0 before.outside after.outside c.in_err-frames.ensures.cause refl c.in_ok-retired.ensures.faults;
    })

pub returns-in_err-woven : goal.returns-in_err-woven
returns-in_err-woven g c =
    let d = data_of c.args.course.now.hub.now.setup in
    let all = λ (ends : _). map (view_of (λ e. (goal.Endpoint-dyn g (e.object.vtable, e.object.value)).seen e.object.value)) ends.ends.items in
    let source = g.S.Source.seen in
    let sink = g.T.Telling.seen in
    let s = setting d (length c.args.lanes.now) c.args.course.now.names.now in
    let before = moment_by source sink all (state_of d c.args.lanes.now) c.args.outside.now in
    let after = moment (state_of d c.run_segment.new.lanes) c.read_records.new.capture (source c.read_records.new.source) (sink c.args.outside.now.out.now) (all c.retire.new.ends) in
    let retired : all c.retire.new.ends ≡ all_retired c.args.course.now.names.now c.args.segment.now.retires (all c.args.outside.now.ends.now) =
    c.in_ok-retired.ensures.ends ∙ ap (λ x. all_retired c.args.course.now.names.now x (all c.args.outside.now.ends.now)) c.as_slice.ensures in
    let wanted : c.wanted_by-wanted.result ≡ wanted_by c.args.segment.now.lines = c.wanted_by-wanted.ensures ∙ ap wanted_by c.as_slice-2.ensures in
    let p = err_from_is_err_and c.from_residual-in_err-woven.result c.from_residual-in_err-woven.ensures.1 in
    rw (p.1, p.2) (record {
      one = stops_behind s c.args.number c.args.segment.now before after (g.T.Telling.counts c.args.outside.now.out.now) (g.T.Telling.counts c.args.outside.now.out.now) c.in_ok-frames.frames
          c.wanted_by-wanted.result end.NoMemory wanted c.in_ok-frames.ensures.answer (λ left rest _. stops_retiring s c.args.number c.args.segment.now before after left rest refl (inr retired));
      ready = tt;
      taken = tt;
      keep = c.in_ok-frames.ensures.keep;
      same = record { capture = refl; source = refl; out = refl; ends = refl; within = refl };
      counts = (c.in_ok-frames.ensures.cause, refl, c.in_ok-retired.ensures.faults);
    })

pub returns-in_err-lost : goal.returns-in_err-lost
returns-in_err-lost g c =
    let d = data_of c.args.course.now.hub.now.setup in
    let all = λ (ends : _). map (view_of (λ e. (goal.Endpoint-dyn g (e.object.vtable, e.object.value)).seen e.object.value)) ends.ends.items in
    let source = g.S.Source.seen in
    let sink = g.T.Telling.seen in
    let s = setting d (length c.args.lanes.now) c.args.course.now.names.now in
    let before = moment_by source sink all (state_of d c.args.lanes.now) c.args.outside.now in
    let after = moment (state_of d c.run_segment.new.lanes) c.read_records.new.capture (source c.read_records.new.source) (sink c.args.outside.now.out.now) (all c.send_all.new.ends) in
    let retired : all c.retire.new.ends ≡ all_retired c.args.course.now.names.now c.args.segment.now.retires (all c.args.outside.now.ends.now) =
    c.in_ok-retired.ensures.ends ∙ ap (λ x. all_retired c.args.course.now.names.now x (all c.args.outside.now.ends.now)) c.as_slice.ensures in
    let wanted : c.wanted_by-wanted.result ≡ wanted_by c.args.segment.now.lines = c.wanted_by-wanted.ensures ∙ ap wanted_by c.as_slice-2.ensures in
    let w = c.in_ok-woven.woven in
    let woven = c.in_ok-woven.ensures.woven in
    let sends = flat_map (sends_in c.as_slice-trails.result.now) c.as_slice-marks.result.now ++ flat_map sends_of_reply c.as_slice-replies.result.now in
    let same = marks_sent c.as_slice-trails.result.now w.trails c.as_slice-marks.result.now w.marks woven.entries c.as_slice-replies.result.now w.replies
    c.as_slice-trails.ensures c.as_slice-marks.ensures c.as_slice-replies.ensures woven.marks_are in
    let sent = sends_as c.args.course.now.names.now sends _ _ _ (all c.send_all.new.ends) (Err c.in_err-lost.field-0.0) same retired c.in_err-lost.ensures.sends in
    let p = err_from_is_err_and c.from_residual-in_err-lost.result c.from_residual-in_err-lost.ensures.1 in
    rw (p.1, p.2) (record {
      one = stops_behind s c.args.number c.args.segment.now before after (g.T.Telling.counts c.args.outside.now.out.now)
          (g.T.Telling.counts c.args.outside.now.out.now) c.in_ok-frames.frames c.wanted_by-wanted.result c.in_err-lost.field-0.0 wanted c.in_ok-frames.ensures.answer (λ left rest front.
          let answered : HasAnswered s c.args.segment.now before left (state_of d c.run_segment.new.lanes) woven.entries w.jobs w.replies c.in_ok-frames.frames = record {
            read = front;
            woven = woven_ready d c.args.course.now.hub.now.log.id c.args.course.now.hub.now.log.lanes c.args.lanes.now _ _ _ _ c.requires.ready (woven.start, woven.start_is, woven.answers);
            replies_are = c.in_ok-woven.ensures.replies;
          } in
          stops_sending s c.args.number c.args.segment.now before after left c.in_ok-frames.frames rest
          (state_of d c.run_segment.new.lanes) woven.entries w.jobs w.replies c.in_err-lost.field-0.0 refl answered sent);
      ready = tt;
      taken = tt;
      keep = c.in_ok-frames.ensures.keep;
      same = record { capture = refl; source = refl; out = refl; ends = refl; within = refl };
      counts = counts_sending c.args.course.now.names.now sends c.in_err-lost.field-0.0 before.outside after.outside
          (all c.retire.new.ends) c.in_ok-frames.ensures.cause refl c.in_ok-retired.ensures.faults c.in_err-lost.ensures.sends;
    })

pub returns : goal.returns
returns g c =
    let d = data_of c.args.course.now.hub.now.setup in
    let all = λ (ends : _). map (view_of (λ e. (goal.Endpoint-dyn g (e.object.vtable, e.object.value)).seen e.object.value)) ends.ends.items in
    let source = g.S.Source.seen in
    let sink = g.T.Telling.seen in
    let s = setting d (length c.args.lanes.now) c.args.course.now.names.now in
    let before = moment_by source sink all (state_of d c.args.lanes.now) c.args.outside.now in
    let after = moment (state_of d c.run_segment.new.lanes) c.read_records.new.capture (source c.read_records.new.source) (sink c.tell.new.self) (all c.send_all.new.ends) in
    let retired : all c.retire.new.ends ≡ all_retired c.args.course.now.names.now c.args.segment.now.retires (all c.args.outside.now.ends.now) =
    c.in_ok-retired.ensures.ends ∙ ap (λ x. all_retired c.args.course.now.names.now x (all c.args.outside.now.ends.now)) c.as_slice.ensures in
    let wanted : c.wanted_by-wanted.result ≡ wanted_by c.args.segment.now.lines = c.wanted_by-wanted.ensures ∙ ap wanted_by c.as_slice-2.ensures in
    let w = c.in_ok-woven.woven in
    let woven = c.in_ok-woven.ensures.woven in
    let same = marks_sent c.as_slice-trails.result.now w.trails c.as_slice-marks.result.now w.marks woven.entries c.as_slice-replies.result.now w.replies
    c.as_slice-trails.ensures c.as_slice-marks.ensures c.as_slice-replies.ensures woven.marks_are in
    let sent = sends_as c.args.course.now.names.now _ _ _ _ (all c.send_all.new.ends) (Ok c.in_ok-lost.lost) same retired c.in_ok-lost.ensures.sends in
    let told = c.tell.ensures.told woven.entries woven.marks_are in
    let counts = c.tell.ensures.counts woven.entries woven.marks_are in
    let lines_told = c.in_ok-retired.retired ++ map ended
    (segment_line c.args.number c.place-start.result ∷ map entry_line woven.entries ++ map job_line (jobs_seen w.jobs w.replies) ++ lost_lines
    (counts_to c.in_ok-lost.lost (length c.args.course.now.names.now))) in
    let made : HasLines s c.args.number c.args.segment.now before woven.entries w.jobs w.replies c.in_ok-lost.lost c.in_ok-retired.retired lines_told = record {
      few = c.requires.few;
      retired_are = c.in_ok-retired.ensures.lines ∙ ap (λ x. map ended (map retire_line (retirements c.args.course.now.names.now x (all c.args.outside.now.ends.now)))) c.as_slice.ensures;
      start = c.place-start.result;
      start_is = c.place-start.ensures;
      lines_are = refl;
    } in
    record {
      one = one_told s c.args.number c.args.segment.now before after c.in_ok-frames.frames woven.entries w.jobs w.replies c.in_ok-lost.lost c.in_ok-retired.retired lines_told c.wanted_by-wanted.result
          (λ left front. record {
            read = front;
            woven = woven_ready d c.args.course.now.hub.now.log.id c.args.course.now.hub.now.log.lanes c.args.lanes.now _ _ _ _ c.requires.ready (woven.start, woven.start_is, woven.answers);
            replies_are = c.in_ok-woven.ensures.replies;
          })
          (record { sent = sent }) made wanted c.in_ok-frames.ensures.answer _ _ c.tell.result told counts;
      ready = on_ok_weaker c.tell.result (λ _. c.in_ok-woven.ensures.ready) counts;
      taken = on_ok_weaker c.tell.result (λ _. c.in_ok-woven.ensures.taken) counts;
      keep = c.in_ok-frames.ensures.keep;
      same = record { capture = refl; source = refl; out = refl; ends = refl; within = c.tell.ensures.same };
      counts = results_telling c.args.course.now.names.now (joined lines_told) c.tell.result before.outside after.outside c.in_ok-frames.ensures.cause
          (c.in_ok-lost.ensures.counts ∙ c.in_ok-retired.ensures.faults) told c.tell.ensures.cause;
    }
