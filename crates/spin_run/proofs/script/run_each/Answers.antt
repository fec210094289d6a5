use Rattle.std.proofs.Common.{◌≡◌, ◌≤◌, ℕ, map, length, refl, sym, ap, subst, ◌∙◌, arith, take_all}
use Rattle.std.proofs.lemmas.Result.{err_from_is_err_and}
use Rattle.spin_endpoint.specs.Inner.View.{view_of}
use Rattle.spin_table.specs.SetupOf.{data_of}
use Rattle.spin_script.specs.Soundness.{command_lines}
use Rattle.spin_run.specs.Records.{room_of}
use Rattle.spin_run.specs.Segments.{IsFitSegment, state_of}
use Rattle.spin_run.specs.Inner.Outside.{seen_by, moment_by}
use Rattle.spin_run.specs.Inner.Steps.{setting, script_in, StopsOne, HasTold, HasToldAll}
use Rattle.spin_run.proofs.HeldReferences.{holds_on}
use Rattle.spin_run.proofs.OrderlySegments.{fits, retires_named, commands_more}
use Rattle.spin_run.proofs.FaultCounts.{counts_later}
use Rattle.spin_run.proofs.SegmentRuns.{told_next, one_ends, one_walks}
use Rattle.spin_run.proofs.script.run_each.Goals as goal

pub loop-number-init : goal.loop-number-init
loop-number-init g c = record {
  stands = λ left rest r. (left, r, λ version reader start tally told. told);
  ready = c.requires.ready;
  room = omega (arith, c.requires.start);
  keep = refl;
  same = record { capture = refl; source = refl; out = refl; ends = refl; within = refl };
  reads = refl;
  writes = refl;
  faults = refl;
}

pub run_one-requires-clause-sincere : goal.run_one-requires-clause-sincere
run_one-requires-clause-sincere g c κs lives = c.requires.sincere

pub run_one-requires-clause-ready : goal.run_one-requires-clause-ready
run_one-requires-clause-ready g c κs lives = c.loop-number.invariant.ready

pub run_one-requires-clause-lines : goal.run_one-requires-clause-lines
run_one-requires-clause-lines g c κs lives =
    subst (λ (n : ℕ). IsFitSegment n c.get-segment.result.now.lines) (c.requires.ready.all ∙ sym c.loop-number.invariant.ready.all)
    (fits (script_in (setting (data_of c.args.course.now.hub.now.setup) (length c.args.lanes.now) c.args.course.now.names.now) c.args.segments.now 0)
    c.loop-number.number c.get-segment.result.now c.get-segment.ensures c.requires.orderly c.requires.valid)

pub run_one-requires-clause-room : goal.run_one-requires-clause-room
run_one-requires-clause-room g c =
    let more = commands_more c.args.segments.now c.loop-number.number c.get-segment.result.now c.get-segment.ensures in
    omega (arith, c.loop-number.invariant.room, more.1, c.requires.commands)

pub run_one-requires-clause-few : goal.run_one-requires-clause-few
run_one-requires-clause-few g c κs lives = c.requires.orderly.endpoints.few

pub run_one-requires-clause-retired : goal.run_one-requires-clause-retired
run_one-requires-clause-retired g c κs lives =
    retires_named (script_in (setting (data_of c.args.course.now.hub.now.setup) (length c.args.lanes.now) c.args.course.now.names.now) c.args.segments.now 0)
    c.loop-number.number c.get-segment.result.now c.get-segment.ensures c.requires.orderly

pub run_one-requires-clause-sent : goal.run_one-requires-clause-sent
run_one-requires-clause-sent g c κs lives = c.requires.orderly.endpoints.sent

pub returns-in_err-run_one : goal.returns-in_err-run_one
returns-in_err-run_one g c =
    let all = λ (ends : _). map (view_of (λ e. (goal.Endpoint-dyn g (e.object.vtable, e.object.value)).seen e.object.value)) ends.ends.items in
    let d = data_of c.args.course.now.hub.now.setup in
    let names = c.args.course.now.names.now in
    let s = setting d (length c.args.lanes.now) names in
    let segment = c.get-segment.result.now in
    let number = c.loop-number.number in
    let before = seen_by g.S.Source.seen g.T.Telling.seen all c.args.outside.now in
    let now = moment_by g.S.Source.seen g.T.Telling.seen all (state_of d c.loop-number.lanes) c.loop-number.outside in
    let next = moment_by g.S.Source.seen g.T.Telling.seen all (state_of d c.run_one.new.lanes) c.run_one.new.outside in
    let lanes_are : length c.loop-number.lanes ≡ length c.args.lanes.now = c.loop-number.invariant.ready.all ∙ sym c.requires.ready.all in
    let stop = c.in_err-run_one.field-0.0 in
    let p = err_from_is_err_and c.from_residual.result c.from_residual.ensures.1 in
    rw (p.1, p.2) (record {
      end =
          let one = c.in_err-run_one.ensures.one in
          let before = c.loop-number.invariant.stands one.0 one.1 one.2 in
          let stops = subst (λ (n : ℕ). StopsOne (setting d n names) number segment now next one.0 one.1 stop) lanes_are one.3.0 in (
            before.0,
            one.1,
            before.1,
            λ version reader start tally told.
                let t = (before.2 version reader start tally told).stands in
                one_walks (script_in s c.args.segments.now version) (room_of reader) before.0 one.1 start next.outside tally
                (g.T.Telling.counts c.run_one.new.outside.out.now) s number segment now next one.0 stop stops
                (one_ends (script_in s c.args.segments.now version) reader before.0 one.0 one.1 start number segment now next stop c.get-segment.ensures t one.2 stops one.3.1),
          );
      keep = c.in_err-run_one.ensures.keep ∙ c.loop-number.invariant.keep;
      same = holds_on _ _ _ _ c.loop-number.invariant.same c.in_err-run_one.ensures.same;
      counts = counts_later names stop before now.outside next.outside c.loop-number.invariant.reads c.loop-number.invariant.writes c.loop-number.invariant.faults c.in_err-run_one.ensures.counts;
    })

pub loop-number-preserved : goal.loop-number-preserved
loop-number-preserved g c =
    let all = λ (ends : _). map (view_of (λ e. (goal.Endpoint-dyn g (e.object.vtable, e.object.value)).seen e.object.value)) ends.ends.items in
    let d = data_of c.args.course.now.hub.now.setup in
    let names = c.args.course.now.names.now in
    let s = setting d (length c.args.lanes.now) names in
    let segment = c.get-segment.result.now in
    let number = c.loop-number.number in
    let now = moment_by g.S.Source.seen g.T.Telling.seen all (state_of d c.loop-number.lanes) c.loop-number.outside in
    let next = moment_by g.S.Source.seen g.T.Telling.seen all (state_of d c.run_one.new.lanes) c.run_one.new.outside in
    let lanes_are : length c.loop-number.lanes ≡ length c.args.lanes.now = c.loop-number.invariant.ready.all ∙ sym c.requires.ready.all in
    let more = commands_more c.args.segments.now number segment c.get-segment.ensures in
    let counted = g.T.Telling.counts c.loop-number.outside.out.now in
    let counted' = g.T.Telling.counts c.run_one.new.outside.out.now in
    record {
      stands = λ left rest r.
          let one = c.in_ok-run_one.ensures.one left rest r in
          let before = c.loop-number.invariant.stands one.0 rest one.1 in
          let told_one = subst (λ (n : ℕ). HasTold (setting d n names) number segment now next counted counted' one.0 left) lanes_are one.2.0 in (
            before.0,
            before.1,
            λ version reader start tally told.
                told_next (script_in s c.args.segments.now version) reader before.0 one.0 left start number segment now next tally counted counted' c.get-segment.ensures
                (before.2 version reader start tally told) told_one one.2.1,
          );
      ready = c.in_ok-run_one.ensures.ready;
      room = omega (arith, c.in_ok-run_one.ensures.taken, c.loop-number.invariant.room, more.0);
      keep = c.in_ok-run_one.ensures.keep ∙ c.loop-number.invariant.keep;
      same = holds_on _ _ _ _ c.loop-number.invariant.same c.in_ok-run_one.ensures.same;
      reads = c.in_ok-run_one.ensures.counts.0 ∙ c.loop-number.invariant.reads;
      writes = c.in_ok-run_one.ensures.counts.1 ∙ c.loop-number.invariant.writes;
      faults = c.in_ok-run_one.ensures.counts.2 ∙ c.loop-number.invariant.faults;
    }

pub place-requires : goal.place-requires
place-requires g c =
    let done : length c.args.segments.now ≤ c.loop-number.number = omega arith in
    let whole = ap command_lines (take_all c.loop-number.number c.args.segments.now done) in
    record { ready = c.loop-number.invariant.ready; few = omega (arith, c.loop-number.invariant.room, whole, c.requires.commands) }

pub returns : goal.returns
returns g c =
    let all = λ (ends : _). map (view_of (λ e. (goal.Endpoint-dyn g (e.object.vtable, e.object.value)).seen e.object.value)) ends.ends.items in
    let d = data_of c.args.course.now.hub.now.setup in
    let s = setting d (length c.args.lanes.now) c.args.course.now.names.now in
    let lanes = c.loop-number.lanes in
    let now = moment_by g.S.Source.seen g.T.Telling.seen all (state_of d lanes) c.loop-number.outside in
    let done : c.loop-number.number ≡ length c.args.segments.now = omega arith in
    record {
      end = λ left rest r.
          let h = c.loop-number.invariant.stands left rest r in (
            h.0,
            h.1,
            λ version reader start tally told. (
              state_of d lanes,
              c.place.ensures,
              subst (λ (n : ℕ). HasToldAll (script_in s c.args.segments.now version) reader h.0 left start n now tally (g.T.Telling.counts c.loop-number.outside.out.now)) done
                  (h.2 version reader start tally told),
            ),
          );
      keep = c.loop-number.invariant.keep;
      same = c.loop-number.invariant.same;
      counts = (c.loop-number.invariant.reads, c.loop-number.invariant.writes, c.loop-number.invariant.faults);
    }
