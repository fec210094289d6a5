use Rattle.std.proofs.Common.{◌≡◌, ◌<◌, length, get_or, sym, subst, ◌∙◌, arith}
use Rattle.std.specs.Prelude.{All}
use Rattle.std.proofs.lemmas.Option.{get_or_from_slice_get}
use Rattle.spin_script.specs.Scripts.{script_seen}
use Rattle.spin_script.specs.Soundness.{IsValidWork}
use Rattle.spin_whole.proofs.SegmentLines.{all_here, pairs_here}
use Rattle.spin_whole.proofs.SegmentSteps.{has_run_none, has_run_more, has_run_all, on_way_none, on_way_more, room_here}
use Rattle.spin_whole.proofs.run.run_segments.Goals as goal

pub loop-number-init : goal.loop-number-init
loop-number-init g c =
    let script = script_seen c.args.script.now in
    let start = c.args.standing.now in
    (on_way_none script.setup script.segments start c.requires.sound, λ ends flags. has_run_none script ends start flags)

pub run_segment-requires-clause-sound : goal.run_segment-requires-clause-sound
run_segment-requires-clause-sound g c = c.loop-number.invariant.0.sound

pub run_segment-requires-clause-rise : goal.run_segment-requires-clause-rise
run_segment-requires-clause-rise g c =
    let script = script_seen c.args.script.now in
    let number = c.loop-number.number in
    let segment = c.get-segment.result.now in
    let lt : number < length script.segments = omega (arith, c.loop-number-test.true, c.len-number-end.ensures) in
    pairs_here (λ line later. line.number < later.number) (λ s. s.lines) script.segments number segment lt (get_or_from_slice_get script.segments number segment segment c.get-segment.ensures)
    c.requires.orderly.numbers

pub run_segment-requires-clause-valid : goal.run_segment-requires-clause-valid
run_segment-requires-clause-valid g c =
    let script = script_seen c.args.script.now in
    let number = c.loop-number.number in
    let segment = c.get-segment.result.now in
    let lt : number < length script.segments = omega (arith, c.loop-number-test.true, c.len-number-end.ensures) in
    all_here (λ line. IsValidWork line.work) (λ s. s.lines) script.segments number segment lt (get_or_from_slice_get script.segments number segment segment c.get-segment.ensures) c.requires.valid

pub run_segment-requires-clause-retired : goal.run_segment-requires-clause-retired
run_segment-requires-clause-retired g c =
    let script = script_seen c.args.script.now in
    let number = c.loop-number.number in
    let segment = c.get-segment.result.now in
    let lt : number < length script.segments = omega (arith, c.loop-number-test.true, c.len-number-end.ensures) in
    let on = all_here (λ endpoint. endpoint < length script.endpoints) (λ s. s.retires) script.segments number segment lt (get_or_from_slice_get script.segments number segment segment c.get-segment.ensures)
    c.requires.orderly.endpoints.retired in
    let long : length c.loop-number.standing.flags.items ≡ length script.endpoints = c.loop-number.invariant.0.long ∙ c.requires.long in
    subst (λ n. All (λ endpoint. endpoint < n) segment.retires) (sym long) on

pub run_segment-requires-clause-few : goal.run_segment-requires-clause-few
run_segment-requires-clause-few g c =
    let long = c.loop-number.invariant.0.long in
    omega (arith, long, c.requires.long, c.requires.orderly.endpoints.few)

pub run_segment-requires-clause-room : goal.run_segment-requires-clause-room
run_segment-requires-clause-room g c =
    let script = script_seen c.args.script.now in
    let number = c.loop-number.number in
    let segment = c.get-segment.result.now in
    let lt : number < length script.segments = omega (arith, c.loop-number-test.true, c.len-number-end.ensures) in
    let room = room_here script.setup script.segments c.args.standing.now number c.loop-number.standing segment lt
    (get_or_from_slice_get script.segments number segment segment c.get-segment.ensures) c.loop-number.invariant.0 in
    omega (arith, room, c.requires.commands)

pub loop-number-preserved : goal.loop-number-preserved
loop-number-preserved g c =
    let script = script_seen c.args.script.now in
    let start = c.args.standing.now in
    let number = c.loop-number.number in
    let now = c.loop-number.standing in
    let next = c.run_segment.new.self in
    let segment = c.get-segment.result.now in
    let lt : number < length script.segments = omega (arith, c.loop-number-test.true, c.len-number-end.ensures) in
    let is : get_or script.segments number segment ≡ segment = get_or_from_slice_get script.segments number segment segment c.get-segment.ensures in (
      on_way_more script.setup script.segments start number now next segment lt is c.in_ok-run_segment.ensures.good c.loop-number.invariant.0,
      λ ends flags. has_run_more script ends start number now next segment lt is c.in_ok-run_segment.ensures.runs (c.loop-number.invariant.1 ends flags),
    )

pub returns-clause-runs : goal.returns-clause-runs
returns-clause-runs g c = λ ends flags.
    has_run_all (script_seen c.args.script.now) ends c.args.standing.now c.loop-number.number c.loop-number.standing
    (omega (arith, c.loop-number-test.false, c.len-number-end.ensures)) (c.loop-number.invariant.1 ends flags)

pub returns-clause-left : goal.returns-clause-left
returns-clause-left g c = c.loop-number.invariant.0.left
