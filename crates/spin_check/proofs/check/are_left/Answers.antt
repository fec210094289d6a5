use Rattle.std.proofs.Common.{◌≡◌, ◌<◌, length, get_or, sym, subst, arith}
use Rattle.std.specs.Prelude.{All, Decides}
use Rattle.std.specs.Option.{option_map, option_copied}
use Rattle.std.proofs.lemmas.Option.{get_or_from_slice_get}
use Rattle.std.proofs.lemmas.Result.{IfOk-weaker}
use Rattle.spin_text.specs.Words.{ended}
use Rattle.spin_script.specs.Scripts.{script_seen}
use Rattle.spin_script.specs.Segments.{IsOnLane}
use Rattle.spin_script.specs.Soundness.{IsValidWork}
use Rattle.spin_report.specs.Histories.{end_line}
use Rattle.spin_report.specs.Runs.{counts_of}
use Rattle.spin_check.specs.RunTexts.{capture_of}
use Rattle.spin_check.specs.Inner.Segments.{Goes, IsGoodMark, gone_to}
use Rattle.spin_check.specs.Inner.Remains.{AreLeft}
use Rattle.spin_check.proofs.ReportLemmas.{on_whole_none, on_whole_more, room_here, no_more, whole_end, all_here}
use Rattle.spin_check.proofs.check.are_left.Goals as goal

pub loop-number-init : goal.loop-number-init
loop-number-init g c = on_whole_none (script_seen c.args.script.now) (option_map capture_of (option_copied c.args.capture)) c.args.mark.now c.requires.sound c.requires.long c.requires.left

pub pass-requires-clause-sound : goal.pass-requires-clause-sound
pass-requires-clause-sound g c = c.loop-number.invariant.sound

pub pass-requires-clause-on_lanes : goal.pass-requires-clause-on_lanes
pass-requires-clause-on_lanes g c =
    let script = script_seen c.args.script.now in
    let number = c.loop-number.number in
    let segment = c.get-segment.result.now in
    let lt : number < length script.segments = omega (arith, c.loop-number-test.true, c.len-number-end.ensures) in
    let is : segment ≡ get_or script.segments number segment = sym (get_or_from_slice_get script.segments number segment segment c.get-segment.ensures) in
    let on = all_here (IsOnLane script.lanes) (λ s. s.lines) script.segments number segment lt is c.requires.orderly.lanes.each in
    λ k d within. (on k d within).below

pub pass-requires-clause-few_lanes : goal.pass-requires-clause-few_lanes
pass-requires-clause-few_lanes g c = c.requires.orderly.lanes.few

pub pass-requires-clause-valid : goal.pass-requires-clause-valid
pass-requires-clause-valid g c =
    let script = script_seen c.args.script.now in
    let number = c.loop-number.number in
    let segment = c.get-segment.result.now in
    let lt : number < length script.segments = omega (arith, c.loop-number-test.true, c.len-number-end.ensures) in
    let is : segment ≡ get_or script.segments number segment = sym (get_or_from_slice_get script.segments number segment segment c.get-segment.ensures) in
    all_here (λ line. IsValidWork line.work) (λ s. s.lines) script.segments number segment lt is c.requires.valid

pub pass-requires-clause-retired : goal.pass-requires-clause-retired
pass-requires-clause-retired g c =
    let script = script_seen c.args.script.now in
    let number = c.loop-number.number in
    let segment = c.get-segment.result.now in
    let lt : number < length script.segments = omega (arith, c.loop-number-test.true, c.len-number-end.ensures) in
    let is : segment ≡ get_or script.segments number segment = sym (get_or_from_slice_get script.segments number segment segment c.get-segment.ensures) in
    let on = all_here (λ endpoint. endpoint < length script.endpoints) (λ s. s.retires) script.segments number segment lt is c.requires.orderly.endpoints.retired in
    subst (λ n. All (λ endpoint. endpoint < n) segment.retires) (sym c.loop-number.invariant.long) on

pub pass-requires-clause-few : goal.pass-requires-clause-few
pass-requires-clause-few g c = let long = c.loop-number.invariant.long in omega (arith, long, c.requires.orderly.endpoints.few)

pub pass-requires-clause-room : goal.pass-requires-clause-room
pass-requires-clause-room g c =
    let script = script_seen c.args.script.now in
    let capture = option_map capture_of (option_copied c.args.capture) in
    let number = c.loop-number.number in
    let segment = c.get-segment.result.now in
    let lt : number < length script.segments = omega (arith, c.loop-number-test.true, c.len-number-end.ensures) in
    let is : segment ≡ get_or script.segments number segment = sym (get_or_from_slice_get script.segments number segment segment c.get-segment.ensures) in
    let room = room_here script capture c.args.mark.now number c.loop-number.mark segment lt is c.loop-number.invariant in
    omega (arith, room, c.requires.commands)

pub returns-then-not-went : goal.returns-then-not-went
returns-then-not-went g c = λ start flags.
    let script = script_seen c.args.script.now in
    let capture = option_map capture_of (option_copied c.args.capture) in
    let number = c.loop-number.number in
    let segment = c.get-segment.result.now in
    let lt : number < length script.segments = omega (arith, c.loop-number-test.true, c.len-number-end.ensures) in
    let is : segment ≡ get_or script.segments number segment = sym (get_or_from_slice_get script.segments number segment segment c.get-segment.ensures) in
    let mark = c.loop-number.mark in
    no_more script capture c.args.mark.now number mark segment lt is
    (λ names ends are. subst (λ went. Goes script.setup script.lanes names number segment mark ends (gone_to went c.pass.new.self)) c.if-not-went.true (c.in_ok-went.ensures.goes names ends are))
    c.loop-number.invariant start flags

pub loop-number-preserved : goal.loop-number-preserved
loop-number-preserved g c =
    let script = script_seen c.args.script.now in
    let capture = option_map capture_of (option_copied c.args.capture) in
    let number = c.loop-number.number in
    let segment = c.get-segment.result.now in
    let lt : number < length script.segments = omega (arith, c.loop-number-test.true, c.len-number-end.ensures) in
    let is : segment ≡ get_or script.segments number segment = sym (get_or_from_slice_get script.segments number segment segment c.get-segment.ensures) in
    let mark = c.loop-number.mark in
    let next = c.pass.new.self in
    on_whole_more script capture c.args.mark.now number mark next segment lt is
    (λ names ends are. subst (λ went. Goes script.setup script.lanes names number segment mark ends (gone_to went next)) c.if-not-went.false (c.in_ok-went.ensures.goes names ends are))
    (subst (λ went. IsGoodMark script.setup segment mark (gone_to went next)) c.if-not-went.false c.in_ok-went.ensures.good) c.loop-number.invariant

pub is_end-requires : goal.is_end-requires
is_end-requires g c = record { left = c.loop-number.invariant.left }

pub returns : goal.returns
returns g c = λ start flags.
    let script = script_seen c.args.script.now in
    let capture = option_map capture_of (option_copied c.args.capture) in
    let mark = c.loop-number.mark in
    IfOk-weaker c.is_end.result (λ yes. Decides yes (mark.rest ≡ ended (end_line mark.state.place (option_map (counts_of mark.left) capture))))
    (λ yes. Decides yes (AreLeft script capture start c.args.mark.now))
    (λ yes decides.
    whole_end script capture c.args.mark.now c.loop-number.number mark yes (omega (arith, c.loop-number-test.false, c.len-number-end.ensures))
    (λ ends. decides) c.loop-number.invariant start flags) c.is_end.ensures
