use Rattle.std.proofs.Common.{◌≡◌, List, ℕ, length, drop, refl, sym, ap, subst, ◌∙◌, arith}
use Rattle.std.specs.Vec.{with_items}
use Rattle.std.specs.Arc.{arc_value}
use Rattle.std.proofs.lemmas.List.{with_items_is}
use Rattle.std.proofs.lemmas.Result.{on_ok_weaker}
use Rattle.spin_endpoint.specs.Sends.{all_retired}
use Rattle.spin_table.specs.SetupOf.{data_of}
use Rattle.spin_table.specs.States.{State, VersionValue}
use Rattle.spin_script.specs.declared.script.Line.{Line}
use Rattle.spin_script.specs.Soundness.{commands_in}
use Rattle.spin_report.specs.Segments.{asked_in, wanted_by}
use Rattle.spin_check.specs.Inner.Standings.{AreFlags}
use Rattle.spin_whole.specs.declared.segment.Standing.{Standing}
use Rattle.spin_whole.specs.Inner.Parts.{Answers, state_of, by_lane}
use Rattle.spin_whole.specs.Inner.Standings.{KeepsRest, TakesPart}
use Rattle.spin_whole.proofs.LaneAsks.{lanes_few}
use Rattle.spin_whole.proofs.SegmentRuns.{IsBegun, runs_one, is_good}
use Rattle.spin_whole.proofs.segment.Standing.run_segment.Goals as goal

pub answer_lanes-requires-clause-room : goal.answer_lanes-requires-clause-room
answer_lanes-requires-clause-room g c =
    let state : state_of c.new-part.result ≡ (arc_value c.args.self.now.version).state = ap (λ (v : VersionValue). v.state) (ap (λ v. arc_value v) c.new-part.ensures.version ∙ c.in_ok-try_clone.ensures) in
    let few = lanes_few c.args.lanes c.as_slice-lines.result.now c.args.self.now.left.now in
    let same : commands_in c.as_slice-lines.result.now ≡ commands_in c.args.segment.now.lines = ap commands_in c.as_slice-lines.ensures in
    omega (arith, ap (λ (s : State). s.place) state, few, same, c.requires.room)

pub returns-clause-runs : goal.returns-clause-runs
returns-clause-runs g c = λ names ends are.
    let d = data_of c.args.setup.now in
    let old = c.args.self.now in
    let segment = c.args.segment.now in
    let start = c.new-part.result in
    let part = c.answer_lanes.new.self in
    let state : state_of start ≡ (arc_value old.version).state = ap (λ (v : VersionValue). v.state) (ap (λ v. arc_value v) c.new-part.ensures.version ∙ c.in_ok-try_clone.ensures) in
    let begun : IsBegun (arc_value old.version).state start =
    record { state = state; text = c.new-part.ensures.text; sends = c.new-part.ensures.sends; owed = c.new-part.ensures.owed; job_sends = c.new-part.ensures.job_sends } in
    let answers = subst (λ (ls : List Line). Answers d (by_lane c.args.lanes (asked_in ls old.left.now)) start part) c.as_slice-lines.ensures c.in_ok-answer_lanes.ensures.answers in
    let retired = c.in_ok-retire_all.ensures names ends (subst (AreFlags names ends) (sym c.as_mut_slice.ensures.value) are) in
    let new = c.retire_all.new.flags in
    let long : length new ≡ old.flags.len = retired.1.all ∙ sym are.all ∙ sym old.flags.ok.0 in
    let kept : (with_items old.flags new).items ≡ new = with_items_is old.flags new long in
    let mid : Standing = record { report = c.segment_text.new.out; sends = old.sends; version = old.version; left = c.behind-self.result; flags = with_items old.flags new } in
    let flags : AreFlags names (all_retired names c.as_slice.result.now ends) mid.flags.items =
    subst (AreFlags names (all_retired names c.as_slice.result.now ends)) (sym kept) retired.1 in
    let standing = all_retired names segment.retires ends in
    let flags_now = subst (λ (rs : List ℕ). AreFlags names (all_retired names rs ends) mid.flags.items) c.as_slice.ensures flags in
    let at = c.place.ensures ∙ ap (λ (s : VersionValue). s.state.place) c.deref.ensures in
    let left = c.behind-self.ensures ∙ ap (λ (ls : List Line). drop (wanted_by ls) old.left.now) c.as_slice-lines.ensures in
    on_ok_weaker c.take.result
    (λ (takes : TakesPart names standing part mid c.take.new.self).
    runs_one d c.args.lanes segment old start part begun answers names c.args.number c.place.result ends c.as_slice.result.now c.retire_all.new.out mid c.take.new.self
    c.requires.rise at c.as_slice.ensures retired.0 c.in_ok-segment_text.ensures.ok refl left flags takes) (c.take.ensures.takes names standing flags_now)

pub returns-clause-good : goal.returns-clause-good
returns-clause-good g c =
    let d = data_of c.args.setup.now in
    let old = c.args.self.now in
    let start = c.new-part.result in
    let part = c.answer_lanes.new.self in
    let state : state_of start ≡ (arc_value old.version).state = ap (λ (v : VersionValue). v.state) (ap (λ v. arc_value v) c.new-part.ensures.version ∙ c.in_ok-try_clone.ensures) in
    let begun : IsBegun (arc_value old.version).state start =
    record { state = state; text = c.new-part.ensures.text; sends = c.new-part.ensures.sends; owed = c.new-part.ensures.owed; job_sends = c.new-part.ensures.job_sends } in
    let answers = subst (λ (ls : List Line). Answers d (by_lane c.args.lanes (asked_in ls old.left.now)) start part) c.as_slice-lines.ensures c.in_ok-answer_lanes.ensures.answers in
    let flags = with_items old.flags c.retire_all.new.flags in
    let mid : Standing = record { report = c.segment_text.new.out; sends = old.sends; version = old.version; left = c.behind-self.result; flags = flags } in
    let left = c.behind-self.ensures ∙ ap (λ (ls : List Line). drop (wanted_by ls) old.left.now) c.as_slice-lines.ensures in
    on_ok_weaker c.take.result
    (λ (keeps : KeepsRest part mid c.take.new.self).
    is_good d c.args.lanes c.args.segment.now old start part begun answers c.take.new.self c.in_ok-answer_lanes.ensures.sound keeps.version
    (ap (λ f. length f.items) keeps.flags ∙ sym flags.ok.0 ∙ old.flags.ok.0) (ap (λ l. l.now) keeps.left ∙ left)) c.take.ensures.keeps
