use Rattle.std.proofs.Common.{◌≡◌, ◌++◌, List, length, drop, refl, sym, ap, subst, ◌∙◌}
use Rattle.std.specs.Prelude.{None, Some}
use Rattle.std.specs.Vec.{with_items}
use Rattle.std.specs.Arc.{arc_value}
use Rattle.std.proofs.lemmas.List.{with_items_is}
use Rattle.spin_endpoint.specs.Sends.{all_retired}
use Rattle.spin_table.specs.SetupOf.{data_of}
use Rattle.spin_table.specs.Soundness.{IsSoundVersion}
use Rattle.spin_table.specs.States.{VersionValue}
use Rattle.spin_text.specs.Words.{text_of}
use Rattle.spin_script.specs.declared.script.Line.{Line}
use Rattle.spin_report.specs.Histories.{lost_lines}
use Rattle.spin_report.specs.Segments.{wanted_by}
use Rattle.spin_report.specs.Runs.{retirements, lost_counts}
use Rattle.spin_script.specs.Soundness.{commands_in}
use Rattle.spin_check.specs.Inner.Asks.{commands_left}
use Rattle.spin_check.specs.Inner.Fronts.{IsBehind}
use Rattle.spin_check.specs.Inner.Standings.{AreFlags}
use Rattle.spin_check.specs.Inner.Replays.{At, EndsAt, version_at}
use Rattle.spin_check.specs.Inner.Segments.{Mark, Goes, Passes, IsGoodMark, head_text, version_of}
use Rattle.spin_check.proofs.SegmentLemmas.{TellsTail, head_here, begins, as_many, no_head, no_entries, no_tail, passes, good_mark}
use Rattle.spin_check.proofs.segment.Mark.pass.Goals as goal

pub returns-in_default-clause-goes : goal.returns-in_default-clause-goes
returns-in_default-clause-goes g c =
    let d = data_of c.args.setup.now in
    let i = c.self.inside in
    let now : Mark = record { state = (arc_value i.version).state; tests = (arc_value i.version).tests; left = i.left.now; flags = i.flags.items; rest = i.rest.now } in
    let segment = c.args.segment.now in
    λ names ends are.
    let flags : AreFlags names ends now.flags = subst (λ (m : Mark). AreFlags names ends m.flags) (sym c.self.view_is) are in
    let head = c.in_ok-head.ensures names ends (subst (AreFlags names ends) (sym c.as_mut_slice-flags.ensures.value) flags) in
    let at : c.place-place.result ≡ now.state.place = c.place-place.ensures ∙ ap (λ (t : VersionValue). t.state.place) c.deref.ensures in
    let none = head_here d c.args.lanes names c.args.number segment now ends c.place-place.result c.as_slice.result.now None at c.as_slice.ensures
    (subst (IsBehind (head_text c.args.number c.place-place.result (retirements names c.as_slice.result.now ends)) now.rest) c.in_default.is head.0) in
    subst (λ (m : Mark). Goes d c.args.lanes names c.args.number segment m ends None) c.self.view_is
    (no_head d c.args.lanes names c.args.number segment now ends none)

pub returns-in_default-ran-clause-goes : goal.returns-in_default-ran-clause-goes
returns-in_default-ran-clause-goes g c =
    let d = data_of c.args.setup.now in
    let i = c.self.inside in
    let now : Mark = record { state = (arc_value i.version).state; tests = (arc_value i.version).tests; left = i.left.now; flags = i.flags.items; rest = i.rest.now } in
    let segment = c.args.segment.now in
    λ names ends are.
    let flags : AreFlags names ends now.flags = subst (λ (m : Mark). AreFlags names ends m.flags) (sym c.self.view_is) are in
    let head = c.in_ok-head.ensures names ends (subst (AreFlags names ends) (sym c.as_mut_slice-flags.ensures.value) flags) in
    let at : c.place-place.result ≡ now.state.place = c.place-place.ensures ∙ ap (λ (t : VersionValue). t.state.place) c.deref.ensures in
    let rest = c.in-Some.rest in
    let cut = head_here d c.args.lanes names c.args.number segment now ends c.place-place.result c.as_slice.result.now (Some rest) at c.as_slice.ensures
    (subst (IsBehind (head_text c.args.number c.place-place.result (retirements names c.as_slice.result.now ends)) now.rest) c.in-Some.is head.0) in
    let start = c.new.result in
    let begun = begins d c.args.lanes names c.args.number segment now ends rest.now start c.as_slice-2.result.now c.in_ok-deeds.deeds
    (c.new.ensures.state ∙ ap (λ (v : VersionValue). v.state) c.in_ok-version.ensures) c.new.ensures.queues c.as_slice-2.ensures
    c.in_ok-deeds.ensures.deeds c.new.ensures.rest in
    let none : EndsAt d start None = subst (EndsAt d start) c.in_default-ran.is c.in_ok-ran.ensures in
    subst (λ (m : Mark). Goes d c.args.lanes names c.args.number segment m ends None) c.self.view_is
    (no_entries d c.args.lanes names c.args.number segment now ends rest.now start cut begun none)

pub returns-in_default-tail-clause-goes : goal.returns-in_default-tail-clause-goes
returns-in_default-tail-clause-goes g c =
    let d = data_of c.args.setup.now in
    let i = c.self.inside in
    let now : Mark = record { state = (arc_value i.version).state; tests = (arc_value i.version).tests; left = i.left.now; flags = i.flags.items; rest = i.rest.now } in
    let segment = c.args.segment.now in
    λ names ends are.
    let flags : AreFlags names ends now.flags = subst (λ (m : Mark). AreFlags names ends m.flags) (sym c.self.view_is) are in
    let head = c.in_ok-head.ensures names ends (subst (AreFlags names ends) (sym c.as_mut_slice-flags.ensures.value) flags) in
    let at : c.place-place.result ≡ now.state.place = c.place-place.ensures ∙ ap (λ (t : VersionValue). t.state.place) c.deref.ensures in
    let rest = c.in-Some.rest in
    let cut = head_here d c.args.lanes names c.args.number segment now ends c.place-place.result c.as_slice.result.now (Some rest) at c.as_slice.ensures
    (subst (IsBehind (head_text c.args.number c.place-place.result (retirements names c.as_slice.result.now ends)) now.rest) c.in-Some.is head.0) in
    let start = c.new.result in
    let begun = begins d c.args.lanes names c.args.number segment now ends rest.now start c.as_slice-2.result.now c.in_ok-deeds.deeds
    (c.new.ensures.state ∙ ap (λ (v : VersionValue). v.state) c.in_ok-version.ensures) c.new.ensures.queues c.as_slice-2.ensures
    c.in_ok-deeds.ensures.deeds c.new.ensures.rest in
    let r = c.replay.inside in
    let at_end : At = record { state = (arc_value r.version).state; tests = (arc_value r.version).tests; queues = r.deeds; last = r.last; rest = r.rest.now; owed = r.owed; sends = r.sends; job_sends = r.job_sends } in
    let ended_so : EndsAt d start (Some at_end) = subst (λ (a : At). EndsAt d start (Some a)) (sym c.replay.view_is) (subst (EndsAt d start) c.in-Some-ran.is c.in_ok-ran.ensures) in
    let ends_now = all_retired names segment.retires ends in
    let new = c.behind_head.new.flags in
    let flags_now : AreFlags names ends_now new = subst (λ ns. AreFlags names (all_retired names ns ends) new) c.as_slice.ensures head.1 in
    let long : length new ≡ i.flags.len = as_many names ends ends_now now.flags new flags flags_now ∙ sym i.flags.ok.0 in
    let now_kept : (with_items i.flags new).items ≡ new = with_items_is i.flags new long in
    let flags_kept : AreFlags names ends_now (with_items i.flags new).items = subst (AreFlags names ends_now) (sym now_kept) flags_now in
    let tells : TellsTail at_end (with_items i.flags new).items None = λ ns es sent so same.
    subst (IsBehind (at_end.owed ++ text_of (lost_lines (lost_counts ns es sent))) at_end.rest) c.in_default-tail.is
    (c.in_ok-tail.ensures ns es sent (subst (AreFlags ns es) (sym c.as_slice-flags.ensures.value) so) same) in
    subst (λ (m : Mark). Goes d c.args.lanes names c.args.number segment m ends None) c.self.view_is
    (no_tail d c.args.lanes names c.args.number segment now ends rest.now start at_end cut begun ended_so (with_items i.flags new).items flags_kept tells)

pub returns-clause-goes : goal.returns-clause-goes
returns-clause-goes g c =
    let d = data_of c.args.setup.now in
    let i = c.self.inside in
    let now : Mark = record { state = (arc_value i.version).state; tests = (arc_value i.version).tests; left = i.left.now; flags = i.flags.items; rest = i.rest.now } in
    let segment = c.args.segment.now in
    λ names ends are.
    let flags : AreFlags names ends now.flags = subst (λ (m : Mark). AreFlags names ends m.flags) (sym c.self.view_is) are in
    let head = c.in_ok-head.ensures names ends (subst (AreFlags names ends) (sym c.as_mut_slice-flags.ensures.value) flags) in
    let at : c.place-place.result ≡ now.state.place = c.place-place.ensures ∙ ap (λ (t : VersionValue). t.state.place) c.deref.ensures in
    let rest = c.in-Some.rest in
    let cut = head_here d c.args.lanes names c.args.number segment now ends c.place-place.result c.as_slice.result.now (Some rest) at c.as_slice.ensures
    (subst (IsBehind (head_text c.args.number c.place-place.result (retirements names c.as_slice.result.now ends)) now.rest) c.in-Some.is head.0) in
    let start = c.new.result in
    let begun = begins d c.args.lanes names c.args.number segment now ends rest.now start c.as_slice-2.result.now c.in_ok-deeds.deeds
    (c.new.ensures.state ∙ ap (λ (v : VersionValue). v.state) c.in_ok-version.ensures) c.new.ensures.queues c.as_slice-2.ensures
    c.in_ok-deeds.ensures.deeds c.new.ensures.rest in
    let r = c.replay.inside in
    let at_end : At = record { state = (arc_value r.version).state; tests = (arc_value r.version).tests; queues = r.deeds; last = r.last; rest = r.rest.now; owed = r.owed; sends = r.sends; job_sends = r.job_sends } in
    let ended_so : EndsAt d start (Some at_end) = subst (λ (a : At). EndsAt d start (Some a)) (sym c.replay.view_is) (subst (EndsAt d start) c.in-Some-ran.is c.in_ok-ran.ensures) in
    let ends_now = all_retired names segment.retires ends in
    let new = c.behind_head.new.flags in
    let flags_now : AreFlags names ends_now new = subst (λ ns. AreFlags names (all_retired names ns ends) new) c.as_slice.ensures head.1 in
    let long : length new ≡ i.flags.len = as_many names ends ends_now now.flags new flags flags_now ∙ sym i.flags.ok.0 in
    let now_kept : (with_items i.flags new).items ≡ new = with_items_is i.flags new long in
    let flags_kept : AreFlags names ends_now (with_items i.flags new).items = subst (AreFlags names ends_now) (sym now_kept) flags_now in
    let last = c.in-Some-tail.rest in
    let tells : TellsTail at_end (with_items i.flags new).items (Some last) = λ ns es sent so same.
    subst (IsBehind (at_end.owed ++ text_of (lost_lines (lost_counts ns es sent))) at_end.rest) c.in-Some-tail.is
    (c.in_ok-tail.ensures ns es sent (subst (AreFlags ns es) (sym c.as_slice-flags.ensures.value) so) same) in
    let next : Mark = record { state = (arc_value r.version).state; tests = (arc_value r.version).tests; left = c.in_ok-deeds.left.now; flags = (with_items i.flags new).items; rest = last.now } in
    subst (λ (m : Mark). Passes d c.args.lanes names c.args.number segment m ends next) c.self.view_is
    (passes d c.args.lanes names c.args.number segment now ends rest.now start at_end cut begun ended_so last next flags_kept tells refl
    (c.in_ok-deeds.ensures.left ∙ ap (λ (ls : List Line). drop (wanted_by ls) now.left) c.as_slice-2.ensures) refl)

pub returns-clause-good : goal.returns-clause-good
returns-clause-good g c =
    let d = data_of c.args.setup.now in
    let i = c.self.inside in
    let now : Mark = record { state = (arc_value i.version).state; tests = (arc_value i.version).tests; left = i.left.now; flags = i.flags.items; rest = i.rest.now } in
    let segment = c.args.segment.now in
    let start = c.new.result in
    let r = c.replay.inside in
    let at_end : At = record { state = (arc_value r.version).state; tests = (arc_value r.version).tests; queues = r.deeds; last = r.last; rest = r.rest.now; owed = r.owed; sends = r.sends; job_sends = r.job_sends } in
    let ended_so : EndsAt d start (Some at_end) = subst (λ (a : At). EndsAt d start (Some a)) (sym c.replay.view_is) (subst (EndsAt d start) c.in-Some-ran.is c.in_ok-ran.ensures) in
    let next : Mark = record { state = (arc_value r.version).state; tests = (arc_value r.version).tests; left = c.in_ok-deeds.left.now; flags = (with_items i.flags c.behind_head.new.flags).items; rest = c.in-Some-tail.rest.now } in
    subst (λ (m : Mark). IsGoodMark d segment m (Some next)) c.self.view_is
    (good_mark d segment now next start at_end ended_so (c.new.ensures.state ∙ ap (λ (v : VersionValue). v.state) c.in_ok-version.ensures)
    (ap commands_left c.new.ensures.queues ∙ c.in_ok-deeds.ensures.commands ∙ ap commands_in c.as_slice-2.ensures) refl (sym (with_items i.flags c.behind_head.new.flags).ok.0 ∙ i.flags.ok.0)
    (c.in_ok-deeds.ensures.left ∙ ap (λ (ls : List Line). drop (wanted_by ls) now.left) c.as_slice-2.ensures))

pub run-requires-clause-sound : goal.run-requires-clause-sound
run-requires-clause-sound g c =
    let d = data_of c.args.setup.now in
    let i = c.self.inside in
    let now : Mark = record { state = (arc_value i.version).state; tests = (arc_value i.version).tests; left = i.left.now; flags = i.flags.items; rest = i.rest.now } in
    let state : c.new.result.state ≡ now.state = c.new.ensures.state ∙ ap (λ (v : VersionValue). v.state) c.in_ok-version.ensures in
    let tests : c.new.result.tests ≡ now.tests = c.new.ensures.tests ∙ ap (λ (v : VersionValue). v.tests) c.in_ok-version.ensures in
    let same : version_at c.new.result ≡ version_of now = λ k. record { state = state k; tests = tests k } in
    let own : IsSoundVersion d (version_of now) = subst (λ (m : Mark). IsSoundVersion d (version_of m)) (sym c.self.view_is) c.requires.sound in
    subst (IsSoundVersion d) (sym same) own
