use Rattle.std.proofs.Common.{◌≡◌, ◌<◌, ◌++◌, ℕ, List, [], length, refl, sym, ap, subst, ◌∙◌}
use Rattle.std.specs.Prelude.{bytes_eq}
use Rattle.std.specs.Arc.{arc_value}
use Rattle.std.specs.List.{list_any}
use Rattle.std.specs.Option.{option_map, option_copied}
use Rattle.spin_endpoint.specs.Sends.{name_of}
use Rattle.spin_table.specs.States.{VersionValue}
use Rattle.spin_text.specs.Words.{ended}
use Rattle.spin_script.specs.Scripts.{script_seen}
use Rattle.spin_report.specs.Histories.{end_line}
use Rattle.spin_report.specs.Runs.{counts_of, frames_of, start_with}
use Rattle.spin_check.specs.RunTexts.{capture_of}
use Rattle.spin_check.specs.Inner.Standings.{AreFlags}
use Rattle.spin_whole.specs.declared.ran.Ran.{Ran}
use Rattle.spin_whole.specs.declared.segment.Standing.{Standing}
use Rattle.spin_whole.specs.Inner.Standings.{point}
use Rattle.spin_whole.proofs.SegmentSteps.{is_ran}
use Rattle.spin_whole.proofs.run.run_text.Goals as goal

pub returns : goal.returns
returns g c = λ ends named.
    let script = script_seen c.args.script.now in
    let capture = option_map capture_of (option_copied c.args.capture) in
    let flags = c.in_ok-flags_of.ensures in
    let start : Standing =
    record { report = c.in_ok-from_slice.field-0; sends = c.new.result; version = c.in_ok-new.field-0; left = c.records_of.result; flags = c.in_ok-flags_of.field-0 } in
    let now = c.run_segments.new.standing in
    let are : AreFlags script.endpoints ends start.flags.items =
    record {
      all = flags.all ∙ ap length c.as_slice.ensures;
      differ = c.requires.orderly.endpoints.differ;
      each = λ n lt.
          flags.each n (subst (λ (l : List (List ℕ)). n < length l) (sym c.as_slice.ensures) lt)
          ∙ (λ i. list_any (bytes_eq (name_of (c.as_slice.ensures i) n)) (c.as_slice-2.ensures i)) ∙ sym (named n [] lt);
    } in
    let first : (arc_value start.version).state ≡ (start_with script (frames_of capture) ends).state = ap (λ (v : VersionValue). v.state) c.in_ok-new.ensures.ok ∙ c.in_ok-version.ensures.start in
    let at : point start ends ≡ start_with script (frames_of capture) ends = λ i. record { state = first i; left = c.records_of.ensures i; ends = ends } in
    let ran : Ran = record { report = c.put_last.new.report; sends = now.sends } in
    let place : c.place.result ≡ (arc_value now.version).state.place = c.place.ensures ∙ ap (λ (s : VersionValue). s.state.place) c.deref.ensures in
    let last : ran.report ≡ now.report ++ ended (end_line (arc_value now.version).state.place (option_map (counts_of now.left.now) capture)) =
    c.in_ok-put_last.ensures ∙ ap (λ p. now.report ++ ended (end_line p (option_map (counts_of now.left.now) capture))) place in
    is_ran script capture ends start now ran at (c.in_ok-from_slice.ensures (λ x y same. same)) c.new.ensures (c.in_ok-run_segments.ensures.runs ends are) last refl
