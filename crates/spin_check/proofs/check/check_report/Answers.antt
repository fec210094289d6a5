use Rattle.std.proofs.Common.{◌<◌, ℕ, List, length, sym, ap, subst, ◌∙◌, arith}
use Rattle.std.specs.Prelude.{Decides, bytes_eq}
use Rattle.std.specs.Arc.{arc_value}
use Rattle.std.specs.List.{list_any}
use Rattle.std.specs.Option.{option_map, option_copied}
use Rattle.std.proofs.lemmas.Result.{IfOk-weaker}
use Rattle.spin_endpoint.specs.Sends.{name_of}
use Rattle.spin_table.specs.States.{State, VersionValue}
use Rattle.spin_table.specs.Soundness.{IsSoundVersion}
use Rattle.spin_script.specs.Scripts.{script_seen}
use Rattle.spin_check.specs.RunTexts.{IsRunText, capture_of}
use Rattle.spin_check.specs.Inner.Segments.{Mark}
use Rattle.spin_check.specs.Inner.Remains.{AreLeft}
use Rattle.spin_check.proofs.ReportLemmas.{flags_first, whole_text, no_begin}
use Rattle.spin_check.proofs.check.check_report.Goals as goal

pub returns-in_default : goal.returns-in_default
returns-in_default g c = λ ends named.
    no_begin (script_seen c.args.script.now) (option_map capture_of (option_copied c.args.capture)) ends c.args.report.now c.in_default.ensures

pub are_left-requires-clause-commands : goal.are_left-requires-clause-commands
are_left-requires-clause-commands g c =
    let at = ap (λ (s : State). s.place) (ap (λ (v : VersionValue). v.state) c.in_ok-new.ensures.ok ∙ c.in_ok-version.ensures.start) in
    omega (arith, at, c.requires.commands)

pub are_left-requires-clause-sound : goal.are_left-requires-clause-sound
are_left-requires-clause-sound g c = let script = script_seen c.args.script.now in subst (IsSoundVersion script.setup) (sym c.in_ok-new.ensures.ok) c.in_ok-version.ensures.sound

pub are_left-requires-clause-long : goal.are_left-requires-clause-long
are_left-requires-clause-long g c = c.in_ok-flags_of.ensures.all ∙ ap length c.as_slice.ensures

pub are_left-requires-clause-left : goal.are_left-requires-clause-left
are_left-requires-clause-left g c = let same = ap length c.records_of.ensures in omega (arith, same)

pub returns : goal.returns
returns g c = λ start named.
    let script = script_seen c.args.script.now in
    let capture = option_map capture_of (option_copied c.args.capture) in
    let flags = c.in_ok-flags_of.ensures in
    let mark : Mark = record { state = (arc_value c.in_ok-new.field-0).state; tests = (arc_value c.in_ok-new.field-0).tests; left = c.records_of.result.now; flags = c.in_ok-flags_of.field-0.items; rest = c.in-Some.rest.now } in
    let are = flags_first script c.args.names.now mark.flags start c.requires.orderly (flags.all ∙ ap length c.as_slice.ensures)
    (λ n lt.
    flags.each n (subst (λ (l : List (List ℕ)). n < length l) (sym c.as_slice.ensures) lt)
    ∙ (λ i. list_any (bytes_eq (name_of (c.as_slice.ensures i) n)) (c.as_slice-2.ensures i))) named in
    IfOk-weaker c.are_left.result (λ yes. Decides yes (AreLeft script capture start mark)) (λ yes. Decides yes (IsRunText script capture start c.args.report.now))
    (λ yes decides. whole_text script capture start c.args.report.now mark yes c.in-Some.ensures (ap (λ (v : VersionValue). v.state) c.in_ok-new.ensures.ok ∙ c.in_ok-version.ensures.start) c.records_of.ensures decides)
    (c.are_left.ensures start are)
