use Rattle.std.proofs.Common.{List, ℕ, Bool, Decides, sym, subst}
use Rattle.std.specs.Prelude.{option_map}
use Rattle.spin_check.specs.RunTexts.{IsRunText, StandAs, capture_of}
use Rattle.spin_script.specs.Scripts.{script_seen}
use Rattle.spin_c.proofs.judge.judge.Goals as goal

pub returns-in-Ok-true : goal.returns-in-Ok-true
returns-in-Ok-true g c =
    let script = script_seen c.in-Ok.case.script in
    let capture = option_map capture_of c.in-Ok.case.capture in
    record {
      script = script;
      read = c.in-Ok.ensures.script;
      capture = capture;
      captured = c.in-Ok.ensures.captured;
      judged = λ ends named.
          let names = subst (λ (names : List (List ℕ)). StandAs script.endpoints names ends) (sym c.in-Ok.ensures.names) named in
          let found = subst (λ read. Decides c.in-Ok-true.field-0 (IsRunText script (option_map capture_of read) ends c.args.report.now)) c.as_ref.ensures.value (c.in-Ok-true.ensures ends names) in
          subst (λ (yes : Bool). Decides yes (IsRunText script capture ends c.args.report.now)) c.in-Ok-true.field-0-test found;
    }

pub returns-in-Ok-false : goal.returns-in-Ok-false
returns-in-Ok-false g c =
    let script = script_seen c.in-Ok.case.script in
    let capture = option_map capture_of c.in-Ok.case.capture in
    record {
      script = script;
      read = c.in-Ok.ensures.script;
      capture = capture;
      captured = c.in-Ok.ensures.captured;
      judged = λ ends named.
          let names = subst (λ (names : List (List ℕ)). StandAs script.endpoints names ends) (sym c.in-Ok.ensures.names) named in
          let found = subst (λ read. Decides c.in-Ok-false.field-0 (IsRunText script (option_map capture_of read) ends c.args.report.now)) c.as_ref.ensures.value (c.in-Ok-false.ensures ends names) in
          subst (λ (yes : Bool). Decides yes (IsRunText script capture ends c.args.report.now)) c.in-Ok-false.field-0-test found;
    }
