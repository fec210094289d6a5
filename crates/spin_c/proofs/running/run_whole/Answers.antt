use Rattle.std.proofs.Common.{List, ℕ, sym, subst}
use Rattle.std.specs.Prelude.{option_map}
use Rattle.spin_check.specs.RunTexts.{StandAs, capture_of}
use Rattle.spin_script.specs.Scripts.{script_seen}
use Rattle.spin_whole.specs.Runs.{IsRanAs}
use Rattle.spin_c.proofs.running.run_whole.Goals as goal

pub returns-in-Ok-lay_out : goal.returns-in-Ok-lay_out
returns-in-Ok-lay_out g c =
    let script = script_seen c.in-Ok.case.script in
    let capture = option_map capture_of c.in-Ok.case.capture in
    record {
      script = script;
      read = c.in-Ok.ensures.script;
      capture = capture;
      captured = c.in-Ok.ensures.captured;
      ran = c.in-Ok-run_text.ran;
      is = λ ends named.
          let names = subst (λ (names : List (List ℕ)). StandAs script.endpoints names ends) (sym c.in-Ok.ensures.names) named in
          subst (λ read. IsRanAs script (option_map capture_of read) ends c.in-Ok-run_text.ran) c.as_ref.ensures.value (c.in-Ok-run_text.ensures ends names);
      laid = c.in-Ok-lay_out.ensures;
    }
