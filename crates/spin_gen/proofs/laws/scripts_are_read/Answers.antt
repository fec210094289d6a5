use Rattle.std.proofs.Common.{◌≡◌, ◌++◌, List, Ok, refl, sym, subst, arith}
use Rattle.spin_grammar.specs.Lines.{LineMeaning}
use Rattle.spin_script.specs.States.{NativeData, ScriptState, script_in}
use Rattle.spin_script.specs.Language.{outcome_at_end}
use Rattle.spin_script.specs.Canonical.{text_of_lines, version_text}
use Rattle.spin_script.proofs.WrittenLines.{lines_read}
use Rattle.spin_gen.specs.Laws.{IsReadAsScript}
use Rattle.spin_gen.proofs.ScriptLines.{lines_from, lines_are, all_go, all_width}
use Rattle.spin_gen.proofs.laws.scripts_are_read.Goals as goal

well_ended : (n : NativeData) (t : ScriptState) → t.version ≡ 1 → outcome_at_end n t ≡ Ok (script_in n t)
well_ended n t version = rw version refl

pub returns : goal.returns
returns c = λ n number.
    let go = all_go n number in
    let width = all_width number in
    subst (λ (ls : List LineMeaning). IsReadAsScript n (version_text 1 ++ text_of_lines ls)) (sym (lines_are number)) (record {
      few = width;
      script = script_in n go.0;
      read =
          lines_read n 1 (lines_from number) go.0 (Ok (script_in n go.0)) refl go.1 (sym (well_ended n go.0 go.2)) (omega (arith, width));
      endpoints = go.3;
    })
