-- Laws of the words of lines.
use Rattle.std.specs.Prelude.{◌≡◌, ℕ, List, map}
use Rattle.spin_values.specs.declared.types.EventType.{EventType}
use Rattle.spin_code.specs.declared.test.Test.{Test}
use Rattle.spin_code.specs.declared.act.ActStep.{ActStep}
use Rattle.spin_code.specs.declared.merge.Merge.{Merge}
use Rattle.spin_code.specs.Check.{act_check, test_check, merge_check}
use Rattle.spin_grammar.specs.declared.kind.Kind.{Kind}
use Rattle.spin_grammar.specs.Lines.{LineMeaning, form, line_kind, Spells}
use Rattle.spin_grammar.specs.Canonical.{spell}
use Rattle.spin_grammar.specs.Bare.{bare_line, bare_step, bare_test, bare_merge}

-- The words of a line of some kind are those of one line, but for where its boxes lie.
abbrev pub OneLine : Type 0
OneLine = (l m : LineMeaning) → line_kind l ≡ line_kind m → form l ≡ form m → bare_line l ≡ bare_line m

-- What is wrong with an act, a test or a merge doesn't depend on where its boxes lie.
pub record ChecksAreBare : Type 0 where
  pub acts : (steps : List ActStep) (sig : EventType)
      → act_check (record { steps = map bare_step steps }) sig
      ≡ act_check (record { steps = steps }) sig
  pub tests : (t : Test) (sig : EventType) → test_check (bare_test t) sig ≡ test_check t sig
  pub merges : (m : Merge) → merge_check (bare_merge m) ≡ merge_check m

-- What a line's words say, its canonical words say too.
abbrev pub LinesAreRespelled : Type 0
LinesAreRespelled =
    (version : ℕ) (k : Kind) (ws : List (List ℕ)) (l : LineMeaning) → Spells version k ws l
    → Spells version k (map spell (form l)) l
