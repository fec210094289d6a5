use Rattle.std.proofs.Common.{◌≡◌, ◌+◌, ◌≤◌, length}
use Rattle.std.specs.Str.Lines.{lines}
use Rattle.spin_script.specs.States.{natives_seen, start}
use Rattle.spin_script.specs.Language.{Outcome, ComesTo}
use Rattle.spin_script.specs.Inner.Drafts.{so_far}
use Rattle.spin_script.specs.Inner.Sound.{IsSound}
use Rattle.spin_script.specs.Inner.Declaring.{IsDeclared}
use Rattle.spin_script.proofs.TextDeclarations.{DeclaresWith}
use Rattle.spin_script.proofs.read.read_lines.Given as goal

-- what the lines that are left come to behind the script so far is what the text comes to
abbrev pub invariant-loop-line : goal.invariant-loop-line
invariant-loop-line g l = record {
  small : length l.text ≤ 1048576;
  room : l.number + length l.lines ≤ 1048577;
  natives : l.catalogue.natives ≡ l.fn.catalogue.natives;
  sound : IsSound (natives_seen l.fn.catalogue.natives) (so_far l.draft l.catalogue);
  declared : IsDeclared (natives_seen l.fn.catalogue.natives) (so_far l.draft l.catalogue) l.catalogue.bodies l.catalogue.checks;
  said : DeclaresWith (natives_seen l.fn.catalogue.natives) (lines l.text) l.catalogue.bodies l.catalogue.checks (so_far l.draft l.catalogue) (l.number + 1) l.lines;
  rest : (o : Outcome) → ComesTo (natives_seen l.fn.catalogue.natives) (so_far l.draft l.catalogue) (l.number + 1) l.lines o → ComesTo (natives_seen l.fn.catalogue.natives) start 1 (lines l.text) o;
}

abbrev pub decreases-loop-line : goal.decreases-loop-line
decreases-loop-line g l = length l.lines
