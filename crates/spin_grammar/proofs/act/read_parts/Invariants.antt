use Rattle.std.proofs.Common.{◌≤◌, ◌-◌, length, replicate}
use Rattle.spin_code.specs.Size.{is_part_deep}
use Rattle.spin_grammar.specs.Grammar.{Part}
use Rattle.spin_grammar.specs.Forms.{part_form}
use Rattle.spin_grammar.specs.Inner.Reading.{SoFar}
use Rattle.spin_grammar.proofs.act.read_parts.Given as goal

abbrev pub invariant-loop : goal.invariant-loop
invariant-loop l = record {
  falls : length l.words ≤ length l.fn.words;
  so_far : SoFar part_form is_part_deep (replicate l.count Part) (replicate (l.count - l.counter) Part) l.deep l.parts l.counter l.fn.words l.words;
}
