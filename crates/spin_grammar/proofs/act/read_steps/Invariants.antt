use Rattle.std.proofs.Common.{ℕ, ◌≤◌, [], ◌∷◌, length}
use Rattle.spin_code.specs.Size.{is_step_deep}
use Rattle.spin_grammar.specs.Grammar.{Steps}
use Rattle.spin_grammar.specs.Forms.{step_form}
use Rattle.spin_grammar.specs.Inner.Reading.{SoFar}
use Rattle.spin_grammar.proofs.act.read_steps.Given as goal

abbrev pub invariant-loop-steps : goal.invariant-loop-steps
invariant-loop-steps l = record {
  falls : length l.words ≤ length l.fn.words;
  so_far : (n : ℕ) × SoFar step_form is_step_deep (Steps ∷ []) (Steps ∷ []) l.deep l.steps n l.fn.words l.words;
}

abbrev pub decreases-loop-steps : goal.decreases-loop-steps
decreases-loop-steps l = length l.words
