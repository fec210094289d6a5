use Rattle.std.proofs.Common.{◌≡◌, ◌++◌, take}
use Rattle.spin_grammar.specs.Forms.{steps_form}
use Rattle.spin_script.specs.Canonical.{spoken}
use Rattle.spin_script.proofs.write.code.put_steps.Given as goal

abbrev pub invariant-loop-step : goal.invariant-loop-step
invariant-loop-step l = l.out ≡ l.fn.out ++ spoken (steps_form (take l.step-index l.steps))
