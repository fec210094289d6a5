use Rattle.std.proofs.Common.{◌≡◌, ◌++◌, take}
use Rattle.std.specs.List.{flat_map}
use Rattle.spin_text.specs.Words.{spaced}
use Rattle.spin_report.specs.Replies.{step_words}
use Rattle.spin_report.proofs.reply.put_trace.Given as goal

abbrev pub invariant-loop-step : goal.invariant-loop-step
invariant-loop-step l = l.out ≡ l.fn.out ++ spaced (flat_map step_words (take l.step-index l.trace))
