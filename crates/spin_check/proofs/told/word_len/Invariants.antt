use Rattle.std.proofs.Common.{◌≡◌, ℕ, ◌<◌, true, get_or}
use Rattle.spin_check.specs.Inner.Told.{is_plain}
use Rattle.spin_check.proofs.told.word_len.Given as goal

abbrev pub invariant-loop-at : goal.invariant-loop-at
invariant-loop-at l = (k : ℕ) → k < l.at → is_plain (get_or l.report k 0) ≡ true
