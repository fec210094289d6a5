use Rattle.std.proofs.Common.{◌≡◌, ◌+◌, ◌≤◌, ◌^◌, length}
use Rattle.spin_headers.specs.Sums.{folded, word_total}
use Rattle.spin_headers.proofs.sum.add_words.Given as goal

abbrev pub invariant-loop-rest : goal.invariant-loop-rest
invariant-loop-rest l = record {
  small : l.total ≤ 2 ^ 32;
  same : folded (l.total + word_total l.rest) ≡ folded (l.sum + word_total l.bytes);
}

abbrev pub decreases-loop-rest : goal.decreases-loop-rest
decreases-loop-rest l = length l.rest
