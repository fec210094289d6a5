use Rattle.std.proofs.Common.{All, take}
use Rattle.spinfilter.specs.Words.{IsName}
use Rattle.spinfilter.proofs.words.count_names.Given as goal

abbrev pub invariant-loop-at : goal.invariant-loop-at
invariant-loop-at l = All IsName (take l.at l.words)
