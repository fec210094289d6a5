use Rattle.std.proofs.Common.{take}
use Rattle.spin_filter.proofs.RoundsMade.{HasRound}
use Rattle.spin_filter.proofs.rounds.add_lines.Given as goal

abbrev pub invariant-loop-line : goal.invariant-loop-line
invariant-loop-line l = HasRound l.lane (take l.line-index l.lines) l.fn.round.items l.round.items
