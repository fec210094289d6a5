use Rattle.std.proofs.Common.{◌≡◌, drop, map}
use Rattle.spin_grammar.specs.Lookup.{look_up}
use Rattle.spin_grammar.proofs.lookup.look_up.Given as goal

-- what is found is what is found in the rows that are left
abbrev pub invariant-loop-row : goal.invariant-loop-row
invariant-loop-row g l =
    look_up l.word (map (λ row. (row.0.now, row.1)) (drop l.row-index l.rows))
    ≡ look_up l.word (map (λ row. (row.0.now, row.1)) l.rows)
