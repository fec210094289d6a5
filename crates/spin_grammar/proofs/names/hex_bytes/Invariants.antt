use Rattle.std.proofs.Common.{◌≡◌, ◌++◌, List, ℕ, length}
use Rattle.std.specs.Option.{option_map}
use Rattle.spin_grammar.specs.Spelling.{hex_bytes}
use Rattle.spin_grammar.proofs.names.hex_bytes.Given as goal

abbrev pub invariant-loop-first : goal.invariant-loop-first
invariant-loop-first l = option_map (λ (bytes : List ℕ). l.bytes ++ bytes) (hex_bytes l.rest) ≡ hex_bytes l.digits

abbrev pub decreases-loop-first : goal.decreases-loop-first
decreases-loop-first l = length l.rest
