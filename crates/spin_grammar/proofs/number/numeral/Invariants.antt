use Rattle.std.proofs.Common.{◌≡◌, ◌≤◌, drop}
use Rattle.spin_grammar.specs.Spelling.{numeral, within, greatest}
use Rattle.spin_grammar.proofs.Numerals.{goes}
use Rattle.spin_grammar.proofs.number.numeral.Given as goal

abbrev pub invariant-loop-byte : goal.invariant-loop-byte
invariant-loop-byte l = record { small : l.number ≤ greatest; same : goes l.radix l.number (drop l.byte-index l.digits) ≡ within 0 greatest (numeral l.radix l.digits) }
