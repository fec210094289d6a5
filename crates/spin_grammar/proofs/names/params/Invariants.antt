use Rattle.std.proofs.Common.{◌≡◌, true, map, take}
use Rattle.std.specs.List.{list_all}
use Rattle.spin_grammar.specs.Spelling.{is_letter, param_of}
use Rattle.spin_grammar.proofs.names.params.Given as goal

abbrev pub invariant-loop-letter : goal.invariant-loop-letter
invariant-loop-letter l = record { letters : list_all is_letter (take l.letter-index l.word) ≡ true; so_far : l.params ≡ map (param_of l.marks) (take l.letter-index l.word) }
