use Rattle.std.proofs.Common.{◌≡◌, map, take}
use Rattle.std.specs.List.{All}
use Rattle.spin_args.specs.Words.{IsPlain}
use Rattle.spin_args.proofs.words.plain_words.Given as goal

abbrev pub invariant-loop-word : goal.invariant-loop-word
invariant-loop-word l =
    (map (λ text. text.now) l.plain.items ≡ take l.word-index l.fn.words) × All IsPlain (take l.word-index l.fn.words)
