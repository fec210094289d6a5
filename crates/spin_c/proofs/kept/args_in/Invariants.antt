use Rattle.std.proofs.Common.{◌≡◌, map, take}
use Rattle.spin_values.specs.declared.values.Value.TheVariants as value
use Rattle.spin_c.proofs.kept.args_in.Given as goal

abbrev pub invariant-loop-word : goal.invariant-loop-word
invariant-loop-word l = l.args ≡ map value.Word (take l.word-index l.words)
