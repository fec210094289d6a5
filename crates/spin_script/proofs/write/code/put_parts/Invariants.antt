use Rattle.std.proofs.Common.{◌≡◌, ◌++◌, take}
use Rattle.std.specs.List.{flat_map}
use Rattle.spin_grammar.specs.Forms.{part_form}
use Rattle.spin_script.specs.Canonical.{spoken}
use Rattle.spin_script.proofs.write.code.put_parts.Given as goal

abbrev pub invariant-loop-part : goal.invariant-loop-part
invariant-loop-part l = l.out ≡ l.fn.out ++ spoken (flat_map part_form (take l.part-index l.parts))
