use Rattle.std.proofs.Common.{◌≡◌, drop}
use Rattle.spin_outside.specs.Files.{content}
use Rattle.spin_outside.specs.Shelves.{held}
use Rattle.spin_outside.proofs.mem_files.place_of.Given as goal

abbrev pub invariant-loop-at : goal.invariant-loop-at
invariant-loop-at l = content (held l.files) l.name ≡ content (held (drop l.at l.files)) l.name
