use Rattle.std.proofs.Common.{◌≡◌, ℕ, ◌<◌, map}
use Rattle.std.specs.Prelude.{slice_get}
use Rattle.spin_values.specs.Kinds.{kinds_of}
use Rattle.spin_table.specs.Faults.{part_kind}
use Rattle.spin_table.proofs.build.have_kinds.Given as goal

-- the kinds so far are the same
abbrev pub invariant-loop-at : goal.invariant-loop-at
invariant-loop-at l = (k : ℕ) → k < l.at → slice_get (kinds_of l.sig) k ≡ slice_get (map part_kind l.parts) k
