use Rattle.std.proofs.Common.{◌≡◌, take, map}
use Rattle.std.specs.declared.snapshot.Snapshot.{Snapshot}
use Rattle.spin_code.specs.declared.test.Test.{Test}
use Rattle.spin_objects.specs.Units.{tests_of}
use Rattle.spin_table.proofs.guarding.Tests.of.Given as goal

-- the tests so far are there
abbrev pub invariant-loop-before : goal.invariant-loop-before
invariant-loop-before g l = map (λ (s : Snapshot Test). s.value) l.seen ≡ take l.before (tests_of l.catalogue)
