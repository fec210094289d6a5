use Rattle.std.proofs.Common.{◌≡◌, false}
use Rattle.std.specs.List.{AllWithin, enumerate_from}
use Rattle.spin_objects.specs.Units.{handlers_of}
use Rattle.spin_table.specs.Faults.{has_bad_default}
use Rattle.spin_table.proofs.build.bad_default.Given as goal

-- none of the events so far has a bad default
abbrev pub invariant-loop-at : goal.invariant-loop-at
invariant-loop-at g l = AllWithin (λ p. has_bad_default (handlers_of l.catalogue) p ≡ false) (enumerate_from 0 l.events) 0 l.at
