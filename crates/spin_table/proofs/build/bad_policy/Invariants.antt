use Rattle.std.proofs.Common.{◌≡◌, false}
use Rattle.std.specs.List.{AllWithin}
use Rattle.spin_objects.specs.Units.{guards_of, policies_of}
use Rattle.spin_table.specs.Faults.{has_bad_policy}
use Rattle.spin_table.proofs.build.bad_policy.Given as goal

-- none of the events so far has a bad policy
abbrev pub invariant-loop-at : goal.invariant-loop-at
invariant-loop-at g l = AllWithin (λ e. has_bad_policy (policies_of l.catalogue.natives) (guards_of l.catalogue) e ≡ false) l.events 0 l.at
