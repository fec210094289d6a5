use Rattle.std.proofs.Common.{◌≡◌, false}
use Rattle.std.specs.List.{AllWithin}
use Rattle.spin_objects.specs.Units.{handlers_of}
use Rattle.spin_table.specs.Faults.{raises_amiss}
use Rattle.spin_table.proofs.build.bad_up.Given as goal

-- none of the handlers so far raises amiss
abbrev pub invariant-loop-at : goal.invariant-loop-at
invariant-loop-at g l = AllWithin (λ h. raises_amiss l.events h ≡ false) (handlers_of l.catalogue) 0 l.at
