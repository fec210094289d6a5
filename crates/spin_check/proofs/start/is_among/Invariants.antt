use Rattle.std.proofs.Common.{◌≡◌, false}
use Rattle.std.specs.Prelude.{bytes_eq}
use Rattle.std.specs.List.{AllWithin}
use Rattle.spin_check.proofs.start.is_among.Given as goal

-- none of the names so far is the name
abbrev pub invariant-loop-other : goal.invariant-loop-other
invariant-loop-other l = AllWithin (λ other. bytes_eq l.name other ≡ false) l.names 0 l.other-index
