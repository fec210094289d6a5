use Rattle.std.proofs.Common.{◌≡◌, map, take}
use Rattle.std.specs.Prelude.{bytes_eq}
use Rattle.std.specs.List.{list_any}
use Rattle.spin_check.proofs.start.flags_of.Given as goal

abbrev pub invariant-loop-name : goal.invariant-loop-name
invariant-loop-name l = l.flags.items ≡ map (λ name. list_any (bytes_eq name) l.names) (take l.name-index l.endpoints)
