use Rattle.std.proofs.Common.{◌≡◌, true, take}
use Rattle.std.specs.List.{list_all}
use Rattle.spin_objects.specs.Units.{guards_of}
use Rattle.spin_table.specs.Units.{is_fit_guard}
use Rattle.spin_table.proofs.build.are_fit.Given as goal

-- all so far serve the event
abbrev pub invariant-loop-guard : goal.invariant-loop-guard
invariant-loop-guard g l = list_all (is_fit_guard (guards_of l.catalogue) l.event) (take l.guard-index l.guards) ≡ true
