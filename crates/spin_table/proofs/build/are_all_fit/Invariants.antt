use Rattle.std.proofs.Common.{◌≡◌, true, take}
use Rattle.std.specs.List.{list_all}
use Rattle.spin_objects.specs.Units.{guards_of}
use Rattle.spin_table.specs.Faults.{is_fit_rule}
use Rattle.spin_table.proofs.build.are_all_fit.Given as goal

-- all so far serve the event
abbrev pub invariant-loop-rule : goal.invariant-loop-rule
invariant-loop-rule g l = list_all (is_fit_rule (guards_of l.catalogue) l.event) (take l.rule-index l.rules) ≡ true
