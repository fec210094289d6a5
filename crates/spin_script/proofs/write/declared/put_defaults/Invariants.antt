use Rattle.std.proofs.Common.{◌≡◌, ◌++◌, take}
use Rattle.std.specs.List.{flat_map, enumerate_from}
use Rattle.spin_table.specs.SetupOf.{data_of}
use Rattle.spin_script.specs.Canonical.{text_of_lines, default_lines}
use Rattle.spin_script.proofs.write.declared.put_defaults.Given as goal

abbrev pub invariant-loop-event : goal.invariant-loop-event
invariant-loop-event g l = l.out ≡ l.fn.out ++ text_of_lines (flat_map (λ p. default_lines p.0 p.1.first_default) (enumerate_from 0 (take l.event (data_of l.setup).events)))
