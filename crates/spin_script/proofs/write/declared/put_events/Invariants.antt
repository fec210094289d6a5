use Rattle.std.proofs.Common.{◌≡◌, ◌++◌, take, map}
use Rattle.std.specs.List.{enumerate_from}
use Rattle.spin_table.specs.SetupOf.{data_of}
use Rattle.spin_script.specs.Canonical.{text_of_lines, event_line}
use Rattle.spin_script.proofs.write.declared.put_events.Given as goal

abbrev pub invariant-loop-event : goal.invariant-loop-event
invariant-loop-event g l = l.out ≡ l.fn.out ++ text_of_lines (map event_line (enumerate_from 0 (take l.event (data_of l.setup).events)))
