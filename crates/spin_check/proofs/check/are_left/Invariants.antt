use Rattle.std.specs.Option.{option_map, option_copied}
use Rattle.spin_script.specs.Scripts.{script_seen}
use Rattle.spin_check.specs.RunTexts.{capture_of}
use Rattle.spin_check.proofs.ReportLemmas.{IsOnWhole}
use Rattle.spin_check.proofs.check.are_left.Given as goal

abbrev pub invariant-loop-number : goal.invariant-loop-number
invariant-loop-number g l = IsOnWhole (script_seen l.script) (option_map capture_of (option_copied l.capture)) l.fn.mark l.number l.mark
