use Rattle.std.proofs.Common.{◌≡◌, take}
use Rattle.std.specs.List.{list_all}
use Rattle.spin_script.specs.Language.{is_allowed}
use Rattle.spin_script.proofs.head.all_allowed.Given as goal

abbrev pub invariant-loop-byte : goal.invariant-loop-byte
invariant-loop-byte l = l.allowed ≡ list_all is_allowed (take l.byte-index l.line)
