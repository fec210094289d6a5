use Rattle.std.proofs.Common.{◌≡◌, ◌++◌, take}
use Rattle.spin_run.proofs.sends.add_all.Given as goal

abbrev pub invariant-loop-sending : goal.invariant-loop-sending
invariant-loop-sending l = l.sends.items ≡ l.fn.sends.items ++ take l.sending-index l.kept
