use Rattle.std.proofs.Common.{◌≡◌, ◌++◌, take}
use Rattle.spin_reass.specs.Joining.{payload}
use Rattle.spin_reass.proofs.datagram.put_bytes.Given as goal

abbrev pub invariant-loop-part : goal.invariant-loop-part
invariant-loop-part l = l.bytes ≡ l.fn.bytes ++ payload (take l.part-index l.parts)
