use Rattle.std.proofs.Common.{◌≡◌, take}
use Rattle.spin_c.specs.Wholes.{bytes_sent, ranges_from}
use Rattle.spin_c.proofs.running.lay_out.Given as goal

abbrev pub invariant-loop-sent : goal.invariant-loop-sent
invariant-loop-sent l =
    (l.sendings ≡ ranges_from 0 (take l.sent-index l.fn.ran.sends)) × (l.bytes ≡ bytes_sent (take l.sent-index l.fn.ran.sends))
