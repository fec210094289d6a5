use Rattle.std.proofs.Common.{arith}
use Rattle.spin_c.proofs.crowded.crowds.Goals as goal

pub live_count-live-requires : goal.live_count-live-requires
live_count-live-requires g c = rw c.setup.ensures (rw c.deref.ensures (rw c.in_ok-version-in-Install.ensures c.requires.sound))

pub overflow_add-result : goal.overflow_add-result
overflow_add-result g c = let few = c.live_count-live.ensures.few in omega (arith, few, c.from.ensures, c.ranges.lanes.fits)
