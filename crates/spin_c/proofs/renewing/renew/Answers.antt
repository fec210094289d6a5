use Rattle.std.proofs.Common.{refl, inl}
use Rattle.spin_c.proofs.renewing.renew.Goals as goal

pub renew_whole-requires-clause-sincere : goal.renew_whole-requires-clause-sincere
renew_whole-requires-clause-sincere g c = rw c.gather.ensures.taken.same c.requires.sincere

pub returns-in-Some-clause-renews : goal.returns-in-Some-clause-renews
returns-in-Some-clause-renews g c = record { whole = c.gather.new.lane; taken = c.gather.ensures.taken; renews = inl (refl, rw c.as_slice.ensures at c.in-Some.ensures) }
