use Rattle.std.proofs.Common.{rules}
use Rattle.spin_homes.proofs.Steps as keeps
use Rattle.spin_homes.proofs.homes.Homes.take_any.Goals as goal

pub swap_new_seat-found-requires : goal.swap_new_seat-found-requires
swap_new_seat-found-requires g c = (search rules, keeps.takes_home _ _ _ _ c.requires)
