use Rattle.std.proofs.Common.{◌∙◌}
use Rattle.spin_homes.proofs.Steps as keeps
use Rattle.spin_homes.proofs.homes.Homes.empty.Goals as goal

pub vacant-requires : goal.vacant-requires
vacant-requires g c = keeps.opens _ _ _ _ (c.as_slice.ensures.value ∙ c.in_ok-words.ensures)
