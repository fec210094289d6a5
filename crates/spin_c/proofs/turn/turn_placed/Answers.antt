use Rattle.spin_c.specs.declared.lane.Held.TheVariants as held
use Rattle.spin_c.proofs.Turning.{stays_placed}
use Rattle.spin_c.proofs.turn.turn_placed.Goals as goal

pub returns-in-Lane-clause-does : goal.returns-in-Lane-clause-does
returns-in-Lane-clause-does g c =
    rw c.in-Lane.is (stays_placed c.in-Lane.lane (held.Lane c.turn_lane.new.lane) c.args.ask c.turn_lane.result c.requires.not_renew c.requires.not_end c.turn_lane.ensures.does)
