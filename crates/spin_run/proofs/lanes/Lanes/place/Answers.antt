use Rattle.std.proofs.Common.{◌≡◌, get_or, rules, arith}
use Rattle.spin_table.specs.SetupOf.{data_of}
use Rattle.spin_run.proofs.ReadyLanes.{place_is_front, first_place}
use Rattle.spin_run.proofs.lanes.Lanes.place.Goals as goal

pub returns : goal.returns
returns g c =
    let d = data_of c.args._hub.now.setup in
    let first : c.index.result.now ≡ get_or c.args.self.now 0 c.index.result.now = search rules in
    let place = first_place d c.args.self.now c.index.result.now c.requires.ready.some first in
    let left = c.room.ensures.left in
    let few = c.requires.few in
    omega (arith, place, left, few, place_is_front _ _ _ _ c.requires.ready)
