use Rattle.std.proofs.Common.{◌≡◌, ◌-◌, []}
use Rattle.spin_log.specs.Rule.{holding, new_hands}
use Rattle.spin_log.specs.Pens.{first_pens}
use Rattle.spin_log.proofs.log.Log.make_pens.Given as goal

abbrev pub invariant-loop-lane : goal.invariant-loop-lane
invariant-loop-lane l = (l.maker.table_id ≡ l.fn.self.id) × (l.maker.me ≡ (holding (new_hands l.lanes l.lane (l.lanes - l.lane)), [])) × (l.pens ≡ first_pens l.fn.self.id l.lanes l.lane)
