use Rattle.std.proofs.Common.{refl, ◌∙◌}
use Rattle.spin_c.specs.Waiting.{IsAwayAt}
use Rattle.spin_c.proofs.Sharing.{all_taken, none_taken, taken_length}
use Rattle.spin_c.proofs.gathering.take_all_in.Goals as goal

pub loop-at-init : goal.loop-at-init
loop-at-init g c = ((λ first well. none_taken (IsAwayAt c.args.party.now first) 0 c.args.slots.now), refl)

pub loop-at-preserved : goal.loop-at-preserved
loop-at-preserved g c =
    let old = c.args.slots.now in let now = c.loop-at.slots in let new = c.take_in.new.slots in let well = c.requires.well in
    let fits = IsAwayAt c.args.party.now well.0 in (
      (λ first w. all_taken (IsAwayAt c.args.party.now first) 0 old now new (c.loop-at.invariant.0 first w) (c.take_in.ensures first w)),
      taken_length fits 0 now new (c.take_in.ensures well.0 well.1) ∙ c.loop-at.invariant.1,
    )
