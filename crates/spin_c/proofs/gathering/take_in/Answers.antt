use Rattle.std.proofs.Common.{◌≡◌, ◌∙◌, ap, rules, arith}
use Rattle.std.specs.Prelude.{None, Some, slice_get}
use Rattle.std.proofs.lemmas.Option.{slice_get-get_or}
use Rattle.spin_c.specs.Waiting.{IsAwayAt}
use Rattle.spin_c.proofs.Sharing.{none_taken, one_taken}
use Rattle.spin_c.proofs.gathering.take_in.Goals as goal

pub returns-then-is_none : goal.returns-then-is_none
returns-then-is_none g c first well =
    let stands : slice_get c.args.slots.now c.args.at ≡ Some None =
    slice_get-get_or c.args.slots.now c.args.at c.index-slots-at.result c.requires.within ∙ ap Some (search rules) in
    one_taken (IsAwayAt c.args.party.now first) 0 c.args.slots.now c.args.at c.args.at c.take.result (omega arith) stands (c.take.ensures first well)

pub returns-else-is_none : goal.returns-else-is_none
returns-else-is_none g c first well = none_taken (IsAwayAt c.args.party.now first) 0 c.args.slots.now
