use Rattle.std.proofs.Common.{Some, sym, ap, subst, ◌∙◌}
use Rattle.spin_c.specs.Moves.{Moves, MovesIn}
use Rattle.spin_c.specs.Raisings.{IsWellHeld}
use Rattle.spin_c.proofs.OpenMoves.{moved}
use Rattle.spin_c.proofs.answering.move_maybe.Goals as goal

pub returns : goal.returns
returns g c =
    let kept = c.of-2.ensures ∙ ap Some c.of.ensures in
    let held = c.deref_mut.ensures.value ∙ c.into_box-raising.ensures in
    let after = c.turn_raising-told.new.raising in let told = c.turn_raising-told.result in
    let does = subst (λ r. MovesIn r c.args.call.asked after told) held c.turn_raising-told.ensures.moves in
    let whole = moved c.in-Some.loose.value after c.args.call.asked told c.in_default-asked-2.not-Forget does in
    record {
      well = subst (λ r. IsWellHeld r) (sym kept) c.turn_raising-told.ensures.well;
      moves = subst (λ r. Moves c.args.maybe.value c.args.call.asked r told) (sym kept) (subst (λ r. Moves r c.args.call.asked (Some after) told) (sym c.in-Some.ensures) whole);
    }
