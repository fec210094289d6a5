use Rattle.std.proofs.Common.{Some, sym, ap, subst, ◌∙◌}
use Rattle.spin_c.specs.declared.moves.Move.TheVariants as wish
use Rattle.spin_c.specs.Moves.{Moves, MovesIn}
use Rattle.spin_c.specs.Raisings.{IsWellHeld}
use Rattle.spin_c.proofs.answering.next_maybe.Goals as goal

pub returns : goal.returns
returns g c =
    let kept = c.of-2.ensures ∙ ap Some c.of.ensures in
    let held = c.deref_mut.ensures.value ∙ c.into_box-raising.ensures in
    let after = c.next-told.new.raising in let told = c.next-told.result in
    let does = subst (λ r. MovesIn r wish.Next after told) held c.next-told.ensures.moves in
    record {
      well = subst (λ r. IsWellHeld r) (sym kept) c.next-told.ensures.well;
      moves = subst (λ r. Moves c.args.maybe.value wish.Next r told) (sym kept) (subst (λ r. Moves r wish.Next (Some after) told) (sym c.in-Some.ensures) does);
    }
