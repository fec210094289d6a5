use Rattle.std.proofs.Common.{Some, refl, sym, ap, subst, ◌∙◌}
use Rattle.spin_script.specs.States.{natives_seen}
use Rattle.spin_c.specs.declared.ask.Outcome.TheVariants as outcome
use Rattle.spin_c.specs.Turns.{OpensTo}
use Rattle.spin_c.specs.Waiting.{IsWell}
use Rattle.spin_c.proofs.turn.open_maybe.Goals as goal

pub returns-in-Ok-new-clause-well : goal.returns-in-Ok-new-clause-well
returns-in-Ok-new-clause-well g c =
    let kept = c.of-in-Ok-new.ensures ∙ ap Some (c.of.ensures ∙ c.in-Ok-new.ensures.ok) in
    subst (λ l. IsWell l) (sym kept) c.in-Ok.ensures.well

pub returns-in-Ok-new-clause-opens : goal.returns-in-Ok-new-clause-opens
returns-in-Ok-new-clause-opens g c =
    let kept = c.of-in-Ok-new.ensures ∙ ap Some (c.of.ensures ∙ c.in-Ok-new.ensures.ok) in
    subst (λ l. OpensTo (natives_seen c.args.natives) c.args.text.now c.args.lanes l outcome.Done) (sym kept) (c.in-Ok.ensures.opens, refl)
