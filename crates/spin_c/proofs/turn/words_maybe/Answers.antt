use Rattle.std.proofs.Common.{Some, map, sym, ap, subst, ◌∙◌}
use Rattle.spin_values.specs.declared.values.Value.TheVariants as value
use Rattle.spin_c.specs.Turns.{DoesHeld, Turns}
use Rattle.spin_c.specs.Verdicts.{no_natives}
use Rattle.spin_c.specs.Waiting.{IsWell}
use Rattle.spin_c.specs.declared.ask.Ask.TheVariants as asked
use Rattle.spin_c.proofs.turn.words_maybe.Goals as goal

pub words_in-outcome-requires : goal.words_in-outcome-requires
words_in-outcome-requires g c =
    let held = c.deref_mut.ensures.value ∙ c.into_box-held.ensures in
    record { sincere = rw held (rw c.in-Some.ensures at c.requires.sincere); well = rw held (rw c.in-Some.ensures at c.requires.well) }

pub returns : goal.returns
returns g c =
    let kept = c.of-2.ensures ∙ ap Some c.of.ensures in
    let held = c.deref_mut.ensures.value ∙ c.into_box-held.ensures in
    let ask = asked.Raise c.args.event (map value.Word c.args.words.now) in
    let after = c.words_in-outcome.new.held in let told = c.words_in-outcome.result in
    let does = subst (λ h. DoesHeld h ask after told) held c.words_in-outcome.ensures.does in
    record {
      well = subst (λ h. IsWell h) (sym kept) c.words_in-outcome.ensures.well;
      raises = subst (λ h. Turns no_natives c.args.maybe.value ask h told) (sym kept)
          (subst (λ h. Turns no_natives h ask (Some after) told) (sym c.in-Some.ensures) does);
    }
