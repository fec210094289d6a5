use Rattle.std.proofs.Common.{refl, ap, ◌∙◌, cond}
use Rattle.std.proofs.lemmas.Option.{slice_get_within}
use Rattle.spin_table.specs.SetupOf.{data_of}
use Rattle.spin_proto.specs.declared.reply.Reply.TheVariants as reply
use Rattle.spin_proto.proofs.RaiseLemmas.{fit_answers, fit_decides}
use Rattle.spin_proto.proofs.deed_reply.refusal.Goals as goal

pub returns-then-not-fits : goal.returns-then-not-fits
returns-then-not-fits g c =
    let d = data_of c.args.setup.now in
    ((λ answer. fit_answers d c.args.event c.event.result.now c.args.args.now c.fits.result answer c.event.ensures c.fits.ensures ∙ ap (λ t. cond t answer reply.WrongArgs) c.if-not-fits.true), refl)

pub returns : goal.returns
returns g c =
    let d = data_of c.args.setup.now in (
      slice_get_within d.events c.args.event c.event.result.now c.event.ensures,
      λ answer. fit_answers d c.args.event c.event.result.now c.args.args.now c.fits.result answer c.event.ensures c.fits.ensures ∙ ap (λ t. cond t answer reply.WrongArgs) c.if-not-fits.false,
      fit_decides d c.args.event c.event.result.now c.args.args.now c.fits.result c.event.ensures c.fits.ensures ∙ c.if-not-fits.false,
    )
