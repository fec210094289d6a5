use Rattle.std.proofs.Common.{◌&&◌, slice_get, refl, sym, ap, ◌∙◌}
use Rattle.std.proofs.lemmas.Bool.{and_left}
use Rattle.spin_reass.specs.Inner.Orderly.{may_stand_before}
use Rattle.spin_reass.proofs.PartOrder.{fits_is}
use Rattle.spin_reass.proofs.datagram.fits_at.Goals as goal

pub returns-then-ends_before : goal.returns-then-ends_before
returns-then-ends_before c =
    ap (λ b. b && c.begins_behind.result) (sym c.if-ends_before.true)
    ∙ fits_is c.args.part.now c.args.parts.now c.args.at c.args.end c.ends_before.result c.begins_behind.result
    c.requires.sound c.requires.orderly c.requires.end c.requires.place c.ends_before.ensures c.begins_behind.ensures

pub returns-else-ends_before : goal.returns-else-ends_before
returns-else-ends_before c =
    let behind = may_stand_before c.args.part.now (slice_get c.args.parts.now c.args.at) c.args.end in
    c.if-ends_before.false
    ∙ sym (and_left c.ends_before.result behind c.if-ends_before.false)
    ∙ fits_is c.args.part.now c.args.parts.now c.args.at c.args.end c.ends_before.result behind c.requires.sound c.requires.orderly c.requires.end c.requires.place c.ends_before.ensures refl
