use Rattle.std.proofs.Common.{◌≤◌, ◌-◌, nat_le, sym, ap, subst, ◌∙◌, arith}
use Rattle.spin_reass.specs.declared.limits.TheConstants.{MAX_PAYLOAD}
use Rattle.spin_reass.specs.declared.piece.Part.{Part}
use Rattle.spin_reass.specs.Fragments.{end_of}
use Rattle.spin_reass.proofs.PartOrder.{small_at, ends_is}
use Rattle.spin_reass.proofs.datagram.ends_before.Goals as goal

pub end-requires : goal.end-requires
end-requires c =
    subst (λ (p : Part). end_of p ≤ MAX_PAYLOAD) (sym c.index-parts-at.is) (small_at 0 c.args.parts.now (c.args.at - 1) c.index-parts-at.result c.requires.orderly (omega arith))

pub returns : goal.returns
returns c =
    ap (λ n. nat_le n c.args.start) c.end.ensures
    ∙ ends_is c.args.start c.args.at c.args.parts.now c.index-parts-at.result (omega arith) c.requires.place c.index-parts-at.is
