use Rattle.std.proofs.Common.{sym, ap, ◌∙◌}
use Rattle.spin_reass.specs.Joining.{are_whole}
use Rattle.spin_reass.proofs.PartCovers.{whole_is, whole_none}
use Rattle.spin_reass.proofs.datagram.Datagram.is_whole.Goals as goal

pub returns-in-Some : goal.returns-in-Some
returns-in-Some c =
    whole_is c.self.inside.parts.items c.self.inside.filled c.in-Some.end c.self.invariant.0 c.self.invariant.1 (sym c.in-Some.is ∙ c.self.invariant.2)
    ∙ ap (λ d. are_whole d.parts) c.self.view_is

pub returns-in-None : goal.returns-in-None
returns-in-None c = whole_none c.self.inside.parts.items (sym c.in-None.is ∙ c.self.invariant.2) ∙ ap (λ d. are_whole d.parts) c.self.view_is
