use Rattle.std.proofs.Common.{◌∙◌}
use Rattle.spin_reass.proofs.PartOrder.{ttl_at_front}
use Rattle.spin_reass.proofs.datagram.first_ttl.Goals as goal

pub returns : goal.returns
returns c = c.front_ttl.ensures ∙ ttl_at_front c.args.parts.now c.requires
