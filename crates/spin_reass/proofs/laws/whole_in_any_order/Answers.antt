use Rattle.spin_reass.proofs.DatagramParts as all
use Rattle.spin_reass.proofs.laws.whole_in_any_order.Goals as goal

pub returns : goal.returns
returns c = all.whole_in_any_order
