use Rattle.std.proofs.Common.{sym, ◌∙◌}
use Rattle.spin_reass.proofs.DatagramPlaces.{opened_found, not_found}
use Rattle.spin_reass.proofs.joiner.Joiner.find_or_open.Goals as goal

pub returns-in-Some-clause-opened : goal.returns-in-Some-clause-opened
returns-in-Some-clause-opened c = opened_found c.args.key.now c.in-Some.at c.args.self.now (sym c.find.ensures ∙ c.in-Some.is)

pub open-requires : goal.open-requires
open-requires c = not_found c.args.key.now c.args.self.now (sym c.find.ensures ∙ c.in-None.is)
