use Rattle.spin_host.proofs.ReachedBindings.{declined_is_nothing, firings_are_reached, end_is_one}
use Rattle.spin_host.proofs.law.firings_are_those_reached.Goals as goal

pub returns-clause-declined : goal.returns-clause-declined
returns-clause-declined c = declined_is_nothing

pub returns-clause-reached : goal.returns-clause-reached
returns-clause-reached c = firings_are_reached

pub returns-clause-end : goal.returns-clause-end
returns-clause-end c = end_is_one
