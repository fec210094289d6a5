use Rattle.spin_grammar.proofs.BareValues.{act_check_alike, test_check_alike, merge_check_alike}
use Rattle.spin_grammar.proofs.laws.checks_are_bare.Goals as goal

pub returns : goal.returns
returns c = record { acts = act_check_alike; tests = test_check_alike; merges = merge_check_alike }
