use Rattle.spin_inputs.proofs.OneSaid.{history_said, one_script, run_said}
use Rattle.spin_inputs.proofs.law.one_script_is_said.Goals as goal

pub returns-clause-script : goal.returns-clause-script
returns-clause-script c = one_script

pub returns-clause-entries : goal.returns-clause-entries
returns-clause-entries c = history_said

pub returns-clause-whole : goal.returns-clause-whole
returns-clause-whole c = run_said
