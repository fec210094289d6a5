use Rattle.spin_table.specs.SetupOf.{data_of}
use Rattle.spin_vm.proofs.Commands.{leads_refused}
use Rattle.spin_vm.proofs.version.step.Goals as goal

pub returns-in-Err-Refused-clause-leads : goal.returns-in-Err-Refused-clause-leads
returns-in-Err-Refused-clause-leads g c =
    leads_refused (data_of c.args.setup.now) c.args.version.state c.args.command.now c.next.result c.in-Err-Refused.field-0 _ c.in-Err-Refused.is c.in-Err-Refused.field-0-is c.next.ensures.answer
