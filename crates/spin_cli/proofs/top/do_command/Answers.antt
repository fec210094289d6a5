use Rattle.std.proofs.Common.{rules}
use Rattle.spin_cli.proofs.StatusCauses.{asked_status, vm_status}
use Rattle.spin_cli.proofs.top.do_command.Goals as goal

pub returns-in-Run : goal.returns-in-Run
returns-in-Run g c = asked_status _ _ _ _ _ _ c.in-Run.is c.run_command.ensures

pub returns-in-Gen : goal.returns-in-Gen
returns-in-Gen g c =
    let here = c.gen_command.ensures (g.F.Shelf.seen c.args.shelf.now) in
    search (rules, here)

pub returns-in-Check : goal.returns-in-Check
returns-in-Check g c = asked_status _ _ _ _ _ _ c.in-Check.is c.check_command.ensures

pub returns-in-Join : goal.returns-in-Join
returns-in-Join g c = asked_status _ _ _ _ _ _ c.in-Join.is c.join_command.ensures

pub returns-in-Vm : goal.returns-in-Vm
returns-in-Vm g c = vm_status _ _ _ _ _ _ _ c.in-Vm.is (c.vm_command.ensures _)
