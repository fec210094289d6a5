use denote.Param.Send.{param_send}
use Rattle.spin_later.specs.contracts.background.run_team.dyn-1 as one
use Rattle.spin_later.specs.contracts.background.run_team.dyn-2 as two
use Rattle.spin_later.specs.contracts.background.run_team.dyn-3 as three
use Rattle.std.proofs.Common.{rules}
use Rattle.std.specs.Prelude.{⊤}
use Rattle.spin_later.specs.contracts.agreement.AnyTask as AnyTask
use Rattle.spin_later.proofs.ThreadCrossing.{borrows_cross, worker_send}
use Rattle.spin_later.proofs.WorkerLemmas.{same_numbers}
use Rattle.spin_later.proofs.background.run_team.Goals as goal

pub for_each_mut-requires-sync-F : goal.for_each_mut-requires-sync-F
for_each_mut-requires-sync-F g c κs within =
    let R = g.row.R in let W = g.row.W in
    let lent = borrows_cross (one.slots R W) (two.slots R W) (three.slots R W) g.dyn-1 g.dyn-2 g.dyn-3 _ AnyTask.the_row
    (record { allows = λ task. ⊤ }) κs.1.1.1.1.1.1.0 κs.1.1.1.1.1.1.1.0 κs.1.1.1.1.1.1.1.1.0 κs.1.1.1.1.1.1.1.1.1.0 κs.1.1.1.1.1.1.1.1.1.1.0 c.type_bounds.sync-W in
    record { shared = lent.shared }

pub returns-clause-numbers : goal.returns-clause-numbers
returns-clause-numbers g c = same_numbers c.args.team.now.items c.for_each_mut.new.s c.args.team.now.len c.args.team.now.ok.0 (search rules) (λ k d lt. search rules)

pub for_each_mut-requires-send-T : goal.for_each_mut-requires-send-T
for_each_mut-requires-send-T g c κs within =
    let given = param_send 1 _ worker_send in
    record { owned = given.owned; leaving = given.leaving }
