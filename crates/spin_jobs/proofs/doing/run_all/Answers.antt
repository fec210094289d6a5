use Rattle.std.proofs.Common.{sym}
use Rattle.std.specs.List.{AllZip}
use Rattle.spin_table.specs.SetupOf.{data_of}
use Rattle.spin_jobs.specs.contracts.doing.run_all.dyn-1 as one
use Rattle.spin_jobs.specs.contracts.doing.run_all.dyn-2 as two
use Rattle.spin_jobs.specs.contracts.doing.run_all.dyn-3 as three
use Rattle.spin_jobs.specs.Jobs.{IsReplyTo}
use Rattle.spin_jobs.proofs.ReplyLemmas.{answers}
use Rattle.spin_jobs.proofs.ThreadCrossing.{borrows_cross}
use Rattle.spin_jobs.proofs.ReplyPlaces.{ok_map}
use Rattle.spin_jobs.proofs.doing.run_all.Goals as goal

pub run_numbered-requires-sync-F : goal.run_numbered-requires-sync-F
run_numbered-requires-sync-F g c κs within =
    let R = g.row.R in let G = g.row.G in
    let lent = borrows_cross (one.slots R G) (two.slots R G) (three.slots R G) g.dyn-1 g.dyn-2 g.dyn-3 κs.1.1.1.1.1.1.0 κs.1.1.1.1.1.1.1.0 κs.1.1.1.1.1.1.1.1.0 in
    record { shared = lent.shared }

pub returns : goal.returns
returns g c =
    let jobs = c.as_slice-jobs.result.now in
    let d = data_of c.args.setup.now in
    rw (sym c.as_slice-jobs.ensures) (ok_map c.run_numbered.result _ (AllZip (IsReplyTo d) jobs) (λ replies given. answers d jobs replies given.as_many given.each) c.run_numbered.ensures)
