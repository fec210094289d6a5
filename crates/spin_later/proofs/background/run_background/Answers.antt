use Rattle.std.proofs.Common.{◌≡◌, ◌∙◌, length, sym, ap, subst, arith, All}
use Rattle.spin_table.specs.SetupOf.{data_of}
use Rattle.spin_later.specs.Parties.{new_parties, IsPartyOf, AreAll}
use Rattle.spin_later.specs.Inner.Work.{IsRight}
use Rattle.spin_later.proofs.WorkerLemmas.{all_fresh, all_there, all_parties, all_right}
use Rattle.spin_later.proofs.background.run_background.Goals as goal

pub run_team-requires-clause-fresh : goal.run_team-requires-clause-fresh
run_team-requires-clause-fresh g c κs within =
    let q = c.in_ok-queue.queue in
    let asked = c.in_ok-queue.ensures.parties in
    let len = c.len.ensures in
    let is = c.in_ok-team.ensures.parties ∙ c.in_ok-queue.ensures.members ∙ ap (new_parties q.id) (sym asked) in
    let many : q.parties ≡ length c.args.batches.now = omega arith in
    all_fresh q (length c.args.batches.now) c.in_ok-team.team.items is many c.in_ok-team.ensures.idle

pub close-requires-clause-queue : goal.close-requires-clause-queue
close-requires-clause-queue g c κs within =
    let q = c.in_ok-queue.queue in
    subst (All (IsPartyOf q)) (sym c.in_ok-parties.ensures.parties) (all_parties q (data_of c.args.setup.now) c.args.batches.now c.run_team.new.team.items c.run_team.ensures.ended)

pub close-requires-clause-all : goal.close-requires-clause-all
close-requires-clause-all g c κs within =
    let q = c.in_ok-queue.queue in
    let is = c.in_ok-team.ensures.parties ∙ c.in_ok-queue.ensures.members ∙ ap (new_parties q.id) (sym c.in_ok-queue.ensures.parties) in
    subst (AreAll q.parties) (sym c.in_ok-parties.ensures.parties) (all_there q c.in_ok-team.team.items c.run_team.new.team.items is c.run_team.ensures.numbers)

pub do_left-requires-clause-right : goal.do_left-requires-clause-right
do_left-requires-clause-right g c =
    let d = data_of c.args.setup.now in
    subst (All (IsRight d c.args.batches.now)) (sym c.in_ok-parties.ensures.done) (all_right c.in_ok-queue.queue d c.args.batches.now c.run_team.new.team.items c.run_team.ensures.ended)
