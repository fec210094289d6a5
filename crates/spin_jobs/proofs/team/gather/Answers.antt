use Rattle.std.proofs.Common.{◌∙◌, ap, sym, subst, inr, arith, All}
use Rattle.std.specs.Prelude.{Result, OnOk}
use Rattle.spin_values.specs.declared.no_memory.NoMemory.{NoMemory}
use Rattle.spin_jobs.specs.declared.claim.Claim.{Claim}
use Rattle.spin_jobs.specs.Inner.Workers.{Finished, ClaimedAll, Gathered, PastEnd}
use Rattle.spin_jobs.proofs.ClaimSteps.{joins}
use Rattle.spin_jobs.proofs.GatheredReplies.{gathers, past_end}
use Rattle.spin_jobs.proofs.LastItems.{all_front, all_end}
use Rattle.spin_jobs.proofs.team.gather.Goals as goal

pub join_seat-requires : goal.join_seat-requires
join_seat-requires g c =
    let P = Finished (goal.F-post g c.args._do_job.now) c.args.count c.args.word.now in
    let f = all_end P c.pop.new.self.items c.in-Some.worker (subst (All P) c.in-Some.ensures.items c.team.invariant.3) in (
      c.team.invariant.0 ∙ c.requires.word.0,
      f.0,
      f.1.seat.0,
      omega arith,
      λ s kept at apart there. joins c.args.word.now.key c.team.caller.id c.team.caller.me.0 c.in-Some.worker.seat.id c.in-Some.worker.seat.me.0 s.words s.views kept at apart there,
    )

pub team-preserved : goal.team-preserved
team-preserved g c =
    let may = goal.F-post g c.args._do_job.now in
    let count = c.args.count in
    let P = Finished may count c.args.word.now in
    let team = subst (All P) c.in-Some.ensures.items c.team.invariant.3 in
    let worker = c.in-Some.worker in
    let f = all_end P c.pop.new.self.items worker team in
    let v = c.team.caller.me.0 in
    let did = subst (λ (o : Result (Unit {0}) NoMemory). OnOk o (ClaimedAll count worker)) c.in_ok-outcome.was f.1.whole in
    let is = ap (λ m. m.0) c.join_seat.ensures.2 in
    let G = λ (x : Claim). Gathered may count x c.append.new.self.items in
    let E = λ (x : Claim). PastEnd count x in
    let stands = f.1.seat in
    let more = c.team.invariant.2 in
    let some_more = c.in-Some.ensures.cases in
    let workers = ap (λ x. x.workers) is in
    let room = ap (λ x. x.room) is in (
      c.join_seat.ensures.0 ∙ c.team.invariant.0,
      ap (λ m. m.1) c.join_seat.ensures.2 ∙ c.team.invariant.1,
      omega arith,
      all_front P c.pop.new.self.items worker team,
      subst G (sym is) (rw c.in_ok-append.ensures.items (gathers may count v c.team.all.items worker f.1 did c.team.invariant.4)),
      inr (subst E (sym is) (past_end count v worker did)),
    )
