use Rattle.std.proofs.Common.{◌∙◌, ap, subst, All}
use Rattle.crossbeam_queue.specs.Passes.{view}
use Rattle.spin_jobs.proofs.LastItems.{all_front, all_end}
use Rattle.spin_later.specs.Parties.{PartyValue, IsPartyOf}
use Rattle.spin_later.proofs.NewPasses.{gathers_at, gathered}
use Rattle.spin_later.proofs.queue.Queue.gather.Goals as goal

pub absorb-requires-clause-rule : goal.absorb-requires-clause-rule
absorb-requires-clause-rule g c =
    let P = IsPartyOf c.args.self.now in
    let all = subst (All P) c.in-Some-pop.ensures.items c.loop-party.invariant.4 in
    let own = all_end P c.pop-in-loop-party.new.self.items c.in-Some-pop.party all in
    gathers_at g.A.Agreement.allows _ (view c.loop-party.taker) _ (view c.party.inside.pass) c.args.self.now.parties c.loop-party.invariant.2 c.party.invariant.alone
    (ap (λ (p : PartyValue). p.parties) c.party.view_is ∙ own.1)

pub loop-party-preserved : goal.loop-party-preserved
loop-party-preserved g c =
    let P = IsPartyOf c.args.self.now in
    let all = subst (All P) c.in-Some-pop.ensures.items c.loop-party.invariant.4 in
    let kept = c.absorb.ensures.queue in
    let now = gathered c.party.inside.pass.table_id c.args.self.now.parties (view c.loop-party.taker) (view c.party.inside.pass)
    (view c.absorb.new.pass) c.in-Some-pop.party c.loop-party.others.items c.pop-in-loop-party.new.self.items _
    c.loop-party.invariant.2 c.party.invariant.alone c.party.view_is c.in-Some-pop.ensures.items c.absorb.ensures.rule c.loop-party.invariant.3 in
    (kept.0 ∙ c.loop-party.invariant.0, kept.2 ∙ c.loop-party.invariant.1, now.0, now.1, all_front P c.pop-in-loop-party.new.self.items c.in-Some-pop.party all)
