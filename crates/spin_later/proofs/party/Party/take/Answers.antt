use Rattle.crossbeam_queue.specs.Passes.{view}
use Rattle.spin_later.proofs.PassSteps.{takes_alone, learns_alone, takes_or_none, takes_agreed}
use Rattle.spin_later.proofs.party.Party.take.Goals as goal

pub pop_as-requires-clause-rule : goal.pop_as-requires-clause-rule
pop_as-requires-clause-rule g c = let v = view c.self.inside.pass in (takes_alone g.A.Agreement.allows _ v c.self.invariant.alone, learns_alone g.A.Agreement.allows _ v c.self.invariant.alone)

pub returns-clause-taken : goal.returns-clause-taken
returns-clause-taken g c =
    let pass = c.self.inside.pass in
    takes_or_none g.A.Agreement.allows c.pop_as.result pass.table_id c.pop_as.new.pass.table_id (view pass)
    (view c.pop_as.new.pass) c.args.self.now c.pop_as.ensures.queue.0 c.self.view_is c.self.invariant.alone c.pop_as.ensures.rule

pub returns-clause-agreed : goal.returns-clause-agreed
returns-clause-agreed g c = takes_agreed g.A.Agreement.allows c.pop_as.result (view c.self.inside.pass) (view c.pop_as.new.pass) c.pop_as.ensures.rule
