use Rattle.std.proofs.Common.{List, subst}
use Rattle.spin_code.specs.declared.test.Test.{Test}
use Rattle.spin_plan.specs.Planned.{IsOver}
use Rattle.spin_table.specs.SetupOf.{data_of}
use Rattle.spin_proto.proofs.RaiseLemmas.{served}
use Rattle.spin_host.proofs.FoundEvents.{found_here}
use Rattle.spin_host.proofs.open.bound_at.Goals as goal

pub returns-clause-found : goal.returns-clause-found
returns-clause-found g c =
    let a = c.args in
    found_here (data_of a.setup.now) a.version.now.state a.event c.event-def.result.now c.plan-plan.result.now.bindings c.default_of-default.result
    c.requires.sound.state c.event-def.ensures c.default_of-default.ensures c.plan-plan.ensures.order

pub returns-clause-there : goal.returns-clause-there
returns-clause-there g c =
    let a = c.args in
    (served (data_of a.setup.now) a.version.now.state a.event c.event-def.result.now c.plan-plan.result.now.bindings c.default_of-default.result
    c.requires.sound.state c.event-def.ensures c.default_of-default.ensures c.plan-plan.ensures.order a.setup.now.sound).there

pub returns-clause-over : goal.returns-clause-over
returns-clause-over g c =
    let a = c.args in
    subst (λ (tests : List Test). IsOver tests c.plan-plan.result.now) c.requires.sound.tests c.plan-plan.ensures.over
