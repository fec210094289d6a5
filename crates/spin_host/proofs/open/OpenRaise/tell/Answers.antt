use Rattle.std.proofs.Common.{◌≡◌, subst}
use Rattle.spin_raise.specs.Firing.{as_found}
use Rattle.spin_table.specs.SetupOf.{data_of}
use Rattle.spin_table.specs.States.{VersionValue}
use Rattle.spin_host.specs.Levels.{OnEvent}
use Rattle.spin_host.proofs.OpenTurns.{ended, ended_well, tells, tells_well}
use Rattle.spin_host.proofs.open.OpenRaise.tell.Goals as goal

pub returns-in-None-clause-well : goal.returns-in-None-clause-well
returns-in-None-clause-well g c =
    let o = c.args.self.now in
    let b = as_found c.bound_at-bound.result in
    let found = subst (λ (v : VersionValue). OnEvent (data_of c.args.setup.now) v.state o.top.frame.event (λ sig x. x ≡ b)) c.deref.ensures c.bound_at-bound.ensures.found in
    ended_well (data_of c.args.setup.now) o b c.next.new.self found (rw c.catalogue.ensures at c.next.ensures.stays) (rw c.catalogue.ensures at c.in-None.ensures.firing.1)
    c.next.ensures.same.0 c.end.result c.end.new.self c.requires.well c.end.ensures

pub returns-in-None-clause-turn : goal.returns-in-None-clause-turn
returns-in-None-clause-turn g c =
    let o = c.args.self.now in
    let b = as_found c.bound_at-bound.result in
    let found = subst (λ (v : VersionValue). OnEvent (data_of c.args.setup.now) v.state o.top.frame.event (λ sig x. x ≡ b)) c.deref.ensures c.bound_at-bound.ensures.found in
    ended (data_of c.args.setup.now) o b c.next.new.self found (rw c.catalogue.ensures at c.next.ensures.stays) (rw c.catalogue.ensures at c.in-None.ensures.firing.1)
    c.next.ensures.same.0 c.end.result c.end.new.self c.end.ensures

pub returns-in-Some-clause-well : goal.returns-in-Some-clause-well
returns-in-Some-clause-well g c =
    let o = c.args.self.now in
    let b = as_found c.bound_at-bound.result in
    let found = subst (λ (v : VersionValue). OnEvent (data_of c.args.setup.now) v.state o.top.frame.event (λ sig x. x ≡ b)) c.deref.ensures c.bound_at-bound.ensures.found in
    tells_well (data_of c.args.setup.now) o b c.next.new.self c.in-Some.firing found (rw c.catalogue.ensures at c.next.ensures.stays) c.in-Some.ensures.firing
    c.next.ensures.same.0 c.is_due-was_due.result c.start.new.self c.requires.well c.start.ensures.raise

pub returns-in-Some-clause-turn : goal.returns-in-Some-clause-turn
returns-in-Some-clause-turn g c =
    let o = c.args.self.now in
    let b = as_found c.bound_at-bound.result in
    let found = subst (λ (v : VersionValue). OnEvent (data_of c.args.setup.now) v.state o.top.frame.event (λ sig x. x ≡ b)) c.deref.ensures c.bound_at-bound.ensures.found in
    tells (data_of c.args.setup.now) o b c.next.new.self c.in-Some.firing found (rw c.catalogue.ensures at c.next.ensures.stays) c.in-Some.ensures.firing
    c.next.ensures.same.0 c.is_due-was_due.result c.start.new.self c.start.result c.is_due-was_due.ensures c.start.ensures.turn c.start.ensures.raise
