use Rattle.std.proofs.Common.{◌≡◌, subst, refl, length}
use Rattle.std.specs.Arc.{arc_value}
use Rattle.spin_raise.specs.Firing.{as_found}
use Rattle.spin_table.specs.SetupOf.{data_of}
use Rattle.spin_table.specs.States.{VersionValue}
use Rattle.spin_host.specs.Levels.{OnEvent}
use Rattle.spin_host.proofs.FoundEvents.{on_found}
use Rattle.spin_host.proofs.NestedLevels.{goes_on}
use Rattle.spin_host.proofs.OpenTurns.{level_kept}
use Rattle.spin_host.proofs.open.OpenRaise.do_act.Goals as goal

pub returns-clause-well : goal.returns-clause-well
returns-clause-well g c =
    let d = data_of c.args.setup.now in
    let o = c.args.self.now in
    let top = record o.top { frame = c.do_act.new.self; ups = c.keep_ups.new.ups } in
    goes_on d o record o { top = top; given = c.do_act.new.out } c.requires.well refl refl c.in_ok-do_act.ensures.event
    (level_kept (length d.events) o.top.frame.event c.events.result top c.in_ok-do_act.ensures.event c.events.ensures.value c.requires.well.top.0 c.in_ok-keep_ups.ensures.rise) c.requires.well.few

pub returns-clause-told : goal.returns-clause-told
returns-clause-told g c =
    let d = data_of c.args.setup.now in
    let o = c.args.self.now in
    let b = as_found c.bound_at-bound.result in
    let found = subst (λ (v : VersionValue). OnEvent d v.state o.top.frame.event (λ sig x. x ≡ b)) c.deref.ensures c.bound_at-bound.ensures.found in
    on_found d (arc_value o.version).state o.top.frame.event b _ found (λ sig typed. (rw c.catalogue.ensures at c.in_ok-do_act.ensures.told) sig)
