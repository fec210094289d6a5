use Rattle.std.proofs.Common.{◌≡◌, ◌∙◌, ◌++◌, ◌∷◌, [], sym, ap, subst, refl, arith, length}
use Rattle.std.specs.Prelude.{is_some}
use Rattle.spin_raise.specs.Firing.{as_found}
use Rattle.spin_table.specs.SetupOf.{data_of}
use Rattle.spin_host.specs.declared.open.OpenRaise.{OpenRaise}
use Rattle.spin_host.specs.Frames.{due_in}
use Rattle.spin_host.specs.Opening.{within_fault}
use Rattle.spin_table.specs.States.{VersionValue}
use Rattle.spin_host.specs.Levels.{OnEvent, IsOpen, IsWithin}
use Rattle.spin_host.proofs.FoundEvents.{there_if_fit}
use Rattle.spin_host.proofs.NestedLevels.{puts_on}
use Rattle.spin_host.proofs.OpenTurns.{level_fresh, within_is, no_fault}
use Rattle.spin_host.proofs.open.OpenRaise.begin_within.Goals as goal

pub returns-clause-well : goal.returns-clause-well
returns-clause-well g c =
    let d = data_of c.args.setup.now in
    let o = c.args.self.now in
    let next = record o { top = c.begin.result; below = o.below ++ o.top ∷ [] } in
    let low = there_if_fit d c.args.event c.args.args (sym c.begin_fault.ensures ∙ c.in_default.is) in
    subst (λ (x : OpenRaise). IsOpen d x) (sym c.in_ok-push.ensures.ok)
    (puts_on d o next o.top c.requires.well refl refl c.requires.well.top refl
    (omega (arith, c.if-event-raised.false, c.begin.ensures.0))
    (level_fresh (length d.events) c.begin.result c.args.event c.begin.ensures.0 c.begin.ensures.2 low) refl)

pub returns-clause-fault : goal.returns-clause-fault
returns-clause-fault g c =
    let d = data_of c.args.setup.now in
    let o = c.args.self.now in
    let b = as_found c.bound_at-bound.result in
    let found = subst (λ (v : VersionValue). OnEvent d v.state o.top.frame.event (λ sig x. x ≡ b)) c.deref.ensures c.bound_at-bound.ensures.found in
    λ bounds sig e are typed read.
    no_fault (within_fault d o.top.frame.event (is_some (due_in e o.top.frame)) c.args.event c.args.args) _ _
    (within_is d o.top.frame.event c.args.event (is_some (due_in e o.top.frame)) c.args.args
    (ap (λ x. is_some (due_in x o.top.frame)) (found bounds sig e are typed read) ∙ sym c.is_due.ensures ∙ c.if-not-is_due.false)
    (sym c.begin_fault.ensures ∙ c.in_default.is) (omega (arith, c.if-event-raised.false))) tt

pub returns-clause-begun : goal.returns-clause-begun
returns-clause-begun g c =
    let o = c.args.self.now in
    subst (λ (x : OpenRaise). IsWithin c.args.event c.args.args o x) (sym c.in_ok-push.ensures.ok) (c.begin.ensures, refl, refl, refl, refl)
