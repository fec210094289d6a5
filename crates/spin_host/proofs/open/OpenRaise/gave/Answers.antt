use Rattle.std.proofs.Common.{◌≡◌, subst, Err}
use Rattle.std.specs.Arc.{arc_value}
use Rattle.spin_raise.specs.Firing.{as_found}
use Rattle.spin_table.specs.SetupOf.{data_of}
use Rattle.spin_table.specs.States.{VersionValue}
use Rattle.spin_proto.specs.Replies.{units_in}
use Rattle.spin_proto.proofs.ReplyLemmas.{on_ok_map}
use Rattle.std.specs.Prelude.{IfErr}
use Rattle.spin_host.specs.declared.firing.AnswerFault.TheVariants as fault
use Rattle.spin_host.specs.Frames.{answer_fault, due_in}
use Rattle.spin_host.specs.Levels.{OnEvent}
use Rattle.spin_host.proofs.FoundEvents.{on_typed}
use Rattle.spin_host.proofs.OpenTurns.{frame_goes_on, gave_fault, gave_kept}
use Rattle.spin_host.proofs.open.OpenRaise.gave.Goals as goal

pub returns-clause-well : goal.returns-clause-well
returns-clause-well g c =
    on_ok_map c.gave.result _ _
    (λ h. frame_goes_on (data_of c.args.setup.now) c.args.self.now c.gave.new.self c.gave.new.out c.args.self.now.started c.requires.well c.gave.ensures.event c.requires.well.few)
    c.gave.ensures.gift

pub returns-clause-told : goal.returns-clause-told
returns-clause-told g c =
    let d = data_of c.args.setup.now in
    let o = c.args.self.now in
    let b = as_found c.bound_at-bound.result in
    let found = subst (λ (v : VersionValue). OnEvent d v.state o.top.frame.event (λ sig x. x ≡ b)) c.deref.ensures c.bound_at-bound.ensures.found in
    on_ok_map c.gave.result _ _ (λ h. on_typed d (arc_value o.version).state o.top.frame.event b c.event.result.now _ found c.event.ensures (h (units_in d))) c.gave.ensures.told

pub returns-clause-fault : goal.returns-clause-fault
returns-clause-fault g c =
    let d = data_of c.args.setup.now in
    let o = c.args.self.now in
    let b = as_found c.bound_at-bound.result in
    let found = subst (λ (v : VersionValue). OnEvent d v.state o.top.frame.event (λ sig x. x ≡ b)) c.deref.ensures c.bound_at-bound.ensures.found in
    on_typed d (arc_value o.version).state o.top.frame.event b c.event.result.now _ found c.event.ensures
    (gave_fault (answer_fault c.event.result.now.sig (due_in b o.top.frame) c.args.gift.now) c.gave.result Err (IfErr c.gave.result (λ why. why ≡ fault.NoMemory)) o c.gave.new.self c.gave.new.out c.args.gift.now c.gave.new.gift c.gave.ensures.fault)

pub returns-clause-kept : goal.returns-clause-kept
returns-clause-kept g c =
    gave_kept (answer_fault c.event.result.now.sig (due_in (as_found c.bound_at-bound.result) c.args.self.now.top.frame) c.args.gift.now) c.gave.result c.args.self.now
    c.gave.new.self c.gave.new.out c.args.gift.now c.gave.new.gift c.gave.ensures.fault
