use Rattle.std.proofs.Common.{ap, ◌∙◌, inl, inr}
use Rattle.std.specs.Prelude.{is_some}
use Rattle.std.specs.Arc.{arc_value}
use Rattle.spin_host.specs.Frames.{due_in}
use Rattle.spin_host.specs.Opening.{within_fault}
use Rattle.spin_c.specs.declared.moves.Upshot.TheVariants as upshot
use Rattle.spin_c.specs.Raisings.{setup_of}
use Rattle.spin_c.specs.Uttered.{refusal_told}
use Rattle.spin_c.proofs.OpenAnswers.{match_map, same_err}
use Rattle.spin_c.proofs.raising.Opened.within.Goals as goal

pub begin_within-requires : goal.begin_within-requires
begin_within-requires g c = record { well = rw c.setup.ensures (rw c.deref.ensures c.requires.well) }

pub returns-in-Ok-clause-opens : goal.returns-in-Ok-clause-opens
returns-in-Ok-clause-opens g c =
    let o = c.args.self.now in
    λ bounds sig e are typed read.
    match_map (within_fault (setup_of o) o.raise.top.frame.event (is_some (due_in e o.raise.top.frame)) c.args.event c.args.args)
    ((rw c.deref.ensures at (rw c.setup.ensures at c.in-Ok.ensures.fault)) bounds sig e are typed read)
    (λ _. inl (c.in-Ok.ensures.begun, ap upshot.Begun c.place-place.ensures)) (λ why bad. absurd (cc (bad.0)))

pub returns-in-Err-clause-opens : goal.returns-in-Err-clause-opens
returns-in-Err-clause-opens g c =
    let o = c.args.self.now in
    let told = c.refusal_told.ensures ∙ ap (λ n. refusal_told n c.in-Err.fault) c.place-place.ensures in
    λ bounds sig e are typed read.
    match_map (within_fault (setup_of o) o.raise.top.frame.event (is_some (due_in e o.raise.top.frame)) c.args.event c.args.args)
    ((rw c.deref.ensures at (rw c.setup.ensures at c.in-Err.ensures.fault)) bounds sig e are typed read)
    (λ none. inr (c.in-Err.ensures.kept, told ∙ ap (refusal_told (arc_value o.raise.version).state.place) none))
    (λ why is. (is.1, told ∙ ap (refusal_told (arc_value o.raise.version).state.place) (same_err c.in-Err.fault why is.0)))
