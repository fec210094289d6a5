use Rattle.std.proofs.Common.{refl, ap, ◌∙◌}
use Rattle.spin_host.specs.declared.firing.AnswerFault.TheVariants as fault
use Rattle.spin_host.specs.Frames.{due_in}
use Rattle.spin_c.specs.Uttered.{fault_told}
use Rattle.spin_c.proofs.OpenAnswers.{match_map, same_err}
use Rattle.spin_c.proofs.raising.Opened.decline.Goals as goal

pub declined-requires : goal.declined-requires
declined-requires g c = record { well = rw c.setup.ensures (rw c.deref.ensures c.requires.well) }

pub returns-in-Ok-clause-declines : goal.returns-in-Ok-clause-declines
returns-in-Ok-clause-declines g c =
    let is = rw c.deref.ensures at (rw c.setup.ensures at c.in-Ok.ensures) in
    λ bounds sig e are typed read.
    match_map (due_in e c.args.self.now.raise.top.frame) (is.fault bounds sig e are typed read) (λ bad. absurd (cc (bad.0)))
    (λ n _. record { tells = is.told bounds sig e are typed read; started = is.started; args = is.args; answer = is.answer; same = is.same; told_is = refl })

pub returns-in-Err-clause-declines : goal.returns-in-Err-clause-declines
returns-in-Err-clause-declines g c =
    let is = rw c.deref.ensures at (rw c.setup.ensures at c.in-Err.ensures) in
    λ bounds sig e are typed read.
    match_map (due_in e c.args.self.now.raise.top.frame) (is.fault bounds sig e are typed read)
    (λ none. (none.1, c.fault_told.ensures ∙ ap fault_told (same_err c.in-Err.fault fault.NotDue none.0))) (λ n never. absurd never)
