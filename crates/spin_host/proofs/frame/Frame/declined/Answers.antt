use Rattle.std.proofs.Common.{◌∙◌, ap, Some, None, refl, true}
use Rattle.spin_raise.specs.Firing.{as_found}
use Rattle.spin_host.proofs.AnsweredFirings.{declines_binding, declines_default}
use Rattle.spin_host.proofs.frame.Frame.declined.Goals as goal

pub returns-in-Some-Binding-clause-told : goal.returns-in-Some-Binding-clause-told
returns-in-Some-Binding-clause-told c = λ u sig.
    let f = c.args.self.now in
    declines_binding u sig (as_found c.args.bound.now) c.in-Some-Binding.at f
    record f { progress = record f.progress { from = c.position_after-self.result }; due = None }
    (c.in-Some-Binding.ensures.due.0 ∙ ap Some c.in-Some-Binding.field-0-is) (rw c.in-Some-Binding.field-0-is at c.in-Some-Binding.ensures.within)
    c.position_after-self.ensures refl refl refl refl

pub returns-in-Some-Default-clause-told : goal.returns-in-Some-Default-clause-told
returns-in-Some-Default-clause-told c = λ u sig.
    let f = c.args.self.now in
    declines_default u sig (as_found c.args.bound.now) f
    record f { progress = record f.progress { from = c.len-self.result }; due = None; asked = true }
    (c.in-Some-Default.ensures.due.0 ∙ ap Some c.in-Some-Default.field-0-is) (rw c.in-Some-Default.field-0-is at c.in-Some-Default.ensures.within)
    c.len-self.ensures refl refl refl refl
