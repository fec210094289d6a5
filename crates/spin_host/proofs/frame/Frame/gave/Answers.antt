use Rattle.std.proofs.Common.{◌∙◌, ap, sym, Some}
use Rattle.spin_raise.specs.Firing.{as_found}
use Rattle.spin_host.specs.Gifts.{gift_fault}
use Rattle.spin_host.proofs.AnsweredFirings.{gives_binding, gives_default}
use Rattle.spin_host.proofs.frame.Frame.gave.Goals as goal
use Rattle.spin_word.specs.declared.command.Mode.TheVariants as mode

pub returns-in_ok-settle_binding-in-Some-Binding-clause-told : goal.returns-in_ok-settle_binding-in-Some-Binding-clause-told
returns-in_ok-settle_binding-in-Some-Binding-clause-told c = λ u.
    let f = c.args.self.now in
    let b = c.binding-binding.result.now in
    gives_binding u c.args.sig.now (as_found c.args.bound.now) f c.settle_binding.new.self c.args.out.now c.fire_gift.new.out c.in-Some-Binding.at b c.args.gift.now
    (c.in-Some-Binding.ensures.due.0 ∙ ap Some c.in-Some-Binding.field-0-is) c.binding-binding.ensures
    (ap (gift_fault c.args.sig.now b.mode) (sym c.deref.ensures) ∙ sym c.gift_fault.ensures ∙ c.in_default.is)
    record {
      word = c.in_ok-word-in-Some-Binding.word;
      args = c.fire_gift.new.args;
      left = c.in_ok-word-in-Some-Binding.ensures.args;
      merges = c.in_ok-word-in-Some-Binding.ensures.merged;
      items = c.in_ok-word-in-Some-Binding.ensures.out;
      settled = c.in_ok-settle_binding-in-Some-Binding.ensures.ok;
    }

pub returns-in_ok-word-in-Some-Default-clause-told : goal.returns-in_ok-word-in-Some-Default-clause-told
returns-in_ok-word-in-Some-Default-clause-told c = λ u.
    let f = c.args.self.now in
    gives_default u c.args.sig.now (as_found c.args.bound.now) f c.settle_default.new.self c.args.out.now c.run_gift.new.out c.args.gift.now
    (c.in-Some-Default.ensures.due.0 ∙ ap Some c.in-Some-Default.field-0-is) (rw c.in-Some-Default.field-0-is at c.in-Some-Default.ensures.within)
    (ap (gift_fault c.args.sig.now mode.Plain) (sym c.deref-in-Some-Default.ensures) ∙ sym c.gift_fault-in-Some-Default.ensures ∙ c.in_default-gift_fault.is)
    record {
      word = c.in_ok-word-in-Some-Default.word;
      args = c.run_gift.new.args;
      left = c.in_ok-word-in-Some-Default.ensures.args;
      merges = c.in_ok-word-in-Some-Default.ensures.result;
      items = c.in_ok-word-in-Some-Default.ensures.out;
      settled = c.settle_default.ensures;
    }
