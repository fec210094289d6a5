use Rattle.std.proofs.Common.{◌∙◌, ap, Some}
use Rattle.spin_raise.specs.Firing.{units_of, as_found}
use Rattle.spin_host.proofs.AnsweredFirings.{does_binding, does_default}
use Rattle.spin_host.proofs.frame.Frame.do_act.Goals as goal

pub returns-in_ok-settle_binding-in-Some-Binding-clause-told : goal.returns-in_ok-settle_binding-in-Some-Binding-clause-told
returns-in_ok-settle_binding-in-Some-Binding-clause-told g c = λ sig.
    let f = c.args.self.now in
    does_binding (units_of c.args.cat.now) sig (as_found c.args.bound.now) f c.settle_binding.new.self c.args.out.now c.fire.new.out c.in-Some-Binding.at c.binding-binding.result.now
    (c.in-Some-Binding.ensures.due.0 ∙ ap Some c.in-Some-Binding.field-0-is) c.binding-binding.ensures
    record {
      word = c.in_ok-word-in-Some-Binding.word;
      args = c.fire.new.args;
      left = c.in_ok-word-in-Some-Binding.ensures.args;
      merges = c.in_ok-word-in-Some-Binding.ensures.merged;
      items = c.in_ok-word-in-Some-Binding.ensures.out;
      settled = c.in_ok-settle_binding-in-Some-Binding.ensures.ok;
    }

pub returns-in_ok-word-in-Some-Default-clause-told : goal.returns-in_ok-word-in-Some-Default-clause-told
returns-in_ok-word-in-Some-Default-clause-told g c = λ sig.
    let f = c.args.self.now in
    does_default (units_of c.args.cat.now) sig (as_found c.args.bound.now) f c.settle_default.new.self c.args.out.now c.run_handler.new.out
    (c.in-Some-Default.ensures.due.0 ∙ ap Some c.in-Some-Default.field-0-is) (rw c.in-Some-Default.field-0-is at c.in-Some-Default.ensures.within)
    record {
      word = c.in_ok-word-in-Some-Default.word;
      args = c.run_handler.new.args;
      left = c.in_ok-word-in-Some-Default.ensures.args;
      merges = c.in_ok-word-in-Some-Default.ensures.result;
      items = c.in_ok-word-in-Some-Default.ensures.out;
      settled = c.settle_default.ensures;
    }
