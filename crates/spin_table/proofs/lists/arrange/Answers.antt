use Rattle.std.proofs.Common.{◌++◌, ◌∙◌, get_or, refl, sym, ap, arith}
use Rattle.std.specs.Option.{option_to_list}
use Rattle.spin_table.specs.States.{binding_of}
use Rattle.spin_table.proofs.ArrangedBindings.{arranged-more}
use Rattle.spin_table.proofs.lists.arrange.Goals as goal

pub loop-number-preserved : goal.loop-number-preserved
loop-number-preserved c =
    let bs = c.args.bindings.now in
    let ns = c.args.numbers.now in
    let at = c.loop-number.number-index in
    c.in_ok-push_found.ensures
    ∙ ap (λ o. c.loop-number.list ++ option_to_list o) c.find_binding.ensures
    ∙ ap (λ l. l ++ option_to_list (binding_of bs (get_or ns at 0))) c.loop-number.invariant
    ∙ sym (arranged-more bs ns at (get_or ns at 0) (omega arith) refl)
