use Rattle.std.proofs.Common.{◌≡◌, ◌≤◌, ◌∙◌, List, All, length, sym, ap, subst, arith}
use Rattle.spin_place.specs.declared.binding.Binding.{Binding}
use Rattle.spin_place.specs.Precedence.{numbers_of}
use Rattle.spin_objects.specs.Units.{guards_of}
use Rattle.spin_table.specs.Orders.{arranged}
use Rattle.spin_table.proofs.ArrangedBindings.{All-arranged, length-order, arranged-in_place}
use Rattle.spin_table.proofs.lists.plan_of.Goals as goal

pub returns-then-are_unplaced-clause-order : goal.returns-then-are_unplaced-clause-order
returns-then-are_unplaced-clause-order g c =
    let bs = c.args.bindings.now in (
      numbers_of bs,
      c.are_unplaced.ensures.order c.if-are_unplaced.true,
      c.in_ok-compiled.ensures.plan ∙ sym (arranged-in_place bs c.requires.distinct),
    )

pub compiled-requires-2-clause-few : goal.compiled-requires-2-clause-few
compiled-requires-2-clause-few g c =
    let bs = c.args.bindings.now in
    let made : c.as_slice-2.result.now ≡ arranged bs c.in-Ok.numbers = c.as_slice-2.ensures ∙ c.in_ok-list.ensures ∙ ap (arranged bs) c.as_slice.ensures in
    omega (arith, ap length made, length-order bs c.in-Ok.numbers c.in-Ok.ensures, c.requires.few)

pub compiled-requires-2-clause-own : goal.compiled-requires-2-clause-own
compiled-requires-2-clause-own g c =
    let bs = c.args.bindings.now in
    let count = length (guards_of c.args.setup.now.catalogue) in
    let made : c.as_slice-2.result.now ≡ arranged bs c.in-Ok.numbers = c.as_slice-2.ensures ∙ c.in_ok-list.ensures ∙ ap (arranged bs) c.as_slice.ensures in
    subst (λ (l : List Binding). All (λ (b : Binding). b.own_guard ≤ count) l) (sym made)
    (All-arranged (λ (b : Binding). b.own_guard ≤ count) bs c.in-Ok.numbers c.requires.own)

pub compiled-requires-2-clause-imposed : goal.compiled-requires-2-clause-imposed
compiled-requires-2-clause-imposed g c =
    let bs = c.args.bindings.now in
    let count = length (guards_of c.args.setup.now.catalogue) in
    let made : c.as_slice-2.result.now ≡ arranged bs c.in-Ok.numbers = c.as_slice-2.ensures ∙ c.in_ok-list.ensures ∙ ap (arranged bs) c.as_slice.ensures in
    subst (λ (l : List Binding). All (λ (b : Binding). All (λ n. n ≤ count) b.imposed) l) (sym made)
    (All-arranged (λ (b : Binding). All (λ n. n ≤ count) b.imposed) bs c.in-Ok.numbers c.requires.imposed)

pub returns-in_err-compiled-2-clause-ticks : goal.returns-in_err-compiled-2-clause-ticks
returns-in_err-compiled-2-clause-ticks g c =
    let bs = c.args.bindings.now in
    let made : c.as_slice-2.result.now ≡ arranged bs c.in-Ok.numbers = c.as_slice-2.ensures ∙ c.in_ok-list.ensures ∙ ap (arranged bs) c.as_slice.ensures in
    omega (arith, ap length made, length-order bs c.in-Ok.numbers c.in-Ok.ensures, c.compiled-2.ensures.ticks)

pub returns-clause-ticks : goal.returns-clause-ticks
returns-clause-ticks g c =
    let bs = c.args.bindings.now in
    let made : c.as_slice-2.result.now ≡ arranged bs c.in-Ok.numbers = c.as_slice-2.ensures ∙ c.in_ok-list.ensures ∙ ap (arranged bs) c.as_slice.ensures in
    omega (arith, ap length made, length-order bs c.in-Ok.numbers c.in-Ok.ensures, c.compiled-2.ensures.ticks)
