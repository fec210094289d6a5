use Rattle.std.proofs.Common.{◌≡◌, true, refl, sym, ◌∙◌, ap, arith}
use Rattle.std.proofs.lemmas.Bool.{false≢true, both_ways}
use Rattle.spin_place.specs.Unplaced.{asks_nothing, AreUnplaced}
use Rattle.spin_place.proofs.UnplacedBindings.{AreRising-stops, AreUnplaced-from, AreUnplaced-order}
use Rattle.spin_place.proofs.unplaced.are_unplaced.Goals as goal
use Rattle.spin_place.proofs.unplaced.are_unplaced.Goals.{then-from-least-via-then-from-least, then-from-least-via-else-from-least+then-not-asks_nothing}

pub returns-then-from-least-clause-told : goal.returns-then-from-least-clause-told
returns-then-from-least-clause-told c =
    let bs = c.args.bindings.now in
    let at = c.loop-binding.binding-index in
    let b = c.binding-item.result in
    let not_all : AreUnplaced bs → ⊥ = λ all. elim c.then-from-least.branch [
      | then-from-least-via-then-from-least w ↦ AreRising-stops bs at c.loop-binding.least b c.loop-binding.invariant (omega arith) c.binding-item.is (omega (arith, c.from.ensures)) all
      | then-from-least-via-else-from-least+then-not-asks_nothing w ↦
          let here : asks_nothing b ≡ true = ap asks_nothing c.binding-item.is ∙ all.0 at b (omega arith) in
          both_ways (asks_nothing b) (sym w.asks_nothing.ensures ∙ w.if-not-asks_nothing.true) here
    ] in
    (λ e. absurd (false≢true e), λ all. absurd (not_all all))

pub returns-clause-told : goal.returns-clause-told
returns-clause-told c =
    (λ e. AreUnplaced-from c.args.bindings.now c.loop-binding.binding-index c.loop-binding.least c.loop-binding.invariant (omega arith), λ all. refl)

pub returns-clause-order : goal.returns-clause-order
returns-clause-order c =
    λ e. AreUnplaced-order c.args.bindings.now (AreUnplaced-from c.args.bindings.now c.loop-binding.binding-index c.loop-binding.least c.loop-binding.invariant (omega arith))
