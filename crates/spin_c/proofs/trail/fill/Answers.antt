use Rattle.std.proofs.Common.{◌≡◌, ◌∙◌, ◌+◌, ◌<◌, ◌++◌, ◌∷◌, [], ap, arith, get_or, length, map, sym, take}
use Rattle.std.proofs.lemmas.Grind.{drop_more_same}
use Rattle.std.proofs.lemmas.List.{drop-set-lt, get_or-map, length-map, take_more, take_more_set}
use Rattle.spin_c.specs.Trails.{step_told}
use Rattle.spin_c.proofs.trail.fill.Goals as goal

pub loop-at-preserved : goal.loop-at-preserved
loop-at-preserved c =
    let steps = c.loop-at.steps in let found = c.args.found.now in let at = c.loop-at.at in let told = c.step_told.result in
    let here : at < length steps = omega (arith, c.loop-at-test.true, c.loop-at.auto.steps, c.min-count.ensures) in
    let there : at < length found = omega (arith, c.loop-at-test.true, c.min-count.ensures) in
    let mapped : at < length (map step_told found) = omega (arith, there, length-map found step_told) in
    let same : told ≡ get_or (map step_told found) at told = c.step_told.ensures ∙ ap step_told c.index-found-at.is ∙ sym (get_or-map step_told found at c.index-found-at.result told there) in (
      take_more_set steps at told here ∙ ap (λ l. l ++ told ∷ []) c.loop-at.invariant.0 ∙ ap (λ t. take at (map step_told found) ++ t ∷ []) same
          ∙ sym (take_more (map step_told found) at told mapped),
      drop-set-lt (at + 1) steps at told (omega arith) ∙ drop_more_same steps c.args.steps.now at c.loop-at.invariant.1,
    )
