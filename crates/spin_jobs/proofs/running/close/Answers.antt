use Rattle.std.proofs.Common.{◌≡◌, ◌∙◌, ap, slice_index}
use Rattle.spin_jobs.specs.Claims.{once_below}
use Rattle.spin_jobs.proofs.ClaimSteps.{learns, first_word}
use Rattle.spin_jobs.proofs.running.close.Goals as goal

pub returns : goal.returns
returns c =
    let final = c.close_with-closed.ensures.values.2 in
    let state = final.0 in
    let read : slice_index state.words 0 ≡ c.word-word.result = ap (λ l. slice_index l 0) final.2 ∙ first_word _ _ c.word-word.ensures in
    λ x. learns c.args.table.shared.key c.args.caller.id c.args.caller.me.0 c.requires.whole state.words state.views final.1.0 final.1.1 x ∙ ap (once_below x) read
