use Rattle.std.proofs.Common.{refl, arith, slice_index, ◌∷◌, [], ◌++◌}
use Rattle.atomic_table.specs.Table.{keeps}
use Rattle.spin_jobs.specs.Claims.{claim}
use Rattle.spin_jobs.proofs.ClaimSteps.{claims, below_word}
use Rattle.spin_jobs.proofs.worker.Worker.claim.Goals as goal

pub fetch_add-requires : goal.fetch_add-requires
fetch_add-requires c =
    let v = c.args.self.now.seat.me.0 in
    let jobs = c.args.word.now.key in
    let id = c.args.self.now.seat.id in (
      c.requires.word.0,
      omega arith,
      λ s kept homes at word_fits. (
        claim v.workers v.room (v.claimed ++ slice_index s.words 0 ∷ []),
        keeps,
        tt,
        claims jobs id v c.requires.can.0 c.requires.can.1 c.requires.few s.words s.views kept at,
        ((refl, below_word jobs id v s.words s.views kept at), refl),
      ),
    )
