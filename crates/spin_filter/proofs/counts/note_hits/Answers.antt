use Rattle.std.proofs.Common.{get_or, ◌∙◌, ◌<◌, ◌++◌, ◌∷◌, [], length, arith}
use Rattle.spin_filter.specs.Counting.{Marked, IsHit}
use Rattle.std.proofs.Math.Seq.{map-set_same}
use Rattle.spin_filter.specs.Counting.{binding_of}
use Rattle.spin_filter.proofs.Tallies.{changed-front, unchanged-rest}
use Rattle.spin_filter.proofs.StepCounts.{same-binding}
use Rattle.spin_filter.proofs.counts.note_hits.Goals as goal

pub loop-hit-preserved : goal.loop-hit-preserved
loop-hit-preserved c =
    let marked : Marked = record { first = c.args.is_first; taken = c.args.step.now } in
    let within : c.loop-hit.hit-index < length c.loop-hit.hit-items = omega arith in
    record {
      listed = map-set_same binding_of c.loop-hit.hit-items c.loop-hit.hit-index c.note.new.self _ (same-binding c.note.new.self (get_or c.loop-hit.hit-items c.loop-hit.hit-index _) c.note.ensures.event c.note.ensures.number) ∙ c.loop-hit.invariant.listed;
      noted = λ steps all. changed-front (IsHit (steps ++ marked ∷ [])) c.loop-hit.hit-items c.loop-hit.hit-index c.note.new.self within
          (c.note.ensures.hit steps (c.loop-hit.invariant.left steps all c.loop-hit.hit-index _ (omega arith) within))
          (c.loop-hit.invariant.noted steps all);
      left = λ steps all. unchanged-rest (IsHit steps) c.loop-hit.hit-items c.loop-hit.hit-index c.note.new.self (c.loop-hit.invariant.left steps all);
    }
