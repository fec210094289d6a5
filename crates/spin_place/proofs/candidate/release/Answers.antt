use Rattle.std.proofs.Common.{◌∙◌, get_or, refl, take, arith}
use Rattle.std.proofs.lemmas.List.{get_or_default}
use Rattle.spin_place.specs.Inner.Candidates.{released}
use Rattle.spin_place.proofs.CandidateLists.{rising-kept, released_none, release_absent, release_written, release_fits}
use Rattle.spin_place.proofs.candidate.release.Goals as goal
use Rattle.spin_place.proofs.candidate.release.Goals.{in-Some, in_default}

pub loop-link-init : goal.loop-link-init
loop-link-init c = released_none c.args.rest.now

pub position_of-requires : goal.position_of-requires
position_of-requires c =
    rising-kept (released (take c.loop-link.link-index c.args.links.now)) (λ x. refl) c.args.rest.now c.loop-link.rest c.loop-link.invariant c.requires.rising

pub overflow_sub-rest : goal.overflow_sub-rest
overflow_sub-rest c =
    let rest = c.loop-link.rest in
    let at = c.in-Some.at in
    let y = get_or rest at c.index-rest-at.result in
    release_fits c.args.rest.now rest c.args.links.now c.loop-link.link-index _ c.requires.rising c.loop-link.invariant (omega arith)
    at y c.requires.waits c.in-Some.ensures.0 c.in-Some.ensures.1 (get_or_default rest at c.index-rest-at.result y c.in-Some.ensures.0)

pub loop-link-preserved : goal.loop-link-preserved
loop-link-preserved c =
    elim c.match-position_of.branch [
      | in-Some w ↦
          w.rest-is
          ∙ release_written c.args.rest.now c.loop-link.rest c.args.links.now c.loop-link.link-index _ c.requires.rising c.loop-link.invariant (omega arith) w.in-Some.at
          w.index-rest-at.result w.index-rest-at-in-Some.result w.in-Some.ensures.0 w.in-Some.ensures.1
      | in_default w ↦
          w.rest-is
          ∙ release_absent c.args.rest.now c.loop-link.rest c.args.links.now c.loop-link.link-index _ c.requires.rising c.loop-link.invariant (omega arith) w.in_default.ensures
    ]
