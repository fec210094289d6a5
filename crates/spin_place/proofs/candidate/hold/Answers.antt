use Rattle.std.proofs.Common.{get_or, not, ◌∙◌, refl, ap, take, arith}
use Rattle.std.proofs.lemmas.List.{get_or_default}
use Rattle.spin_place.specs.Inner.Candidates.{numbers_left, held}
use Rattle.spin_place.proofs.CandidateLists.{rising-kept, held_none, hold_skipped, hold_absent, hold_written, hold_fits, is_present, is_absent}
use Rattle.spin_place.proofs.candidate.hold.Goals as goal
use Rattle.spin_place.proofs.candidate.hold.Goals.{in-Some, in_default}

pub loop-link-init : goal.loop-link-init
loop-link-init c = held_none (numbers_left c.args.rest.now) c.args.rest.now c.requires.free

pub position_of-requires : goal.position_of-requires
position_of-requires c =
    rising-kept (held (numbers_left c.args.rest.now) (take c.loop-link.link-index c.args.links.now)) (λ x. refl) c.args.rest.now c.loop-link.rest c.loop-link.invariant c.requires.rising

pub position_of-requires-in-loop-link : goal.position_of-requires-in-loop-link
position_of-requires-in-loop-link c =
    rising-kept (held (numbers_left c.args.rest.now) (take c.loop-link.link-index c.args.links.now)) (λ x. refl) c.args.rest.now c.loop-link.rest c.loop-link.invariant c.requires.rising

pub loop-link-preserved-then-is_none : goal.loop-link-preserved-then-is_none
loop-link-preserved-then-is_none c =
    hold_skipped c.args.rest.now c.loop-link.rest c.args.links.now c.loop-link.link-index _ c.requires.rising c.loop-link.invariant (omega arith)
    (is_absent c.loop-link.rest _ c.position_of.result c.position_of.ensures (c.is_none.ensures ∙ ap not c.if-is_none.true))

pub overflow_add-rest : goal.overflow_add-rest
overflow_add-rest c =
    let rest = c.loop-link.rest in
    let at = c.in-Some.at in
    let y = get_or rest at c.index-rest-at.result in
    let few = hold_fits c.args.rest.now rest c.args.links.now c.loop-link.link-index c.requires.rising c.loop-link.invariant (omega arith)
    at y c.in-Some.ensures.0 (get_or_default rest at c.index-rest-at.result y c.in-Some.ensures.0) in
    omega (arith, few)

pub loop-link-preserved : goal.loop-link-preserved
loop-link-preserved c =
    elim c.match-position_of.branch [
      | in-Some w ↦
          w.rest-is
          ∙ hold_written c.args.rest.now c.loop-link.rest c.args.links.now c.loop-link.link-index _ c.requires.rising c.loop-link.invariant (omega arith) w.in-Some.at
          w.index-rest-at.result w.index-rest-at-in-Some.result
          (is_present c.loop-link.rest _ c.position_of.result c.position_of.ensures (c.is_none.ensures ∙ ap not c.if-is_none.false)) w.in-Some.ensures.0 w.in-Some.ensures.1
      | in_default w ↦
          w.rest-is
          ∙ hold_absent c.args.rest.now c.loop-link.rest c.args.links.now c.loop-link.link-index _ c.requires.rising c.loop-link.invariant (omega arith) w.in_default.ensures
    ]
