use Rattle.std.proofs.Common.{◌∙◌}
use Rattle.spin_filter.proofs.RoundsMade.{turns-more}
use Rattle.spin_filter.proofs.rounds.add_turns.Goals as goal

pub loop-taken-preserved : goal.loop-taken-preserved
loop-taken-preserved c =
    c.in_ok-push.ensures.items ∙ turns-more c.args.round.now.items c.loop-taken.round.items c.loop-taken.taken c.args.event c.loop-taken.invariant
