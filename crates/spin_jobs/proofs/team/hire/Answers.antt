use Rattle.std.proofs.Common.{◌∙◌, ◌<◌, ◌≡◌, ap, arith}
use Rattle.spin_jobs.proofs.ClaimSteps.{splits}
use Rattle.spin_jobs.proofs.team.hire.Goals as goal

pub split_seat-requires : goal.split_seat-requires
split_seat-requires c =
    let room : 0 < c.loop.caller.me.0.room = let e : c.loop.caller.me.0.room ≡ _ = ap (λ m. m.0.room) c.loop.invariant.1 in omega arith in
    (c.loop.invariant.0 ∙ c.requires.word.0, omega arith, λ s kept at. splits c.args.word.now.key c.loop.caller.id c.loop.caller.me.0 room s.words s.views kept at)
