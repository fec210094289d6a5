use Rattle.std.proofs.Common.{◌≡◌, ◌+◌, ◌<◌, ◌⊎◌, [], length, All}
use Rattle.spin_jobs.specs.declared.claim.TheConstants.{MAX_WORKERS}
use Rattle.spin_jobs.specs.Inner.Workers.{Finished, Gathered, PastEnd}
use Rattle.spin_jobs.proofs.team.gather.Given as goal

abbrev pub invariant-team : goal.invariant-team
invariant-team g l =
    (l.caller.table_id ≡ l.fn.caller.table_id) × (l.caller.me.1 ≡ []) × (l.caller.me.0.workers + l.caller.me.0.room + length l.team.items ≡ MAX_WORKERS)
    × All (Finished (goal.F-post g l._do_job) l.count l.word) l.team.items
    × Gathered (goal.F-post g l._do_job) l.count l.caller.me.0 l.all.items × ((0 < length l.team.items) ⊎ PastEnd l.count l.caller.me.0)

abbrev pub decreases-team : goal.decreases-team
decreases-team g l = length l.team.items
