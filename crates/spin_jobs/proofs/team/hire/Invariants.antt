use Rattle.std.proofs.Common.{◌-◌, ◌≡◌, [], length, All}
use Rattle.spin_jobs.specs.Claims.{claim}
use Rattle.spin_jobs.specs.Inner.Workers.{Ready}
use Rattle.spin_jobs.proofs.team.hire.Given as goal

abbrev pub invariant-loop : goal.invariant-loop
invariant-loop l =
    (l.caller.table_id ≡ l.fn.caller.table_id) × (l.caller.me ≡ (claim 0 (8 - l.counter) [], [])) × All (Ready l.word.key l.word) l.team.items × (length l.team.items ≡ l.counter)
