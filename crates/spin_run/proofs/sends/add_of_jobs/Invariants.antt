use Rattle.std.proofs.Common.{◌≡◌, ◌++◌, take}
use Rattle.std.specs.List.{flat_map}
use Rattle.spin_report.specs.Runs.{sends_of_reply}
use Rattle.spin_run.proofs.sends.add_of_jobs.Given as goal

abbrev pub invariant-loop-reply : goal.invariant-loop-reply
invariant-loop-reply l = l.sends.items ≡ l.fn.sends.items ++ flat_map sends_of_reply (take l.reply-index l.replies)
