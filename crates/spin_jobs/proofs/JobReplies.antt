-- A job of a list, and the reply to it.
use Rattle.std.proofs.Common.{◌≡◌, ℕ, ◌<◌, List, [], length, get_or, sym, subst, refl, All}
use Rattle.std.specs.Prelude.{Result, Ok, Err, IfOk, IsSomeAnd}
use Rattle.std.specs.Arc.{arc_value}
use Rattle.std.proofs.lemmas.Option.{slice_get_read}
use Rattle.spin_values.specs.declared.no_memory.NoMemory.{NoMemory}
use Rattle.spin_table.specs.Setups.{SetupData}
use Rattle.spin_proto.specs.declared.deed.Job.{Job}
use Rattle.spin_proto.specs.declared.reply.Reply.{Reply}
use Rattle.spin_proto.specs.Replies.{IsJobReply, calls_left}
use Rattle.spin_jobs.specs.Jobs.{CanRun, IsReplyTo}
use Rattle.spin_jobs.specs.Inner.Numbered.{IsReplyAt}

module _ (d : SetupData) (jobs : List Job) (number : ℕ) (job : Job) (there : number < length jobs) (is : job ≡ get_or jobs number job) where
  pub can_run_at : All (CanRun d) jobs → CanRun d job
  can_run_at all = subst (CanRun d) (sym is) (all number job there)

  pub reply_at : (r : Result Reply NoMemory) → IfOk r (λ reply. IsJobReply d (arc_value job.version).state job.call reply) → IfOk r (λ reply. calls_left reply ≡ []) → IfOk r (IsReplyAt d jobs number)
  reply_at (Ok reply) comes none = subst (λ o. IsSomeAnd o (λ job. IsReplyTo d job reply)) (sym (slice_get_read jobs (length jobs) number job refl there is)) (comes, none)
  reply_at (Err fault) comes none = tt
