-- Jobs that are done by their numbers, counted from 0.
use Rattle.std.specs.Prelude.{◌≡◌, ℕ, ◌<◌, List, length, Result, Ok, slice_get, IsSomeAnd}
use Rattle.spin_values.specs.declared.no_memory.NoMemory.{NoMemory}
use Rattle.spin_table.specs.Setups.{SetupData}
use Rattle.spin_proto.specs.declared.deed.Job.{Job}
use Rattle.spin_proto.specs.declared.reply.Reply.{Reply}
use Rattle.spin_jobs.specs.Jobs.{IsReplyTo}

-- P of each number below the count
abbrev pub EachBelow : ℕ → (ℕ → Type 0) → Type 0
EachBelow count P = (number : ℕ) → number < count → P number

-- which outcomes the job of each number may have
abbrev pub Outcomes : Type 1
Outcomes = ℕ → Result Reply NoMemory → Type 0

-- as many replies as the count, each of which the job of its number may have
pub record AreGivenBy (may : Outcomes) (count : ℕ) (replies : List Reply) : Type 0 where
  pub as_many : length replies ≡ count
  pub each : (k : ℕ) → k < count → IsSomeAnd (slice_get replies k) (λ reply. may k (Ok reply))

-- the job of that number is there, and this is the reply to it
abbrev pub IsReplyAt : SetupData → List Job → ℕ → Reply → Type 0
IsReplyAt d jobs number reply = IsSomeAnd (slice_get jobs number) (λ job. IsReplyTo d job reply)
