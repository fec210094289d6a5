-- The facts of the claim word, which hold between any two atomic steps, and its three kinds of step.
use Rattle.std.specs.Prelude.{◌≡◌, ◌==◌, ℕ, ◌+◌, ◌-◌, ◌<◌, ◌≤◌, List, [], ◌∷◌, ◌++◌, length}
use Rattle.std.specs.Prelude.{take, All, count_by, nat_lt, not, if◌then◌else◌, slice_index}
use Rattle.std.specs.List.{sum_by}
use mathlib.Core.Option.{some}
use lib.ListN.{get_elem?}
use Rattle.spin_jobs.specs.declared.claim.TheConstants.{MAX_WORKERS}
use Rattle.spin_jobs.specs.declared.claim.Claim.{Claim}

-- how often x stands in the list
abbrev pub times : ℕ → List ℕ → ℕ
times x xs = count_by (λ y. y == x) xs

-- 1 where x is below n, and else 0
abbrev pub once_below : ℕ → ℕ → ℕ
once_below x n = if nat_lt x n then 1 else 0

-- how many of these numbers are no job's
abbrev pub idle : ℕ → List ℕ → ℕ
idle jobs xs = count_by (λ y. not (nat_lt y jobs)) xs

abbrev pub claim : ℕ → ℕ → List ℕ → Claim
claim workers room claimed = record { workers = workers; room = room; claimed = claimed }

-- the caller before any worker is split off
abbrev pub caller : Claim
caller = claim 0 MAX_WORKERS []

-- a worker that has claimed nothing
abbrev pub worker : Claim
worker = claim 1 0 []

-- a step of the first kind, a worker split off: the caller after it
abbrev pub with_less_room : Claim → Claim
with_less_room v = claim v.workers (v.room - 1) v.claimed

-- a step of the second kind, one fetch-and-add: the number that it found joins those of the worker,
-- all of which are less
abbrev pub Took : Claim → ℕ → Claim → Type 0
Took v n w =
    (w ≡ claim v.workers v.room (v.claimed ++ n ∷ [])) × All (λ x. x < n) v.claimed

-- a step of the third kind, a worker joined: the caller after it, and the worker's view, which is
-- spent
abbrev pub together : Claim → Claim → Claim
together v w = claim (v.workers + w.workers) (v.room + w.room) (v.claimed ++ w.claimed)

abbrev pub spent : Claim
spent = claim 0 0 []

-- what each view keeps: who stands for no worker has no number; at most as many numbers as workers
-- are no job's; of one worker's numbers at most the last is no job's
pub record Fits (jobs : ℕ) (v : Claim) : Type 0 where
  pub none : v.workers ≡ 0 → v.claimed ≡ []
  pub idles : idle jobs v.claimed ≤ v.workers
  pub last : v.workers ≡ 1 → All (λ x. x < jobs) (take (length v.claimed - 1) v.claimed)

-- each number below the word was claimed once in all views together, and no other number was; the
-- word is past the jobs by no more than the numbers claimed that are no job's; and at most so many
-- workers are split off
pub record Kept (jobs : ℕ) (words : List ℕ) (views : List Claim) : Type 0 where
  pub one_word : length words ≡ 1
  pub once : (x : ℕ) →
      sum_by (λ v. times x v.claimed) views ≡ once_below x (slice_index words 0)
  pub bound : slice_index words 0 ≤ jobs + sum_by (λ v. idle jobs v.claimed) views
  pub team : sum_by (λ v. v.workers + v.room) views ≡ MAX_WORKERS
  pub fits : (seat : ℕ) (v : Claim) → get_elem? views seat ≡ some v → Fits jobs v
