-- What one worker does, and what the caller gathers.
use Rattle.std.specs.Prelude.{◌≡◌, ℕ, ◌<◌, ◌≤◌, List, [], ◌∷◌, ◌++◌, map, All, OnOk}
use Rattle.std.specs.Prelude.{Ok}
use Rattle.atomic_table.specs.declared.shared.Seat.{Seat}
use Rattle.atomic_table.specs.declared.shared.Shared.{Shared}
use Rattle.spin_jobs.specs.declared.claim.Claim.{Claim}
use Rattle.spin_jobs.specs.declared.claim.ClaimRule.{ClaimRule}
use Rattle.spin_jobs.specs.declared.worker.Done.{Done}
use Rattle.spin_jobs.specs.declared.worker.Worker.{Worker}
use Rattle.spin_jobs.specs.Claims.{worker, times}
use Rattle.spin_jobs.specs.Inner.Numbered.{Outcomes}

-- the seat is at this word, whose table was made for so many jobs
abbrev pub OfWord : ℕ → Shared (Unit {0}) Claim ℕ ClaimRule → Seat (Unit {0}) Claim → Type 0
OfWord count word seat =
    (seat.table_id ≡ word.table_id) × (word.table_id.words ≡ 1) × (word.key ≡ count)

-- the seat stands for one worker, whose numbers so far are all of jobs
abbrev pub CanClaim : ℕ → Seat (Unit {0}) Claim → Type 0
CanClaim count seat = (seat.me.0.workers ≡ 1) × All (λ x. x < count) seat.me.0.claimed

-- the seat stands for one worker
abbrev pub StandsForOne : Seat (Unit {0}) Claim → Type 0
StandsForOne seat = (seat.me.1 ≡ []) × (seat.me.0.workers ≡ 1) × (seat.me.0.room ≡ 0)

-- a worker at this word that has not begun
abbrev pub Ready : ℕ → Shared (Unit {0}) Claim ℕ ClaimRule → Worker → Type 0
Ready count word w =
    OfWord count word w.seat × (w.seat.me ≡ (worker, [])) × (w.done.items ≡ [])

-- the numbers of what was done, in order
abbrev pub numbers : List Done → List ℕ
numbers done = map (λ d. d.number) done

-- the number is below the count, and the reply may be that to the job of this number
abbrev pub IsRight : Outcomes → ℕ → Done → Type 0
IsRight may count done = (done.number < count) × may done.number (Ok done.reply)

-- it did all that it claimed, up to a last number that is no job's
abbrev pub ClaimedAll : ℕ → Worker → Type 0
ClaimedAll count w =
    (last : ℕ) × (count ≤ last)
    × (w.seat.me.0.claimed ≡ numbers w.done.items ++ last ∷ [])

-- a worker that has ended: what it did is right, and where there was memory it did all
pub record Ended (may : Outcomes) (count : ℕ) (w : Worker) : Type 0 where
  pub seat : StandsForOne w.seat
  pub right : All (IsRight may count) w.done.items
  pub whole : OnOk w.outcome (ClaimedAll count w)

-- a worker at this word that has ended
abbrev pub Finished : Outcomes → ℕ → Shared (Unit {0}) Claim ℕ ClaimRule → Worker → Type 0
Finished may count word w = (w.seat.table_id ≡ word.table_id) × Ended may count w

-- what the caller has gathered: what was done is right, and of the jobs' numbers just those were
-- claimed that were done
pub record Gathered (may : Outcomes) (count : ℕ) (v : Claim) (done : List Done) : Type 0 where
  pub right : All (IsRight may count) done
  pub same : (x : ℕ) → x < count → times x v.claimed ≡ times x (numbers done)

-- some number past the jobs was claimed
abbrev pub PastEnd : ℕ → Claim → Type 0
PastEnd count v = (last : ℕ) × (count ≤ last) × (0 < times last v.claimed)
