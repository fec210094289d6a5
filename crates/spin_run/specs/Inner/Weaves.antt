-- The lists of all lanes as one list, and the order of jobs.
use Rattle.std.specs.Prelude.{◌≡◌, ℕ, ◌<◌, ◌==◌, List, [], length, map, filter, slice_index_or, All}
use Rattle.std.specs.Ordering.{nat_cmp, ordering_then}
use Rattle.std.specs.declared.cmp.Ordering.{Ordering}
use Rattle.std.specs.List.Sorted.{IsSortedByKey}
use Rattle.spin_proto.specs.declared.deed.Job.{Job}
use Rattle.spin_report.specs.Segments.{moment_cmp}
use Rattle.spin_run.specs.declared.trail.EntryIndex.{EntryIndex}
use Rattle.spin_run.specs.declared.trail.Trail.{Trail}
use Rattle.spin_run.specs.declared.lane.Lane.{Lane}
use Rattle.spin_run.specs.Trails.{mark_moment, IsNew}

-- ---- lists by lane

-- what each list has is of its lane, the k-th list's of lane k
abbrev pub AreOfTheirLanes : {X : Type 0} → (X → ℕ) → List (List X) → Type 0
AreOfTheirLanes {X} lane lists =
    (k : ℕ) (d : List X) → k < length lists → All (λ x. lane x ≡ k) (slice_index_or lists k d)

-- the list has all that the lanes' lists have, each lane's in its own order, and nothing else
pub record IsInterleaving {X : Type 0} (lane : X → ℕ) (lists : List (List X)) (all : List X)
    : Type 0 where
  pub each : (k : ℕ) (d : List X) → k < length lists
      → filter (λ x. lane x == k) all ≡ slice_index_or lists k d
  pub lanes_are : All (λ x. lane x < length lists) all

-- ---- the order of marks and of jobs

-- the marks stand in the order of their moments
abbrev pub AreMarksInOrder : List EntryIndex → Type 0
AreMarksInOrder marks = IsSortedByKey mark_moment moment_cmp marks

-- where a job stands among those of its segment: where its entry does
abbrev pub job_moment : Job → ℕ × ℕ × ℕ × ℕ
job_moment job = (job.place, job.lane, job.line, job.part)

abbrev pub job_moment_cmp : ℕ × ℕ × ℕ × ℕ → ℕ × ℕ × ℕ × ℕ → Ordering
job_moment_cmp a b =
    ordering_then (ordering_then (ordering_then (nat_cmp a.0 b.0) (nat_cmp a.1 b.1))
    (nat_cmp a.2 b.2)) (nat_cmp a.3 b.3)

abbrev pub AreJobsInOrder : List Job → Type 0
AreJobsInOrder jobs = IsSortedByKey job_moment job_moment_cmp jobs

-- ---- what the lanes have

-- the trail of a lane, without its marks
abbrev pub unmarked : Lane → Trail
unmarked lane = record { text = lane.trail.text; sends = lane.trail.sends; marks = [] }

abbrev pub marks_by_lane : List Lane → List (List EntryIndex)
marks_by_lane lanes = map (λ lane. lane.trail.marks) lanes

abbrev pub jobs_by_lane : List Lane → List (List Job)
jobs_by_lane lanes = map (λ lane. lane.jobs) lanes

-- the lane has nothing of entries and no jobs
abbrev pub IsEmptied : Lane → Type 0
IsEmptied lane = IsNew lane.trail × (lane.jobs ≡ [])
