-- What the history of a queue says of each task.
use Rattle.std.specs.Prelude.{◌≡◌, ℕ, ◌+◌, ◌<◌, ◌==◌, ◌&&◌, Bool, List, length}
use Rattle.std.specs.Prelude.{All, Contains, count_by, slice_get, Some}
use Rattle.std.specs.List.{sum_by}
use Rattle.spin_later.specs.declared.task.Task.{Task}
use Rattle.spin_later.specs.declared.known.Hand.{Hand}
use Rattle.spin_later.specs.History.{Happened}

-- the task is the one of that sender and number
abbrev pub is_task : ℕ → ℕ → Task → Bool
is_task sender number t = (t.sender == sender) && (t.number == number)

-- how often that task stands in the list
abbrev pub times : ℕ → ℕ → List Task → ℕ
times sender number tasks = count_by (is_task sender number) tasks

-- of each number below that one there is one party among these
abbrev pub AreTeam : ℕ → List Hand → Type 0
AreTeam parties hands = (n : ℕ) → n < parties → count_by (λ h. n == h.number) hands ≡ 1

-- Where these are all parties of a queue and what is left of it, each task that a party sent was taken by all of them
-- together once, or else is left once.
abbrev pub TakenOrLeftOnce : Type 0
TakenOrLeftOnce =
    (parties : ℕ) (hands : List Hand) (left : List Task) → AreTeam parties hands → Happened parties hands left
    → (h : Hand) → Contains hands h → (k : ℕ) → k < length h.sent
    → sum_by (λ own. times h.number k own.taken) hands + times h.number k left ≡ 1

-- the task is the one that its sender sent under its number, where its sender is among these
abbrev pub IsAsSent : List Hand → Task → Type 0
IsAsSent hands t = All (λ h. h.number ≡ t.sender → slice_get h.sent t.number ≡ Some t) hands

-- Each task that one of these took, and each that is left, is as it was sent.
abbrev pub TasksAreAsSent : Type 0
TasksAreAsSent =
    (parties : ℕ) (hands : List Hand) (left : List Task) → Happened parties hands left
    → All (λ own. All (IsAsSent hands) own.taken) hands × All (IsAsSent hands) left
