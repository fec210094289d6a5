-- The history of a queue of tasks: what was put, what was taken, and what the queue holds.
use Rattle.std.specs.Prelude.{◌≡◌, ℕ, ◌<◌, ◌==◌, List, ◌++◌, map, filter, All, slice_get, Some}
use Rattle.spin_later.specs.declared.task.Task.{Task}
use Rattle.spin_later.specs.declared.known.Hand.{Hand}

-- a task was taken by the party of this number
pub record Take : Type 0 where
  pub party : ℕ
  pub task : Task

-- the tasks of this sender, in order
abbrev pub sent_by : ℕ → List Task → List Task
sent_by n tasks = filter (λ t. t.sender == n) tasks

-- the tasks that were taken, in the order of the takes
abbrev pub tasks_of : List Take → List Task
tasks_of takes = map (λ t. t.task) takes

-- those that this party took, in order
abbrev pub taken_by : ℕ → List Take → List Task
taken_by n takes = tasks_of (filter (λ t. t.party == n) takes)

-- the tasks have the numbers 0, 1, 2 and so on, in order
abbrev pub AreNumbered : List Task → Type 0
AreNumbered tasks = (k : ℕ) (t : Task) → slice_get tasks k ≡ Some t → t.number ≡ k

-- The tasks that were put, in the order of their puts, are those that were taken, in the order of
-- the takes, and then those that the queue holds. Each sender's tasks among them are numbered in
-- order. Senders and takers are parties below this number.
pub record IsHistory (parties : ℕ) (puts : List Task) (takes : List Take) (held : List Task)
    : Type 0 where
  pub order : puts ≡ tasks_of takes ++ held
  pub numbered : (n : ℕ) → AreNumbered (sent_by n puts)
  pub senders : All (λ t. t.sender < parties) puts
  pub takers : All (λ t. t.party < parties) takes

-- a party's sent tasks are those that were put as its own, and it has what was taken by it
pub record StandsIn (puts : List Task) (takes : List Take) (h : Hand) : Type 0 where
  pub sent : h.sent ≡ sent_by h.number puts
  pub taken : h.taken ≡ taken_by h.number takes

-- some history of so many parties has what these did, and leaves these tasks in the queue
abbrev pub Happened : ℕ → List Hand → List Task → Type 0
Happened parties hands held =
    (puts : List Task) × (takes : List Take)
    × IsHistory parties puts takes held × All (StandsIn puts takes) hands
