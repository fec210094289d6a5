-- Laws of replays and of answers, for whole runs. The first state is the one on which the log follows.
use Rattle.std.specs.Prelude.{◌≡◌, ℕ, ◌<◌, List, ◌++◌, All}
use Rattle.spin_word.specs.declared.row.Row.{Row}
use Rattle.spin_word.specs.Rows.{lane_of}
use Rattle.spin_log.specs.Rows.{IsPrefix}
use Rattle.spin_log.specs.Pens.{PenValue, StandsIn}
use Rattle.spin_table.specs.Setups.{SetupData}
use Rattle.spin_table.specs.States.{State}
use Rattle.spin_seat.specs.Replay.{IsReplayFrom, IsCleanFrom, IsLaneCleanFrom}
use Rattle.spin_seat.specs.Answers.{Answer, IsAnswerFrom, AreLegalAnswers}
use Rattle.spin_seat.specs.Runs.{RanFrom}
use Rattle.spin_seat.specs.Weaves.{IsWeave}

-- Rows have one replay.
abbrev pub ReplayIsOne : Type 0
ReplayIsOne =
    (d : SetupData) (first : State) (rows : List Row) (s t : State)
    → IsReplayFrom d first rows s → IsReplayFrom d first rows t → s ≡ t

-- An answer that is right in a front is right in each log that the front begins.
abbrev pub AnswersStand : Type 0
AnswersStand =
    (d : SetupData) (first : State) (front log : List Row) (answer : Answer)
    → IsPrefix front log → IsAnswerFrom d first front answer → IsAnswerFrom d first log answer

-- A log is clean where each lane's own rows were accepted at their places in the front of its pen.
abbrev pub CleanByLanes : Type 0
CleanByLanes =
    (d : SetupData) (first : State) (lanes : ℕ) (log : List Row) (pens : ℕ → PenValue)
    → All (λ row. lane_of row < lanes) log
    → ((k : ℕ) → k < lanes → (pens k).lane ≡ k)
    → ((k : ℕ) → k < lanes → StandsIn log (pens k))
    → ((k : ℕ) → k < lanes → IsLaneCleanFrom d first (pens k).lane (pens k).front)
    → IsCleanFrom d first log

-- Lanes began at one front, each answered some calls, and each stands in the clean log, whose
-- further rows are theirs: then what they answered is legal, as one list in the order of places,
-- from the replay of that front to that of the log.
abbrev pub WeavesAreLegal : Type 0
WeavesAreLegal =
    (d : SetupData) (first : State) (lanes : ℕ) (start more : List Row) (begun last : State)
    (before after : ℕ → PenValue) (trails : ℕ → List Answer) (woven : List Answer)
    → IsCleanFrom d first (start ++ more)
    → IsReplayFrom d first start begun → IsReplayFrom d first (start ++ more) last
    → All (λ row. lane_of row < lanes) more
    → ((k : ℕ) → k < lanes → (before k).front ≡ start)
    → ((k : ℕ) → k < lanes → (before k).lane ≡ k)
    → ((k : ℕ) → k < lanes → RanFrom d first (before k) (trails k) (after k))
    → ((k : ℕ) → k < lanes → StandsIn (start ++ more) (after k))
    → IsWeave lanes trails woven → AreLegalAnswers d begun woven last
