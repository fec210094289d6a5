-- The answers of all seats as one list.
use Rattle.std.specs.Prelude.{◌≡◌, ℕ, ◌+◌, ◌*◌, ◌<◌, ◌==◌, if◌then◌else◌, List, filter, length, slice_index_or, All}
use Rattle.core.specs.List.Sorted.{IsNonDecreasingBy}
use Rattle.spin_word.specs.declared.row.Row.{Row}
use Rattle.spin_table.specs.Setups.{SetupData}
use Rattle.spin_table.specs.States.{State, start_of}
use Rattle.spin_seat.specs.Replay.{IsReplayFrom}
use Rattle.spin_seat.specs.Seats.{SeatValue}
use Rattle.spin_seat.specs.Answers.{Answer, is_accepted, AreLegalAnswers}
use Rattle.spin_seat.specs.Runs.{RanFrom, new_of}

-- where an answer stands among others: by place, and at one place the accepted command first
abbrev pub rank : Answer → ℕ
rank answer = 2 * answer.place + (if is_accepted answer.said then 0 else 1)

-- the list has the answers of each lane in their own order and nothing else, and stands in the
-- order of places
pub record IsWeave (lanes : ℕ) (trails : ℕ → List Answer) (woven : List Answer) : Type 0 where
  pub each : (k : ℕ) → k < lanes → filter (λ answer. answer.lane == k) woven ≡ trails k
  pub lanes_are : All (λ answer. answer.lane < lanes) woven
  pub order : IsNonDecreasingBy rank woven

-- these are all answers of each seat since it was new, in a log that follows on the first state
abbrev pub HaveAnsweredFrom : SetupData → State → List SeatValue → (ℕ → List Answer) → Type 0
HaveAnsweredFrom d first seats trails =
    (k : ℕ) (seat : SeatValue) → k < length seats
    → RanFrom d first (new_of (slice_index_or seats k seat).pen) (trails k)
    (slice_index_or seats k seat).pen

-- All that the seats have answered, as one list in the order of places, is a history of the plain
-- dispatcher, which leads from the first state to the replay of the log.
abbrev pub AnswersAreLegalFrom : SetupData → State → List SeatValue → List Row → Type 0
AnswersAreLegalFrom d first seats log =
    (trails : ℕ → List Answer) (woven : List Answer)
    → HaveAnsweredFrom d first seats trails → IsWeave (length seats) trails woven
    → (last : State) × IsReplayFrom d first log last × AreLegalAnswers d first woven last

-- the same from the start
abbrev pub HaveAnswered : SetupData → List SeatValue → (ℕ → List Answer) → Type 0
HaveAnswered d = HaveAnsweredFrom d (start_of d)

abbrev pub AnswersAreLegal : SetupData → List SeatValue → List Row → Type 0
AnswersAreLegal d = AnswersAreLegalFrom d (start_of d)
