-- What a seat has answered, call after call.
use Rattle.std.specs.Prelude.{◌≡◌, ℕ, ◌+◌, ◌<◌, ◌≤◌, ◌==◌, true, not, List, []}
use Rattle.std.specs.Prelude.{◌++◌, Option, map, filter, length, drop, All}
use Rattle.std.specs.Option.{option_map}
use Rattle.std.specs.List.{filter_map, enumerate_from, AllAdjacentBelow}
use Rattle.spin_word.specs.declared.row.Row.{Row}
use Rattle.spin_word.specs.Rows.{lane_of}
use Rattle.spin_log.specs.Rows.{IsPrefix}
use Rattle.spin_log.specs.Pens.{PenValue, IsSamePen}
use Rattle.spin_table.specs.Setups.{SetupData}
use Rattle.spin_table.specs.States.{State, start_of}
use Rattle.spin_seat.specs.Places.{place_past, rows_past}
use Rattle.spin_seat.specs.Answers.{Answer, row_published, is_accepted, IsAnswerFrom}

-- the rows of a lane past the first so many of a front, each with its place, in a log that follows on
-- a state of that place
abbrev pub gained_past : ℕ → ℕ → ℕ → List Row → List (ℕ × Row)
gained_past place lane from front =
    filter (λ x. lane_of x.1 == lane) (enumerate_from (place_past place from + 1) (drop from front))

-- the same in a log from the start
abbrev pub gained : ℕ → ℕ → List Row → List (ℕ × Row)
gained = gained_past 0

-- the rows of accepted commands, each with its place
abbrev pub row_placed : Answer → Option (ℕ × Row)
row_placed answer = option_map (λ row. (answer.place, row)) (row_published answer.said)

abbrev pub published : List Answer → List (ℕ × Row)
published answers = filter_map row_placed answers

-- how many rows lay before each other answer, in a log that follows on a state of that place
abbrev pub pins_past : ℕ → List Answer → List ℕ
pins_past place answers =
    map (λ answer. rows_past place answer.place)
    (filter (λ answer. not (is_accepted answer.said)) answers)

-- places don't fall, and that of an accepted command rises
abbrev pub Follows : Answer → Answer → Type 0
Follows first second =
    (first.place ≤ second.place) × (is_accepted second.said ≡ true → first.place < second.place)

-- these are the answers of a seat in order, while its pen, whose log follows on the first state, came
-- from the first value to the second: its accepted commands are the rows that it gained, in order and
-- at their places, and each answer is right in its front
pub record RanFrom (d : SetupData) (first : State) (before : PenValue) (answers : List Answer)
    (after : PenValue) : Type 0 where
  pub same : IsSamePen before after
  pub front : IsPrefix before.front after.front
  pub lane : All (λ answer. answer.lane ≡ before.lane) answers
  pub rows : published answers
      ≡ gained_past first.place before.lane (length before.front) after.front
  pub rising : AllAdjacentBelow Follows answers (length answers)
  pub within : All (λ answer. place_past first.place (length before.front) ≤ answer.place) answers
  pub steps : All (IsAnswerFrom d first after.front) answers

-- the same in a log from the start
abbrev pub Ran : SetupData → PenValue → List Answer → PenValue → Type 0
Ran d = RanFrom d (start_of d)

-- the places of raises and refusals are the pins that the pen gained, in order, which count the rows
-- past a state of that place: so it is where no call wanted memory
abbrev pub GainsPinsPast : ℕ → PenValue → List Answer → PenValue → Type 0
GainsPinsPast place before answers after = after.pins ≡ before.pins ++ pins_past place answers

-- the same in a log from the start
abbrev pub GainsPins : PenValue → List Answer → PenValue → Type 0
GainsPins = GainsPinsPast 0

-- the pen when it was new
abbrev pub new_of : PenValue → PenValue
new_of pen = record pen { front = []; own = []; pins = [] }
