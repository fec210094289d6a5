-- What holds of the lane lines and the endpoints of each script.
use Rattle.std.specs.Prelude.{◌≡◌, ◌≢◌, ◌<◌, ◌≤◌, ◌+◌, ℕ, List, length, sum_by, All, AllPairs, ⊤}
use Rattle.std.specs.List.{flat_map}
use Rattle.spin_code.specs.declared.act.ActStep.{ActStep}
use Rattle.spin_code.specs.declared.act.ActStep.TheVariants as step
use Rattle.spin_word.specs.declared.command.TheConstants.{MAX_LANES}
use Rattle.spin_grammar.specs.declared.limits.TheConstants.{LAST_ENDPOINT}
use Rattle.spin_objects.specs.Units.{HandlerUnit}
use Rattle.spin_script.specs.declared.script.Line.{Line}
use Rattle.spin_script.specs.declared.script.Segment.{Segment}
use Rattle.spin_word.specs.declared.work.Work.{Work}
use Rattle.spin_word.specs.declared.work.Work.TheVariants as work
use Rattle.spin_script.specs.States.{ScriptData, deed_count}
use Rattle.spin_script.specs.Checks.{most_deeds}
use Rattle.spin_script.specs.Soundness.{lines_in}

-- ---- lane lines

-- the number of each lane line is less than those of all later ones, over all segments
abbrev pub NumbersRise : List Segment → Type 0
NumbersRise segments = AllPairs (λ line later. line.number < later.number) (lines_in segments)

-- a command is of that lane
abbrev pub IsOfLane : ℕ → Work → Type 0
IsOfLane lane (work.Command c) = c.lane ≡ lane
IsOfLane lane w = ⊤

-- the line is of one of so many lanes, and its command of that lane
pub record IsOnLane (lanes : ℕ) (line : Line) : Type 0 where
  pub below : line.lane < lanes
  pub own : IsOfLane line.lane line.work

-- there are so many lanes, from 1 to 8, and each line is of one of them
pub record HasLanes (lanes : ℕ) (segments : List Segment) : Type 0 where
  pub some : 1 ≤ lanes
  pub few : lanes ≤ MAX_LANES
  pub each : All (IsOnLane lanes) (lines_in segments)

-- how many deeds there are, commands among them, a packet line counting each of its records
abbrev pub deeds_in : List Segment → ℕ
deeds_in segments = sum_by (λ line. deed_count line.work) (lines_in segments)

-- ---- endpoints

-- the endpoints that are retired, segment by segment
abbrev pub retired_in : List Segment → List ℕ
retired_in segments = flat_map (λ s. s.retires) segments

-- where the step sends, one of so many endpoints is there
abbrev pub IsSentBelow : ℕ → ActStep → Type 0
IsSentBelow endpoints (step.Send endpoint arg from) = endpoint < endpoints
IsSentBelow endpoints other = ⊤

abbrev pub SendsBelow : ℕ → HandlerUnit → Type 0
SendsBelow endpoints h = All (IsSentBelow endpoints) h.act.steps

-- there are at most 64 endpoints, their names differ, and each that is retired or sent to is there
pub record HasEndpoints (names : List (List ℕ)) (handlers : List HandlerUnit)
    (segments : List Segment) : Type 0 where
  pub few : length names ≤ LAST_ENDPOINT + 1
  pub differ : AllPairs (λ name later. name ≢ later) names
  pub retired : All (λ endpoint. endpoint < length names) (retired_in segments)
  pub sent : All (SendsBelow (length names)) handlers

-- ---- each script

pub record IsOrderly (d : ScriptData) : Type 0 where
  pub numbers : NumbersRise d.segments
  pub lanes : HasLanes d.lanes d.segments
  pub deeds : deeds_in d.segments ≤ most_deeds
  pub endpoints : HasEndpoints d.endpoints d.setup.handlers d.segments
