-- The scripts of a filter, and whose turn it is.
use Rattle.std.specs.Prelude.{◌≡◌, ◌≢◌, ℕ, ◌%◌, List, [], ◌∷◌, ◌++◌, All, length, slice_index_or, replicate, ⊤}
use Rattle.std.specs.List.{flat_map}
use Rattle.spin_word.specs.declared.work.Work.{Work}
use Rattle.spin_word.specs.declared.work.Work.TheVariants as work
use Rattle.spin_script.specs.declared.script.Line.{Line}
use Rattle.spin_script.specs.declared.script.Segment.{Segment}
use Rattle.spin_script.specs.Soundness.{lines_in}
use Rattle.spin_script.specs.States.{ScriptData}

-- the event of the record of that number, counted from 0, where a round has these, one for each of its records: round
-- after round is gone through
abbrev pub event_at : List ℕ → ℕ → ℕ
event_at round number = slice_index_or round (number % length round) 0

-- the event of a packet line, once for each record that it takes
abbrev pub turns_of : Work → List ℕ
turns_of (work.Packet event count) = replicate count event
turns_of other = []

-- the events of a round, one for each of its records
abbrev pub round_of : List Line → List ℕ
round_of lines = flat_map (λ line. turns_of line.work) lines

-- the lane of the first of these lines
abbrev pub lane_of : List Line → ℕ
lane_of [] = 0
lane_of (line ∷ lines) = line.lane

-- behind lines with this round a line may take packets, and give a command as long as none has taken any
abbrev pub IsSuitedWork : List ℕ → Work → Type 0
IsSuitedWork round (work.Command c) = round ≡ []
IsSuitedWork round (work.Deed d) = ⊥
IsSuitedWork round (work.Packet event count) = ⊤

-- and it is of this lane
pub record IsSuitedAt (lane : ℕ) (round : List ℕ) (line : Line) : Type 0 where
  pub lane_is : line.lane ≡ lane
  pub work : IsSuitedWork round line.work

-- These lines may stand behind lines with this round: they are of one lane; commands come first, then lines that take
-- packets, and nothing else.
abbrev pub AreSuited : ℕ → List ℕ → List Line → Type 0
AreSuited lane round [] = ⊤
AreSuited lane round (line ∷ lines) = IsSuitedAt lane round line × AreSuited lane (round ++ turns_of line.work) lines

-- There is one segment, and no endpoint is retired.
pub record HasOneSegment (segments : List Segment) : Type 0 where
  pub retires : All (λ segment. segment.retires ≡ []) segments
  pub one : length segments ≡ 1

-- The script is one for a filter: its one segment has lines of one lane, commands first, and then some that take packets.
pub record IsForFilter (script : ScriptData) : Type 0 where
  pub segments : HasOneSegment script.segments
  pub suited : AreSuited (lane_of (lines_in script.segments)) [] (lines_in script.segments)
  pub some : round_of (lines_in script.segments) ≢ []
