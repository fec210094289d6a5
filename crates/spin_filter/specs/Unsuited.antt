-- Why a script is none for a filter.
use Rattle.std.specs.Prelude.{◌≡◌, ◌≢◌, ◌<◌, ◌++◌, ℕ, List, [], All, length, take, ⊤}
use Rattle.std.specs.List.{HoldsAt}
use Rattle.spin_script.specs.declared.script.Line.{Line}
use Rattle.spin_script.specs.Soundness.{lines_in}
use Rattle.spin_script.specs.States.{ScriptData}
use Rattle.spin_filter.specs.declared.stop.Stop.{Stop}
use Rattle.spin_filter.specs.declared.stop.Stop.TheVariants as stop
use Rattle.spin_filter.specs.Rounds.{round_of, lane_of, IsSuitedWork, AreSuited, HasOneSegment}

-- Why a line stops behind lines with this round: it is of another lane; or it is a raise, or a command behind a line that
-- takes packets.
abbrev pub StopsLine : ℕ → List ℕ → Line → Stop → Type 0
StopsLine lane round line (stop.Lane number) = (number ≡ line.number) × (line.lane ≢ lane)
StopsLine lane round line (stop.InTheWay number) =
    (number ≡ line.number) × (line.lane ≡ lane) × (IsSuitedWork round line.work → ⊥)
StopsLine lane round line stop.NoMemory = ⊤
StopsLine lane round line other = ⊥

-- The first of the lines that may not stand there, and why.
pub record StopsLines (lane : ℕ) (round : List ℕ) (lines : List Line) (why : Stop) : Type 0 where
  pub place : ℕ
  pub there : place < length lines
  pub before : AreSuited lane round (take place lines)
  pub stops : HoldsAt (λ line. StopsLine lane (round ++ round_of (take place lines)) line why) lines place

-- Why the lines of a script with one segment aren't those of a filter.
abbrev pub StopsScript : List Line → Stop → Type 0
StopsScript lines stop.NoRecords = AreSuited (lane_of lines) [] lines × (round_of lines ≡ [])
StopsScript lines why = StopsLines (lane_of lines) [] lines why

-- The script is none for a filter: an endpoint is retired, there isn't one segment, or a line may not stand there.
abbrev pub IsUnsuited : ScriptData → Stop → Type 0
IsUnsuited script stop.NoMemory = ⊤
IsUnsuited script stop.Retires = All (λ segment. segment.retires ≡ []) script.segments → ⊥
IsUnsuited script stop.Segments = All (λ segment. segment.retires ≡ []) script.segments × (length script.segments ≢ 1)
IsUnsuited script why = HasOneSegment script.segments × StopsScript (lines_in script.segments) why
