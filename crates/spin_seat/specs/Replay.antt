-- The state after the rows of a log.
use Rattle.std.specs.Prelude.{◌≡◌, ℕ, List, [], ◌∷◌, ◌++◌}
use Rattle.spin_word.specs.declared.row.Row.{Row}
use Rattle.spin_word.specs.declared.command.Command.{Command}
use Rattle.spin_word.specs.Rows.{StandsFor, lane_of}
use Rattle.spin_table.specs.declared.refusal.Verdicted.{Verdicted}
use Rattle.spin_table.specs.declared.refusal.Verdicted.TheVariants as verdicted
use Rattle.spin_table.specs.Setups.{SetupData}
use Rattle.spin_table.specs.States.{State, start_of}
use Rattle.spin_table.specs.Steps.{IsStep}

-- the command of the row has this verdict at the state, and leaves that one
abbrev pub IsRowStep : SetupData → State → Row → Verdicted → State → Type 0
IsRowStep d s row v next = (c : Command) × StandsFor row c × IsStep d s c v next

-- the commands of the rows, one after another, lead from a state to this one. A refused one leaves
-- it
abbrev pub IsReplayFrom : SetupData → State → List Row → State → Type 0
IsReplayFrom d s [] last = last ≡ s
IsReplayFrom d s (row ∷ rows) last =
    (v : Verdicted) × (next : State) × IsRowStep d s row v next × IsReplayFrom d next rows last

-- the same from the start
abbrev pub IsReplay : SetupData → List Row → State → Type 0
IsReplay d rows last = IsReplayFrom d (start_of d) rows last

-- the command of the row is accepted after these rows, which follow on that state
abbrev pub IsAcceptedFrom : SetupData → State → List Row → Row → Type 0
IsAcceptedFrom d first front row =
    (s : State) × IsReplayFrom d first front s
    × ((next : State) × IsRowStep d s row verdicted.Accepted next)

-- each row is accepted after the rows before it
abbrev pub IsCleanFrom : SetupData → State → List Row → Type 0
IsCleanFrom d first log =
    (front : List Row) (row : Row) (rest : List Row)
    → log ≡ front ++ row ∷ rest → IsAcceptedFrom d first front row

-- the same of the rows of one lane
abbrev pub IsLaneCleanFrom : SetupData → State → ℕ → List Row → Type 0
IsLaneCleanFrom d first lane log =
    (front : List Row) (row : Row) (rest : List Row)
    → log ≡ front ++ row ∷ rest → lane_of row ≡ lane → IsAcceptedFrom d first front row

-- the same from the start
abbrev pub IsAcceptedAfter : SetupData → List Row → Row → Type 0
IsAcceptedAfter d = IsAcceptedFrom d (start_of d)

abbrev pub IsClean : SetupData → List Row → Type 0
IsClean d = IsCleanFrom d (start_of d)

abbrev pub IsCleanFor : SetupData → ℕ → List Row → Type 0
IsCleanFor d = IsLaneCleanFrom d (start_of d)
