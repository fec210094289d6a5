-- Seats as callers see them.
use Rattle.std.specs.Prelude.{◌≡◌, ◌≤◌, ◌+◌, ℕ, List, [], ◌∷◌, ◌++◌, Option, None, Some, ⊤, All}
use Rattle.spin_word.specs.declared.command.TheConstants.{MAX_PLACE}
use Rattle.spin_word.specs.declared.row.Row.{Row}
use Rattle.spin_log.specs.Pens.{PenValue}
use Rattle.spin_table.specs.Setups.{SetupData}
use Rattle.spin_code.specs.declared.test.Test.{Test}
use Rattle.spin_table.specs.States.{State, VersionValue, start_of}
use Rattle.spin_table.specs.Soundness.{IsSoundVersion}
use Rattle.spin_table.specs.Renewals.{NameGiven}
use Rattle.spin_seat.specs.Replay.{IsReplayFrom, IsLaneCleanFrom}

-- its pen, the state on which its log follows, the state of its version and the tests of the guards over which the
-- version's plans were compiled, and the row that it has read and not yet applied
pub record SeatValue : Type 0 where
  pub pen : PenValue
  pub base : State
  pub state : State
  pub tests : List Test
  pub pending : Option Row

-- its version
abbrev pub version_of : SeatValue → VersionValue
version_of seat = record { state = seat.state; tests = seat.tests }

abbrev pub kept_rows : Option Row → List Row
kept_rows None = []
kept_rows (Some row) = row ∷ []

-- what is so of every seat of a hub with this setup: its version is sound, and its state is the replay of its front from
-- its first state, less the row that it keeps; and of its front each row of its own lane was accepted at its place
pub record IsSeat (d : SetupData) (seat : SeatValue) : Type 0 where
  pub fits : seat.base.place ≤ MAX_PLACE
  pub applied : List Row
  pub replay : IsReplayFrom d seat.base applied seat.state
  pub front : seat.pen.front ≡ applied ++ kept_rows seat.pending
  pub sound : IsSoundVersion d (version_of seat)
  pub given : NameGiven seat.state
  pub clean : IsLaneCleanFrom d seat.base seat.pen.lane seat.pen.front

-- the same of a seat whose log follows on that state
abbrev pub IsSeatFrom : SetupData → State → SeatValue → Type 0
IsSeatFrom d first seat = IsSeat d seat × (seat.base ≡ first)

-- the same of one whose log begins at the start
abbrev pub IsSeatOf : SetupData → SeatValue → Type 0
IsSeatOf d = IsSeatFrom d (start_of d)

-- the log of all these seats follows on that state
abbrev pub AreFrom : State → List SeatValue → Type 0
AreFrom first seats = All (λ (seat : SeatValue). seat.base ≡ first) seats

-- the seats are those of the lanes from this one on, in order
abbrev pub AreOfLanes : ℕ → List SeatValue → Type 0
AreOfLanes lane [] = ⊤
AreOfLanes lane (seat ∷ seats) = (seat.pen.lane ≡ lane) × AreOfLanes (lane + 1) seats
