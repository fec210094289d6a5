-- When a seat may be at home, and when it is away from the home of its lane.
use Rattle.std.specs.Prelude.{◌≡◌, ℕ, List, length}
use Rattle.atomic_table.specs.Seated.{TableId}
use Rattle.spin_table.specs.Setups.{SetupData}
use Rattle.spin_table.specs.States.{State}
use Rattle.spin_homes.specs.Rule.{TicketValue, AreTicketsFrom}
use Rattle.spin_seat.specs.Seats.{SeatValue, IsSeat, IsSeatFrom}
use Rattle.spin_seat.specs.Codes.{log_numbers, setup_numbers, state_numbers}
use Rattle.spin_seat.specs.declared.home.HomeKey.{HomeKey}

-- the homes are for the seats of that log, over that setup, which follows on that state
pub record IsKeyOf (key : HomeKey) (log : TableId) (d : SetupData) (first : State) : Type 0 where
  pub log_is : key.log.numbers ≡ log_numbers log
  pub setup_is : key.setup.numbers ≡ setup_numbers d
  pub first_is : key.first.numbers ≡ state_numbers first

-- it is the seat of that lane of that log, over that setup, which follows on that state
pub record IsSeatAt (log : TableId) (d : SetupData) (first : State) (lane : ℕ) (seat : SeatValue) : Type 0 where
  pub own : seat.pen.log ≡ log
  pub lane_is : seat.pen.lane ≡ lane
  pub is_seat : IsSeatFrom d first seat

-- it is the seat of that lane of whatever hub the key tells
pub record IsHomeSeat (key : HomeKey) (lane : ℕ) (seat : SeatValue) : Type 0 where
  pub d : SetupData
  pub key_is : IsKeyOf key seat.pen.log d seat.base
  pub lane_is : seat.pen.lane ≡ lane
  pub is_seat : IsSeat d seat

-- it is the ticket of that lane's home in that table
abbrev pub IsTicketAt : TableId → ℕ → TicketValue → Type 0
IsTicketAt table lane ticket = (ticket.table ≡ table) × (ticket.slot ≡ lane)

-- the table has a home for each of so many lanes, and these are the tickets of all, in order
abbrev pub AreFor : ℕ → TableId → List TicketValue → Type 0
AreFor lanes table tickets =
    (table.slots ≡ lanes) × (length tickets ≡ lanes) × AreTicketsFrom table 0 tickets
