-- A hub with the homes of its seats.
use Rattle.std.specs.Prelude.{◌≡◌, ℕ}
use Rattle.spin_table.specs.SetupOf.{data_of}
use Rattle.spin_table.specs.States.{State}
use Rattle.spin_homes.specs.Rule.{TicketValue}
use Rattle.spin_seat.specs.Seats.{SeatValue}
use Rattle.spin_seat.specs.Homes.{IsKeyOf, IsSeatAt, IsTicketAt}
use Rattle.spin_seat.specs.declared.party.Party.{Party}

-- Below, A and B, C and D, E and F are the kinds of the boxed handlers, guards and authorisers.

-- the homes are those of the hub's seats, whose log follows on that state: one for each lane
pub record IsWellParty {A C E : Type 0} {B : A → Type 0} {D : C → Type 0} {F : E → Type 0} (p : Party A C E B D F)
    (first : State) : Type 0 where
  pub key : IsKeyOf p.homes.table.shared.key p.hub.log.id (data_of p.hub.setup) first
  pub slots : p.homes.table.shared.table_id.slots ≡ p.hub.log.lanes

-- the ticket is that of the home of that lane, and the seat may go there
abbrev pub IsAway : {A C E : Type 0} {B : A → Type 0} {D : C → Type 0} {F : E → Type 0}
    → Party A C E B D F → State → ℕ → TicketValue → SeatValue → Type 0
IsAway p first lane ticket seat =
    IsTicketAt p.homes.table.shared.table_id lane ticket
    × IsSeatAt p.hub.log.id (data_of p.hub.setup) first lane seat
