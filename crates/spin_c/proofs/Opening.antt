-- The lane of the first seat of a hub, at which the others wait; and all seats of a hub, from a lane at which they wait.
use Rattle.std.proofs.Common.{◌≡◌, ◌∙◌, ◌+◌, ◌<◌, ◌⊎◌, ◌++◌, ℕ, List, [], ◌∷◌, arith, refl, sym, ap, subst, inl, inr, length, drop}
use Rattle.std.specs.Prelude.{All, None, Option, Some, map, slice_index_or}
use Rattle.std.specs.List.{remove}
use Rattle.std.specs.Arc.{arc_value}
use Rattle.std.proofs.lemmas.List.{length-map}
use Rattle.std.proofs.lemmas.List.Elements.{All-head, All-tail}
use Rattle.spin_homes.specs.Rule.{AreTicketsFrom, TicketValue}
use Rattle.spin_log.proofs.RowLists.{all_cons}
use Rattle.spin_table.specs.SetupOf.{data_of}
use Rattle.spin_table.specs.Setups.{SetupData}
use Rattle.spin_table.specs.States.{State}
use Rattle.spin_seat.specs.Seats.{AreFrom, SeatValue, AreOfLanes, IsSeatFrom}
use Rattle.spin_seat.specs.Parties.{IsWellParty}
use Rattle.spin_seat.specs.RenewedHubs.{AreAllSeats, KnowMore}
use Rattle.spin_seat.specs.declared.party.Away.{Away}
use Rattle.spin_seat.specs.declared.party.Party.{Party}
use Rattle.spin_script.specs.States.{NativeData}
use Rattle.spin_word.specs.declared.command.TheConstants.{MAX_LANES}
use Rattle.spin_c.specs.declared.ask.Ask.TheVariants as ask
use Rattle.spin_c.specs.declared.ask.Outcome.{Outcome}
use Rattle.spin_c.specs.declared.ask.Outcome.TheVariants as outcome
use Rattle.spin_c.specs.declared.lane.Held.{Held}
use Rattle.spin_c.specs.declared.lane.Held.TheVariants as held
use Rattle.spin_c.specs.declared.lane.Lane.{Lane}
use Rattle.spin_c.specs.declared.lane.Room.{Room}
use Rattle.spin_c.specs.declared.told.SpinAnswer.{SpinAnswer}
use Rattle.spin_c.specs.Tellings.{TellsOf}
use Rattle.spin_c.specs.Turns.{DoesOpen, IsCalled, IsCount, NotOpened, OpensTo, Turns}
use Rattle.spin_c.specs.Verdicts.{no_natives}
use Rattle.spin_c.specs.Waiting.{AreHome, AreLaid, AreWaiting, HasRoom, IsAwayAt, IsHome, IsWellAt, IsWellLane, IsWhole, present, seats_at}

abbrev pub seat_of : Away → SeatValue
seat_of away = away.seat

abbrev pub ticket_of : Away → TicketValue
ticket_of away = away.ticket

module _ {A C E : Type 0} {B : A → Type 0} {D : C → Type 0} {F : E → Type 0} (p : Party A C E B D F) (first : State) where
  abbrev Own : SeatValue → Type 0
  Own seat = seat.pen.log ≡ p.hub.log.id

  abbrev From : SeatValue → Type 0
  From = IsSeatFrom (data_of p.hub.setup) first

  -- seats of a hub with their tickets, in the order of its lanes from this one on, wait as they should
  all_waiting : (lane : ℕ) (aways : List Away) → All Own (map seat_of aways) → All From (map seat_of aways) → AreOfLanes lane (map seat_of aways)
      → AreTicketsFrom p.homes.table.shared.table_id lane (map ticket_of aways) → AreWaiting (IsAwayAt p first) lane (map Some aways)
  all_waiting lane [] own whole order tickets = tt
  all_waiting lane (away ∷ aways) own whole order tickets = (
    (
      (tickets.0, tickets.1),
      record {
        own = All-head Own away.seat (map seat_of aways) own;
        lane_is = order.0;
        is_seat = All-head From away.seat (map seat_of aways) whole;
      },
    ),
    all_waiting (lane + 1) aways (All-tail Own away.seat (map seat_of aways) own) (All-tail From away.seat (map seat_of aways) whole) order.1 tickets.2,
  )

  -- where all slots have a seat, these are all as they should, and in order
  record AllHome (lane : ℕ) (slots : List (Option Away)) : Type 0 where
    own : All Own (map seat_of (present slots))
    count : length (present slots) ≡ length slots
    order : AreOfLanes lane (map seat_of (present slots))
    from : All From (map seat_of (present slots))
    tickets : AreTicketsFrom p.homes.table.shared.table_id lane (map ticket_of (present slots))

  all_home : (lane : ℕ) (slots : List (Option Away)) → AreWaiting (IsAwayAt p first) lane slots → All IsHome slots → AllHome lane slots
  all_home lane [] waits home =
      record { own = λ k x h. absurd (omega (arith, h)); count = refl; order = tt; from = λ k x h. absurd (omega (arith, h)); tickets = tt }
  all_home lane (None ∷ slots) waits home = absurd (All-head IsHome None slots home)
  all_home lane (Some away ∷ slots) waits home =
      let more = all_home (lane + 1) slots waits.1 (All-tail IsHome (Some away) slots home) in record {
        own = all_cons Own away.seat (map seat_of (present slots)) waits.0.1.own more.own;
        count = omega (arith, more.count);
        order = (waits.0.1.lane_is, more.order);
        from = all_cons From away.seat (map seat_of (present slots)) waits.0.1.is_seat more.from;
        tickets = (waits.0.0.0, waits.0.0.1, more.tickets);
      }

-- those behind the first slot wait from lane 1 on
behind : (fits : ℕ → Away → Type 0) (slots : List (Option Away)) → AreWaiting fits 0 slots → AreWaiting fits 1 (drop 1 slots)
behind fits [] waits = tt
behind fits (None ∷ slots) waits = waits
behind fits (Some away ∷ slots) waits = waits.1

one_more : (slots : List (Option Away)) → (slots ≡ [] → ⊥) → length slots ≡ 1 + length (drop 1 slots)
one_more [] some' = absurd (some' refl)
one_more (slot ∷ slots) some' = omega arith

module _ {A C E : Type 0} {B : A → Type 0} {D : C → Type 0} {F : E → Type 0} where
  -- what is so of a lane's seat and those that wait, where none is out
  pub record AreAllThere (l : Lane A C E B D F) : Type 0 where
    pub all : AreAllSeats (data_of (arc_value l.party).hub.setup) (arc_value l.party).hub.log (seats_at l)
    pub from : AreFrom l.away.seat.base (seats_at l)
    pub tickets : AreTicketsFrom (arc_value l.party).homes.table.shared.table_id 0 (map ticket_of (l.away ∷ present (drop 1 l.waiting)))
    pub count : length l.waiting ≡ (arc_value l.party).hub.log.lanes
    pub some : 0 < length l.waiting
    pub room : HasRoom (length l.waiting) l.room

  pub all_there : (l : Lane A C E B D F) → IsWellLane l → AreHome l.waiting → AreAllThere l
  all_there l well home = go well.0.whole
    where
      go : IsWhole (arc_value l.party).hub.log.lanes l.away.seat l.waiting l.room → AreAllThere l
      go (inl none) = absurd (home.0 none)
      go (inr w) =
          let p = arc_value l.party in
          let first = l.away.seat.base in
          let others = drop 1 l.waiting in
          let all = all_home p first 1 others (behind (IsAwayAt p first) l.waiting well.0.others) home.1 in
          let more = one_more l.waiting home.0 in
          let seats = map seat_of (present others) in
          let from = all_cons (From p first) l.away.seat seats well.0.own.1.is_seat all.from in
          record {
            all = record {
              some = omega (arith, w.1, more);
              own = all_cons (Own p first) l.away.seat seats well.0.own.1.own all.own;
              all = omega (arith, w.1, more, all.count, length-map (present others) seat_of);
              order = (w.0, all.order);
              first = first;
              seats_are = from;
            };
            from = λ k seat within. (from k seat within).1;
            tickets = (well.0.own.0.0, well.0.own.0.1 ∙ w.0, all.tickets);
            count = w.1;
            some = omega (arith, more);
            room = (omega (arith, w.1, w.2.0), omega (arith, w.1, w.2.1));
          }

  -- the first of all seats, at which the others wait, is as it should
  pub laid_well : (p : Party A C E B D F) (away : Away) (waiting : List (Option Away)) (room : Room) (seats : List SeatValue) (tickets : List TicketValue) (first : State)
      → IsWellParty p first → AreAllSeats (data_of p.hub.setup) p.hub.log seats → AreFrom first seats
      → AreTicketsFrom p.homes.table.shared.table_id 0 tickets → AreLaid seats tickets away waiting → HasRoom (length seats) room → IsWellAt p away waiting room
  laid_well p away waiting room seats tickets first party all from given laid places =
      let Same = λ (s : SeatValue). s.base ≡ first in
      let rest = map seat_of laid.others in
      let is = laid.seats_are in
      let own = subst (All (Own p first)) is all.own in
      let firsts = subst (All Same) is from in
      let order = subst (AreOfLanes 0) is all.order in
      let tickets' = subst (AreTicketsFrom p.homes.table.shared.table_id 0) laid.tickets_are given in
      let begins = All-head Same away.seat rest firsts in
      let whole : All (From p first) (away.seat ∷ rest) =
      λ k seat within. ((subst (All (IsSeatFrom (data_of p.hub.setup) all.first)) is all.seats_are k seat within).0, firsts k seat within) in
      let waits = all_waiting p first 1 laid.others (All-tail (Own p first) away.seat rest own) (All-tail (From p first) away.seat rest whole) order.1 tickets'.2 in
      record {
        party = subst (IsWellParty p) (sym begins) party;
        own = (
          (tickets'.0, tickets'.1 ∙ sym order.0),
          record { own = All-head (Own p first) away.seat rest own; lane_is = refl; is_seat = ((All-head (From p first) away.seat rest whole).0, refl) },
        );
        others = subst (AreWaiting (IsAwayAt p away.seat.base) 0) (sym laid.waiting_is)
            (subst (λ (f : State). AreWaiting (IsAwayAt p f) 1 (map Some laid.others)) (sym begins) waits);
        whole = inr (
          order.0,
          omega (arith, ap length is, ap length laid.waiting_is, all.all, length-map laid.others seat_of, length-map laid.others (λ (a : Away). Some a)),
          (omega (arith, all.all, places.0), omega (arith, all.all, places.1)),
        );
      }

-- ---- laying seats one by one

module _ {X : Type 0} where
  -- the first item of a list that has one, and the others
  pub taken_first : (xs : List X) (x : X) → 0 < length xs → x ≡ slice_index_or xs 0 x → xs ≡ x ∷ remove xs 0
  taken_first [] x some' is = absurd (omega (arith, some'))
  taken_first (y ∷ xs) x some' is = ap (λ (z : X). z ∷ xs) (sym is)

  pub one_laid : (f : Away → X) (others : List Away) (away : Away) (rest : List X) → map f others ++ (f away ∷ rest) ≡ map f (others ++ away ∷ []) ++ rest
  one_laid f [] away rest = refl
  one_laid f (other ∷ others) away rest = ap (λ (xs : List X). f other ∷ xs) (one_laid f others away rest)

pub one_waits : (others : List Away) (away : Away) → map Some others ++ Some away ∷ [] ≡ map Some (others ++ away ∷ [])
one_waits [] away = refl
one_waits (other ∷ others) away = ap (λ (xs : List (Option Away)). Some other ∷ xs) (one_waits others away)

-- seats that have read on follow on the state that they did
pub known_from : (d : SetupData) (first : State) (before after : List SeatValue) → KnowMore d before after → AreFrom first before → AreFrom first after
known_from d first before after more from k seat within =
    let inside : k < length before = omega (arith, within, more.0) in (more.1 k seat inside).first ∙ from k seat inside

-- ---- a hub that there can't be, whatever the text is

no_count : (lanes : ℕ) → (lanes ≡ 0) ⊎ (MAX_LANES < lanes) → IsCount lanes → ⊥
no_count lanes (inl none) count = let some = count.0 in omega (arith, none, some)
no_count lanes (inr more) count = let few = count.1 in omega (arith, more, few)

not_opened : (natives : NativeData) (text other : List ℕ) (lanes : ℕ) → (IsCount lanes → ⊥) → (told : Outcome) → NotOpened natives other lanes told → NotOpened natives text lanes told
not_opened natives text other lanes none outcome.NoLane is = is
not_opened natives text other lanes none (outcome.Bad line cause) is = absurd (none is.1)
not_opened natives text other lanes none outcome.NoMemory is = absurd (none is)
not_opened natives text other lanes none told is = absurd is

opens_to : {A C E : Type 0} {B : A → Type 0} {D : C → Type 0} {F : E → Type 0} (natives : NativeData) (text other : List ℕ) (lanes : ℕ) → (IsCount lanes → ⊥)
    → (after : Option (Held A C E B D F)) (told : Outcome) → OpensTo natives other lanes after told → OpensTo natives text lanes after told
opens_to natives text other lanes none (Some (held.Lane l)) told is = absurd (none is.0.lanes_are)
opens_to natives text other lanes none (Some (held.Ended rows)) told is = absurd is.0
opens_to natives text other lanes none None told is = not_opened natives text other lanes none told is

does_open : {A C E : Type 0} {B : A → Type 0} {D : C → Type 0} {F : E → Type 0} (text other : List ℕ) (lanes : ℕ) (h : Held A C E B D F) (after : Option (Held A C E B D F)) (told : Outcome)
    → DoesOpen h (ask.Open other lanes) after told → DoesOpen h (ask.Open text lanes) after told
does_open text other lanes h None told does = does
does_open text other lanes (held.Lane l) (Some after) told does = does
does_open text other lanes (held.Ended rows) (Some after) told does = does

turns_alike : {A C E : Type 0} {B : A → Type 0} {D : C → Type 0} {F : E → Type 0} (natives : NativeData) (text other : List ℕ) (lanes : ℕ) → (IsCount lanes → ⊥)
    → (kept after : Option (Held A C E B D F)) (told : Outcome) → Turns natives kept (ask.Open other lanes) after told → Turns natives kept (ask.Open text lanes) after told
turns_alike natives text other lanes none None after told does = opens_to natives text other lanes none after told does
turns_alike natives text other lanes none (Some h) after told does = does_open text other lanes h after told does

pub called_alike : {A C E : Type 0} {B : A → Type 0} {D : C → Type 0} {F : E → Type 0} (text other : List ℕ) (lanes : ℕ) → (lanes ≡ 0) ⊎ (MAX_LANES < lanes)
    → (kept after : Option (Held A C E B D F)) (number : ℕ) (answer : SpinAnswer)
    → TellsOf kept (ask.Open other lanes) after number answer → TellsOf kept (ask.Open text lanes) after number answer
called_alike text other lanes bad kept after number answer t =
    record { told = t.told; called = go t.called; number_is = t.number_is; answer_is = t.answer_is }
  where
    go : IsCalled kept (ask.Open other lanes) after t.told → IsCalled kept (ask.Open text lanes) after t.told
    go (inl does) = inl (turns_alike no_natives text other lanes (no_count lanes bad) kept after t.told does)
    go (inr left) = absurd (no_count lanes bad left.2)
