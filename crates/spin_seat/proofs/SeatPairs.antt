-- All seats of a hub that is new, and of one with two lanes.
use Rattle.std.proofs.Common.{◌≡◌, ◌∙◌, ◌<◌, ℕ, List, [], ◌∷◌, sym, ap, subst, length, arith}
use Rattle.std.specs.Prelude.{All}
use Rattle.spin_log.specs.Pens.{LogValue, IsSamePen}
use Rattle.spin_log.proofs.RowLists.{all_one, all_cons}
use Rattle.spin_table.specs.Setups.{SetupData}
use Rattle.spin_table.specs.States.{start_of}
use Rattle.spin_seat.specs.Seats.{SeatValue, IsSeat, IsSeatFrom, IsSeatOf, AreOfLanes}
use Rattle.spin_seat.specs.RenewedHubs.{AreAllSeats}

pub new_are_all : (d : SetupData) (log : LogValue) (seats : List SeatValue) (lanes : ℕ) → 0 < lanes → log.lanes ≡ lanes
    → All (λ (s : SeatValue). s.pen.log ≡ log.id) seats → length seats ≡ lanes → AreOfLanes 0 seats → All (IsSeatOf d) seats → AreAllSeats d log seats
new_are_all d log seats lanes some count own all order are = record {
  some = omega (arith, some, count);
  own = own;
  all = all ∙ sym count;
  order = order;
  first = start_of d;
  seats_are = are;
}

-- both seats, taken from the list of all
pub both_taken : (d : SetupData) (log : LogValue) (seats rest rest' : List SeatValue) (a b : SeatValue) → log.lanes ≡ 2 → AreAllSeats d log seats
    → seats ≡ a ∷ rest → rest ≡ b ∷ rest' → AreAllSeats d log (a ∷ b ∷ [])
both_taken d log seats rest rest' a b two h first second = go rest' (first ∙ ap (λ l. a ∷ l) second)
  where
    go : (more : List SeatValue) → seats ≡ a ∷ b ∷ more → AreAllSeats d log (a ∷ b ∷ [])
    go [] is = subst (AreAllSeats d log) is h
    go (x ∷ more) is = absurd (omega (arith, h.all, two, ap length is))

-- both seats after a call of each
pub both_still : (d : SetupData) (log : LogValue) (a b a' b' : SeatValue) → AreAllSeats d log (a ∷ b ∷ []) → IsSamePen a.pen a'.pen → a'.base ≡ a.base → IsSeat d a'
    → IsSamePen b.pen b'.pen → b'.base ≡ b.base → IsSeat d b' → AreAllSeats d log (a' ∷ b' ∷ [])
both_still d log a b a' b' h pen_a first_a seat_a pen_b first_b seat_b = record {
  some = h.some;
  own = all_cons (λ (s : SeatValue). s.pen.log ≡ log.id) a' (b' ∷ []) (pen_a.0 ∙ h.own 0 a (omega arith))
      (all_one (λ (s : SeatValue). s.pen.log ≡ log.id) b' (pen_b.0 ∙ h.own 1 b (omega arith)));
  all = h.all;
  order = (pen_a.2 ∙ h.order.0, (pen_b.2 ∙ h.order.1.0, tt));
  first = h.first;
  seats_are = all_cons (IsSeatFrom d h.first) a' (b' ∷ []) (seat_a, first_a ∙ (h.seats_are 0 a (omega arith)).1)
      (all_one (IsSeatFrom d h.first) b' (seat_b, first_b ∙ (h.seats_are 1 b (omega arith)).1));
}
