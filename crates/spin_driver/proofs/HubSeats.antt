-- All seats of a hub, when one of them has answered, or the first has met the others.
use Rattle.std.proofs.Common.{◌≡◌, ◌≢◌, ◌==◌, ◌∙◌, ◌+◌, ◌<◌, ℕ, Bool, true, false, List, [], ◌∷◌, ◌++◌, sym, ap, subst, refl, length, get_or, set, arith}
use Rattle.std.proofs.Common.{eqb-true, get_or-set_same, get_or-set_other, length-set}
use Rattle.std.specs.Prelude.{All}
use Rattle.std.proofs.lemmas.Bool.{eqb-false}
use Rattle.std.proofs.lemmas.List.Elements.{All-set}
use Rattle.spin_log.specs.Pens.{LogValue, IsSamePen}
use Rattle.spin_log.proofs.RowLists.{all_head, all_tail}
use Rattle.spin_table.specs.Setups.{SetupData}
use Rattle.spin_table.specs.States.{State}
use Rattle.spin_seat.specs.Seats.{SeatValue, IsSeat, IsSeatFrom, AreOfLanes}
use Rattle.spin_seat.specs.RenewedHubs.{AreAllSeats}
use Rattle.spin_seat.proofs.SeatInvariants.{of_lanes_at, are_of_lanes}

which : {T : Type 0} (i k : ℕ) → (i ≡ k → T) → (i ≢ k → T) → T
which {T} i k same other = go (i == k) refl
  where
    go : (b : Bool) → (i == k) ≡ b → T
    go true e = same (eqb-true i k e)
    go false e = other (eqb-false i k e)

-- the lanes are in order when one seat is that of the same lane
order_set : (seats : List SeatValue) (k : ℕ) (s new : SeatValue) → k < length seats → new.pen.lane ≡ (get_or seats k s).pen.lane → AreOfLanes 0 seats → AreOfLanes 0 (set seats k new)
order_set seats k s new lt lane order = are_of_lanes 0 (set seats k new) (λ i x inside.
    which i k
    (λ e. subst (λ (j : ℕ). (get_or (set seats k new) j x).pen.lane ≡ 0 + j) (sym e)
    (ap (λ (o : SeatValue). o.pen.lane) (get_or-set_same seats k new x lt) ∙ lane ∙ of_lanes_at 0 k seats s order lt))
    (λ apart. ap (λ (o : SeatValue). o.pen.lane) (get_or-set_other seats k i new x apart)
    ∙ of_lanes_at 0 i seats x order (omega (arith, inside, length-set seats k new))))

-- one of the seats has answered
pub still_set : (d : SetupData) (log : LogValue) (seats : List SeatValue) (k : ℕ) (s new : SeatValue) → k < length seats → IsSamePen (get_or seats k s).pen new.pen
    → new.base ≡ (get_or seats k s).base → IsSeat d new → AreAllSeats d log seats → AreAllSeats d log (set seats k new)
still_set d log seats k s new lt pen first seat all = record {
  some = all.some;
  own = All-set (λ (o : SeatValue). o.pen.log ≡ log.id) seats k new (pen.0 ∙ all.own k s lt) all.own;
  all = length-set seats k new ∙ all.all;
  order = order_set seats k s new lt pen.2 all.order;
  first = all.first;
  seats_are = All-set (IsSeatFrom d all.first) seats k new (seat, first ∙ (all.seats_are k s lt).1) all.seats_are;
}

-- the first seat and the others, where all are split so
pub record Split (d : SetupData) (log : LogValue) (first : SeatValue) (others : List SeatValue) : Type 0 where
  pub own : first.pen.log ≡ log.id
  pub others_own : All (λ (o : SeatValue). o.pen.log ≡ log.id) others
  pub seat : IsSeat d first
  pub seats : All (IsSeatFrom d first.base) others

pub split_all : (d : SetupData) (log : LogValue) (seats left right : List SeatValue) (s : SeatValue) → seats ≡ left ++ right → length left ≡ 1
    → AreAllSeats d log seats → Split d log (get_or left 0 s) right
split_all d log seats [] right s parts one h = absurd (omega (arith, one))
split_all d log seats (a ∷ b ∷ left) right s parts one h = absurd (omega (arith, one))
split_all d log seats (a ∷ []) right s parts one h =
    let all : AreAllSeats d log (a ∷ right) = subst (AreAllSeats d log) parts h in
    let P = λ (o : SeatValue). o.pen.log ≡ log.id in
    let Q = IsSeatFrom d all.first in
    let first = all_head Q a right all.seats_are in
    record {
      own = all_head P a right all.own;
      others_own = all_tail P a right all.own;
      seat = first.0;
      seats = subst (λ (f : State). All (IsSeatFrom d f) right) (sym first.1) (all_tail Q a right all.seats_are);
    }
