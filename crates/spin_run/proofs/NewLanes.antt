-- Lanes of new seats.
use Rattle.std.proofs.Common.{◌≡◌, ℕ, zero, suc, ◌+◌, ◌<◌, ◌≤◌, List, [], ◌∷◌, ◌++◌, All, map, length, get_or, refl, sym, ap, ◌∙◌, subst, arith, append_assoc}
use Rattle.std.specs.Prelude.{Option, None, Some}
use Rattle.std.proofs.lemmas.List.{length-map, map-append}
use Rattle.std.proofs.lemmas.List.Elements.{All-nil, All-cons, All-head}
use Rattle.atomic_table.specs.Seated.{TableId}
use Rattle.spin_word.specs.declared.command.TheConstants.{MAX_LANES}
use Rattle.spin_word.specs.declared.row.Row.{Row}
use Rattle.spin_log.specs.Rows.{IsCommandBelow}
use Rattle.spin_log.specs.Rule.{new_hand, new_hands}
use Rattle.spin_log.specs.Pens.{PenValue, IsPen, pen_value, new_pens}
use Rattle.spin_table.specs.Setups.{SetupData}
use Rattle.spin_table.specs.States.{State}
use Rattle.spin_seat.specs.Replay.{IsReplayFrom}
use Rattle.spin_seat.specs.Seats.{SeatValue, IsSeatFrom, AreOfLanes, kept_rows}
use Rattle.spin_seat.proofs.SeatInvariants.{all_unmap, new_count, new_lanes}
use Rattle.spin_run.specs.declared.lane.Lane.{Lane}
use Rattle.spin_run.specs.Segments.{front_of, first_of, state_of, IsReady, AreReady}
use Rattle.spin_run.specs.Inner.Answering.{AreFresh}

-- a pen that is new
record IsNew (id : TableId) (lanes : ℕ) (pen : PenValue) : Type 0 where
  pub own : pen.log ≡ id
  pub among : pen.lanes ≡ lanes
  pub pen_is : IsPen pen
  pub front : pen.front ≡ []

new_pen : (id : TableId) (lanes lane : ℕ) → lanes ≤ MAX_LANES → lane < lanes → IsNew id lanes (pen_value id (new_hand lanes lane))
new_pen id lanes lane few below = record {
  own = refl;
  among = refl;
  pen_is = record {
    few = few;
    below = below;
    room = omega arith;
    commands = All-nil (IsCommandBelow lanes);
    own = refl;
    rising = λ i j d le lt. absurd (omega arith);
    reached = All-nil (λ (pin : ℕ). pin ≤ 0);
  };
  front = refl;
}

each_new : (id : TableId) (lanes from n : ℕ) → lanes ≤ MAX_LANES → from + n ≤ lanes → All (IsNew id lanes) (map (pen_value id) (new_hands lanes from n))
each_new id lanes from zero few fit = All-nil (IsNew id lanes)
each_new id lanes from (suc n) few fit =
    All-cons (IsNew id lanes) (pen_value id (new_hand lanes from)) (map (pen_value id) (new_hands lanes (from + 1) n))
    (new_pen id lanes from few (omega (arith, fit))) (each_new id lanes (from + 1) n few (omega (arith, fit)))

-- where a seat knows no row, it is at its first state
at_first : (d : SetupData) (first : State) (applied : List Row) (kept : Option Row) (state : State) → [] ≡ applied ++ kept_rows kept → IsReplayFrom d first applied state
    → (kept ≡ None) × (state ≡ first)
at_first d first [] None state e r = (refl, r)
at_first d first [] (Some row) state e r = absurd (cc (e))
at_first d first (x ∷ applied) kept state e r = absurd (cc (e))

new_seat : (d : SetupData) (first : State) (seat : SeatValue) → IsSeatFrom d first seat → seat.pen.front ≡ [] → (seat.pending ≡ None) × (seat.state ≡ first)
new_seat d first seat h none =
    at_first d first h.0.applied seat.pending seat.state (sym none ∙ h.0.front) (subst (λ (s : State). IsReplayFrom d s h.0.applied seat.state) h.1 h.0.replay)

-- what is so of new lanes
pub record AreNew (d : SetupData) (first : State) (id : TableId) (n : ℕ) (lanes : List Lane) : Type 0 where
  pub ready : AreReady d id n lanes
  pub front : front_of lanes ≡ []
  pub start : (first_of d lanes ≡ first) × (state_of d lanes ≡ first)

pub are_new : (d : SetupData) (base : State) (id : TableId) (n : ℕ) (seats : List SeatValue) (lanes : List Lane) → 0 < n
    → n ≤ MAX_LANES → map (λ (s : SeatValue). s.pen) seats ≡ new_pens id n → All (IsSeatFrom d base) seats
    → map (λ (l : Lane). l.seat) lanes ≡ seats → AreFresh lanes → AreNew d base id n lanes
are_new d base id n seats lanes some few pens seat_of is fresh = record {
  ready = record {
    some = omega (arith, some, count);
    all = count;
    order = subst (AreOfLanes 0) (sym is) (new_lanes id n 0 n seats pens);
    each = λ k l lt. ready k l lt;
  };
  front = front lanes each;
  start = start lanes some_lane each seats_are;
}
  where
    count : length lanes ≡ n
    count =
        let a = length-map lanes (λ (l : Lane). l.seat) in
        let b = length-map seats (λ (s : SeatValue). s.pen) in
        omega (arith, a, b, ap length is, ap length pens, new_count id n 0 n)

    some_lane : 0 < length lanes
    some_lane = omega (arith, some, count)

    seats_are : All (λ (l : Lane). IsSeatFrom d base l.seat) lanes
    seats_are = all_unmap (IsSeatFrom d base) (λ (l : Lane). l.seat) lanes (subst (All (IsSeatFrom d base)) (sym is) seat_of)

    each : All (λ (l : Lane). IsNew id n l.seat.pen) lanes
    each =
        let of_seats : All (λ (s : SeatValue). IsNew id n s.pen) seats =
        all_unmap (IsNew id n) (λ (s : SeatValue). s.pen) seats (subst (All (IsNew id n)) (sym pens) (each_new id n 0 n few (omega arith))) in
        all_unmap (λ (s : SeatValue). IsNew id n s.pen) (λ (l : Lane). l.seat) lanes (subst (All (λ (s : SeatValue). IsNew id n s.pen)) (sym is) of_seats)

    front : (ls : List Lane) → All (λ (l : Lane). IsNew id n l.seat.pen) ls → front_of ls ≡ []
    front [] new = refl
    front (l ∷ ls) new = (All-head (λ (x : Lane). IsNew id n x.seat.pen) l ls new).front

    start : (ls : List Lane) → 0 < length ls → All (λ (l : Lane). IsNew id n l.seat.pen) ls → All (λ (l : Lane). IsSeatFrom d base l.seat) ls
        → (first_of d ls ≡ base) × (state_of d ls ≡ base)
    start [] lt new seats' = absurd (omega arith)
    start (l ∷ ls) lt new seats' =
        let seat' = All-head (λ (x : Lane). IsSeatFrom d base x.seat) l ls seats' in
        (seat'.1, (new_seat d base l.seat seat' (All-head (λ (x : Lane). IsNew id n x.seat.pen) l ls new).front).1)

    ready : (k : ℕ) (l : Lane) → k < length lanes → IsReady d id n (first_of d lanes) (front_of lanes) (get_or lanes k l)
    ready k l lt =
        let new = each k l lt in
        let seat' = seats_are k l lt in
        let fresh' = fresh k l lt in
        record {
          own = new.own;
          among = new.among;
          pen = new.pen_is;
          seat = (seat'.0, seat'.1 ∙ sym (start lanes some_lane each seats_are).0);
          whole = (new_seat d base (get_or lanes k l).seat seat' new.front).0;
          front_is = new.front ∙ sym (front lanes each);
          trail = fresh'.0;
          jobs_are = fresh'.1;
          stop = fresh'.2;
        }

-- one more lane
pub lanes_more : (seats rest all : List SeatValue) (lanes after : List Lane) (lane : Lane) → map (λ (l : Lane). l.seat) lanes ++ seats ≡ all
    → seats ≡ lane.seat ∷ rest → after ≡ lanes ++ lane ∷ [] → map (λ (l : Lane). l.seat) after ++ rest ≡ all
lanes_more seats rest all lanes after lane h is more =
    ap (λ ls. map (λ (l : Lane). l.seat) ls ++ rest) more
    ∙ ap (λ l. l ++ rest) (map-append (λ (l : Lane). l.seat) lanes (lane ∷ []))
    ∙ append_assoc (map (λ (l : Lane). l.seat) lanes) (lane.seat ∷ []) rest
    ∙ ap (λ l. map (λ (x : Lane). x.seat) lanes ++ l) (sym is)
    ∙ h
