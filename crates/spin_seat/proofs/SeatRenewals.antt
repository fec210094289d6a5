-- Seats that learn what others know, and the hub that goes on.
use Rattle.std.proofs.Common.{◌≡◌, ◌≢◌, ◌==◌, ◌∙◌, ◌+◌, ◌-◌, ◌<◌, ◌≤◌, ℕ, zero, suc, Bool, true, false, List, [], ◌∷◌, ◌++◌, sym, ap, subst, length, get_or, set, map, take, arith, refl}
use Rattle.std.proofs.Common.{eqb-true, get_or-set_same, get_or-set_other, length-append, length-set}
use Rattle.std.specs.Prelude.{All, None, Result, Ok, Err, OnOk, OnErr, MatchResult}
use Rattle.std.proofs.lemmas.Bool.{eqb-false}
use Rattle.std.proofs.lemmas.List.{append-nil, get_or_default, length-map}
use Rattle.std.proofs.lemmas.List.Elements.{All-tail}
use Rattle.spin_values.specs.declared.no_memory.NoMemory.{NoMemory}
use Rattle.spin_word.specs.declared.command.TheConstants.{MAX_PLACE}
use Rattle.spin_word.specs.declared.row.Row.{Row}
use Rattle.spin_log.specs.Rows.{rows_of}
use Rattle.spin_log.specs.History.{LogAction, pins_from}
use Rattle.spin_log.specs.Pens.{PenValue, LogValue, StandsIn, IsHistory, with_front, new_pens}
use Rattle.spin_log.proofs.RowLists.{all_cons, all_map, prefix_trans, rows_of-append}
use Rattle.spin_table.specs.Setups.{SetupData}
use Rattle.spin_table.specs.States.{State}
use Rattle.spin_table.specs.Renewals.{live_numbers, renewed}
use Rattle.spin_seat.specs.declared.renewal.RenewFault.{RenewFault}
use Rattle.spin_seat.specs.declared.renewal.RenewFault.TheVariants as fault
use Rattle.spin_seat.specs.Replay.{IsReplayFrom}
use Rattle.spin_seat.specs.Seats.{SeatValue, IsSeat, IsSeatFrom, AreFrom, AreOfLanes}
use Rattle.spin_seat.specs.Calls.{ReadsOn}
use Rattle.spin_seat.specs.RenewedHubs.{AreAllSeats, KnowsMore, KnowMore, KnowsAllOf, FirstKnowsAll, IsTotalFrom, IsFaultOf, IsRenewal}
use Rattle.spin_seat.specs.Inner.Gathering.{KeepsFrom}
use Rattle.spin_seat.proofs.SeatInvariants.{reads_nothing, whole_applied, all_unmap, of_lanes_at, are_of_lanes, new_of_log, new_count, new_lanes}
use Rattle.spin_seat.proofs.SeatCalls.{reads_further}
use Rattle.spin_seat.proofs.ClosedLogs.{Closed, longest_is_log}

-- ---- one seat

pub knows_same : (d : SetupData) (old new : SeatValue) → IsSeat d new → new.base ≡ old.base → new.pen ≡ old.pen → KnowsMore d old new
knows_same d old new seat first pen = record { seat = seat; first = first; reads = reads_nothing old.pen new.pen pen }

pub knows_then : (d : SetupData) (old middle new : SeatValue) → KnowsMore d old middle → KnowsMore d middle new → KnowsMore d old new
knows_then d old middle new a b = record { seat = b.seat; first = b.first ∙ a.first; reads = reads_further old.pen middle.pen new.pen a.reads b.reads }

-- a seat that has met another
pub knows_met : (d : SetupData) (old new : SeatValue) (r : Result (Unit {0}) NoMemory) (front : List Row) → IsSeat d new → new.base ≡ old.base
    → MatchResult r (λ _. new.pen ≡ with_front old.pen front) (λ _. new.pen ≡ old.pen) → OnOk r (ReadsOn old.pen new.pen) → KnowsMore d old new
knows_met d old new (Ok done) front seat first pen reads = record { seat = seat; first = first; reads = reads }
knows_met d old new (Err e) front seat first pen reads = knows_same d old new seat first pen

grows : (d : SetupData) (old new : SeatValue) → KnowsMore d old new → length old.pen.front ≤ length new.pen.front
grows d old new h = omega (arith, ap (λ (p : PenValue). length p.front) h.reads.1, length-append old.pen.front h.reads.0)

-- what stands in the log as it is now stood in it before
stood : (d : SetupData) (log : List Row) (old new : SeatValue) → KnowsMore d old new → StandsIn log new.pen → StandsIn log old.pen
stood d log old new h now =
    let more = h.reads.0 in
    let at : StandsIn log (with_front old.pen (old.pen.front ++ more)) = subst (StandsIn log) h.reads.1 now in
    record {
      front = prefix_trans old.pen.front (old.pen.front ++ more) log (more, refl) at.front;
      own = at.own;
      reached = at.reached ∙ rows_of-append old.pen.lane old.pen.front more ∙ ap (λ l. rows_of old.pen.lane old.pen.front ++ l) h.reads.2 ∙ append-nil (rows_of old.pen.lane old.pen.front);
    }

-- ---- several seats

which : {T : Type 0} (i k : ℕ) → (i ≡ k → T) → (i ≢ k → T) → T
which {T} i k same other = go (i == k) refl
  where
    go : (b : Bool) → (i == k) ≡ b → T
    go true e = same (eqb-true i k e)
    go false e = other (eqb-false i k e)

pub know_as_before : (d : SetupData) (seats : List SeatValue) → All (IsSeat d) seats → KnowMore d seats seats
know_as_before d seats are = (refl, λ k s lt. knows_same d (get_or seats k s) (get_or seats k s) (are k s lt) refl refl)

-- one of them knows still more
pub know_set : (d : SetupData) (before now : List SeatValue) (k : ℕ) (s new : SeatValue) → KnowMore d before now → k < length now
    → KnowsMore d (get_or now k s) new → KnowMore d before (set now k new)
know_set d before now k s new h lt one = (
  length-set now k new ∙ h.0,
  λ i x inside.
      which i k
      (λ e. subst (λ (j : ℕ). KnowsMore d (get_or before j x) (get_or (set now k new) j x)) (sym e)
      (subst (KnowsMore d (get_or before k x)) (sym (get_or-set_same now k new x lt))
      (knows_then d (get_or before k x) (get_or now k x) new (h.1 k x (omega (arith, lt, h.0))) (subst (λ (o : SeatValue). KnowsMore d o new) (get_or_default now k s x lt) one))))
      (λ apart. subst (KnowsMore d (get_or before i x)) (sym (get_or-set_other now k i new x apart)) (h.1 i x inside)),
)

pub still_seats : (d : SetupData) (before after : List SeatValue) → KnowMore d before after → All (IsSeat d) after
still_seats d before after h k s lt = (h.1 k s (omega (arith, lt, h.0))).seat

pub still_own : {X : Type 0} (d : SetupData) (before after : List SeatValue) (f : PenValue → X) (x : X) → ((p : PenValue) (front : List Row) → f (with_front p front) ≡ f p)
    → KnowMore d before after → All (λ (s : SeatValue). f s.pen ≡ x) before → All (λ (s : SeatValue). f s.pen ≡ x) after
still_own d before after f x same h own k s lt =
    let inside : k < length before = omega (arith, lt, h.0) in
    let one = h.1 k s inside in
    ap f one.reads.1 ∙ same (get_or before k s).pen ((get_or before k s).pen.front ++ one.reads.0) ∙ own k s inside

pub still_from : (d : SetupData) (first : State) (before after : List SeatValue) → KnowMore d before after → AreFrom first before → AreFrom first after
still_from d first before after h from k s lt =
    let inside : k < length before = omega (arith, lt, h.0) in
    (h.1 k s inside).first ∙ from k s inside

pub still_order : (d : SetupData) (before after : List SeatValue) → KnowMore d before after → AreOfLanes 0 before → AreOfLanes 0 after
still_order d before after h order = are_of_lanes 0 after (λ k s lt.
    let inside : k < length before = omega (arith, lt, h.0) in
    ap (λ (p : PenValue). p.lane) (h.1 k s inside).reads.1 ∙ of_lanes_at 0 k before s order inside)

pub still_all : (d : SetupData) (log : LogValue) (before after : List SeatValue) → KnowMore d before after → AreAllSeats d log before → AreAllSeats d log after
still_all d log before after h a = record {
  some = a.some;
  own = still_own d before after (λ (p : PenValue). p.log) log.id (λ p front. refl) h a.own;
  all = h.0 ∙ a.all;
  order = still_order d before after h a.order;
  first = a.first;
  seats_are = λ k s lt. (still_seats d before after h k s lt, still_from d a.first before after h (λ j x inside. (a.seats_are j x inside).1) k s lt);
}

-- ---- the first meets the others

-- how they stand when it has met so many
pub record Round (d : SetupData) (first : SeatValue) (others : List SeatValue) (k : ℕ) (first' : SeatValue) (others' : List SeatValue) : Type 0 where
  pub knows : KnowsMore d first first'
  pub whole : first'.pending ≡ None
  pub others_know : KnowMore d others others'
  pub shorter : (i : ℕ) (s : SeatValue) → i < k → length (get_or others' i s).pen.front ≤ length first'.pen.front

pub round_begins : (d : SetupData) (first first' : SeatValue) (others : List SeatValue) → KnowsMore d first first' → first'.pending ≡ None → All (IsSeat d) others → Round d first others 0 first' others
round_begins d first first' others knows whole are = record {
  knows = knows;
  whole = whole;
  others_know = know_as_before d others are;
  shorter = λ i s lt. absurd (omega (arith, lt));
}

pub round_more : (d : SetupData) (first : SeatValue) (others : List SeatValue) (k : ℕ) (now next : SeatValue) (others' : List SeatValue) (s new : SeatValue)
    → k < length others' → Round d first others k now others' → KnowsMore d now next → next.pending ≡ None → KnowsMore d (get_or others' k s) new → new.pen.front ≡ next.pen.front
    → Round d first others (k + 1) next (set others' k new)
round_more d first others k now next others' s new lt r knows whole one same = record {
  knows = knows_then d first now next r.knows knows;
  whole = whole;
  others_know = know_set d others others' k s new r.others_know lt one;
  shorter = λ i x low. which i k
      (λ e. subst (λ (j : ℕ). length (get_or (set others' k new) j x).pen.front ≤ length next.pen.front) (sym e)
      (let at = ap (λ (o : SeatValue). length o.pen.front) (get_or-set_same others' k new x lt) in omega (arith, at, ap length same)))
      (λ apart.
      let at = ap (λ (o : SeatValue). length o.pen.front) (get_or-set_other others' k i new x apart) in
      let was = r.shorter i x (omega (arith, low, apart)) in
      omega (arith, at, was, grows d now next knows));
}

-- a seat that has read no more isn't met
pub round_skip : (d : SetupData) (first : SeatValue) (others : List SeatValue) (k : ℕ) (now : SeatValue) (others' : List SeatValue) (s : SeatValue)
    → k < length others' → Round d first others k now others' → length (get_or others' k s).pen.front ≤ length now.pen.front → Round d first others (k + 1) now others'
round_skip d first others k now others' s lt r most = record {
  knows = r.knows;
  whole = r.whole;
  others_know = r.others_know;
  shorter = λ i x low. which i k
      (λ e. subst (λ (j : ℕ). length (get_or others' j x).pen.front ≤ length now.pen.front) (sym e)
      (let at = ap (λ (o : SeatValue). length o.pen.front) (get_or_default others' k s x lt) in omega (arith, at, most)))
      (λ apart. r.shorter i x (omega (arith, low, apart)));
}

-- one that has read more, and couldn't be met, still has
pub still_more : (others : List SeatValue) (k : ℕ) (first a b s t : SeatValue) → k < length others → length first.pen.front < length (get_or others k t).pen.front
    → a.pen ≡ first.pen → b.pen ≡ (get_or others k s).pen → KnowsAllOf a (set others k b) → ⊥
still_more others k first a b s t inside more same same' knows =
    let most = knows.1 k s (omega (arith, inside, length-set others k b)) in
    let at = ap (λ (o : SeatValue). length o.pen.front) (get_or-set_same others k b s inside) in
    let was = ap (λ (o : SeatValue). length o.pen.front) (get_or_default others k s t inside) in
    omega (arith, most, at, more, was, ap (λ (p : PenValue). length p.front) same, ap (λ (p : PenValue). length p.front) same')

-- the first of all the seats and the others
pub know_joined : (d : SetupData) (seats left right others : List SeatValue) (s first : SeatValue) → seats ≡ left ++ right → length left ≡ 1
    → KnowsMore d (get_or left 0 s) first → KnowMore d right others → KnowMore d seats (set left 0 first ++ others)
know_joined d seats [] right others s first parts one knows know = absurd (omega (arith, one))
know_joined d seats (a ∷ b ∷ left) right others s first parts one knows know = absurd (omega (arith, one))
know_joined d seats (a ∷ []) right others s first parts one knows know =
    subst (λ (all : List SeatValue). KnowMore d all (first ∷ others)) (sym parts) (ap suc know.0, each)
  where
    each : (k : ℕ) (x : SeatValue) → k < length (a ∷ right) → KnowsMore d (get_or (a ∷ right) k x) (get_or (first ∷ others) k x)
    each zero x lt = knows
    each (suc k) x lt = know.1 k x (omega (arith, lt))

pub first_knows : (left others : List SeatValue) (first : SeatValue) (r : Result (Unit {0}) NoMemory) → length left ≡ 1
    → OnOk r (KnowsAllOf first others) → OnOk r (FirstKnowsAll (set left 0 first ++ others))
first_knows left others first (Err e) one knows = tt
first_knows [] others first (Ok done) one knows = absurd (omega (arith, one))
first_knows (a ∷ b ∷ left) others first (Ok done) one knows = absurd (omega (arith, one))
first_knows (a ∷ []) others first (Ok done) one knows =
    λ s. (knows.0, all_cons (λ (x : SeatValue). length x.pen.front ≤ length first.pen.front) first others (omega arith) knows.1)

-- where the first doesn't know all that the others do, it doesn't know all
pub first_knows_less : (left others : List SeatValue) (first : SeatValue) (r : Result (Unit {0}) NoMemory) → length left ≡ 1
    → OnErr r (KnowsAllOf first others → ⊥) → OnErr r (FirstKnowsAll (set left 0 first ++ others) → ⊥)
first_knows_less left others first (Ok done) one less = tt
first_knows_less [] others first (Err e) one less = absurd (omega (arith, one))
first_knows_less (a ∷ b ∷ left) others first (Err e) one less = absurd (omega (arith, one))
first_knows_less (a ∷ []) others first (Err e) one less =
    λ knows. let all = knows first in less (all.0, All-tail (λ (x : SeatValue). length x.pen.front ≤ length first.pen.front) first others all.1)

-- ---- what all know

first_replay : (d : SetupData) (first : State) (before met : List SeatValue) (s : SeatValue) → 0 < length before → AreFrom first before → KnowMore d before met
    → FirstKnowsAll met → IsReplayFrom d first (get_or met 0 s).pen.front (get_or met 0 s).state
first_replay d first before met s some from h knows =
    let inside : 0 < length met = omega (arith, some, h.0) in
    let seat = get_or met 0 s in
    subst (λ (x : State). IsReplayFrom d x seat.pen.front seat.state) (still_from d first before met h from 0 s inside) (whole_applied d seat (still_seats d before met h 0 s inside) (knows s).0)

pub total : (d : SetupData) (first : State) (before met : List SeatValue) (s : SeatValue) → 0 < length before → AreFrom first before → KnowMore d before met
    → FirstKnowsAll met → IsTotalFrom d first met (get_or met 0 s).state
total d first before met s some from h knows =
    let inside : 0 < length met = omega (arith, some, h.0) in
    let seat = get_or met 0 s in
    record {
      front = seat.pen.front;
      known = (0, seat, inside, get_or_default met 0 seat s inside, refl);
      longest = (knows s).1;
      replay = first_replay d first before met s some from h knows;
    }

pub is_full : (d : SetupData) (first : State) (before met : List SeatValue) (s : SeatValue) (live : List ℕ) → 0 < length before → AreFrom first before → KnowMore d before met
    → FirstKnowsAll met → live ≡ live_numbers (get_or met 0 s).state → MAX_PLACE ≤ length live → IsFaultOf d first met fault.Full
is_full d first before met s live some from h knows is full =
    ((get_or met 0 s).state, total d first before met s some from h knows, subst (λ (l : List ℕ). MAX_PLACE ≤ length l) is full)

pub keeps_from : (d : SetupData) (first : State) (before met : List SeatValue) (s : SeatValue) (why : RenewFault) → 0 < length before → AreFrom first before → KnowMore d before met
    → FirstKnowsAll met → KeepsFrom (get_or met 0 s).state why → IsFaultOf d first met why
keeps_from d first before met s fault.Full some from h knows full = ((get_or met 0 s).state, total d first before met s some from h knows, full)
keeps_from d first before met s fault.NoMemory some from h knows few =
    let inside : 0 < length met = omega (arith, some, h.0) in
    λ all t. subst (λ (x : SeatValue). length (live_numbers x.state) < MAX_PLACE) (get_or_default met 0 s t inside) few

pub lacks_memory : (d : SetupData) (first : State) (met : List SeatValue) (s : SeatValue) (why : RenewFault) → 0 < length met → why ≡ fault.NoMemory
    → (FirstKnowsAll met → length (live_numbers (get_or met 0 s).state) < MAX_PLACE) → IsFaultOf d first met why
lacks_memory d first met s why inside is few =
    subst (IsFaultOf d first met) (sym is) (λ all t. subst (λ (x : SeatValue). length (live_numbers x.state) < MAX_PLACE) (get_or_default met 0 s t inside) (few all))

-- ---- the closed log

pub closed_before : (d : SetupData) (lanes : ℕ) (before after : List SeatValue) (log : List Row) → KnowMore d before after → Closed lanes after log → length before ≡ lanes → AreOfLanes 0 before
    → Closed lanes before log
closed_before d lanes before after log h c all order = record {
  all = all;
  order = order;
  each = λ k s lt. let now = c.each k s (omega (arith, lt, h.0)) in stood d log (get_or before k s) (get_or after k s) (h.1 k s lt) now;
  rows = c.rows;
}

pub history_before : (d : SetupData) (before after : List SeatValue) (log : List Row) (moments : List LogAction) → KnowMore d before after
    → IsHistory log (map (λ (s : SeatValue). s.pen) after) moments → IsHistory log (map (λ (s : SeatValue). s.pen) before) moments
history_before d before after log moments h is = record {
  rows = is.rows;
  pins =
      let now = all_unmap (λ (p : PenValue). p.pins ≡ pins_from p.lane 0 moments) (λ (s : SeatValue). s.pen) after is.pins in
      all_map (λ (p : PenValue). p.pins ≡ pins_from p.lane 0 moments) (λ (s : SeatValue). s.pen) before
      (λ k s lt.
      let reads = (h.1 k s lt).reads.1 in
      let at = now k s (omega (arith, lt, h.0)) in
      sym (ap (λ (p : PenValue). p.pins) reads) ∙ at ∙ ap (λ (p : PenValue). pins_from p.lane 0 moments) reads);
}

pub is_renewal : (d : SetupData) (first : State) (lanes : ℕ) (before met : List SeatValue) (s : SeatValue) (rows : List Row) (live numbers : List ℕ) (seats new : List SeatValue)
    → 0 < length before → AreFrom first before → KnowMore d before met → FirstKnowsAll met → Closed lanes met rows
    → live ≡ live_numbers (get_or met 0 s).state → length live < MAX_PLACE → All (IsSeatFrom d (renewed (get_or met 0 s).state)) new → numbers ≡ live → seats ≡ new
    → IsRenewal d first rows numbers seats
is_renewal d first lanes before met s rows live numbers seats new some from h knows c is room are same same' =
    let inside : 0 < length met = omega (arith, some, h.0) in
    let seat = get_or met 0 s in
    let at : IsSeat d seat = still_seats d before met h 0 s inside in
    let all : rows ≡ seat.pen.front = longest_is_log lanes met rows seat.pen.front s c (c.each 0 s inside).front (knows s).1 in
    record {
      last = seat.state;
      replay = subst (λ (l : List Row). IsReplayFrom d first l seat.state) (sym all) (first_replay d first before met s some from h knows);
      sound = at.sound.state;
      given = at.given;
      numbers = same ∙ is;
      room = subst (λ (l : List ℕ). length l < MAX_PLACE) (sym same) room;
      seats_are = subst (All (IsSeatFrom d (renewed seat.state))) (sym same') are;
    }

-- ---- seats that were handed over as a list, and came back

take_front : {X : Type 0} (n : ℕ) (xs ys : List X) → n ≡ length xs → take n (xs ++ ys) ≡ xs
take_front zero [] ys e = refl
take_front zero (x ∷ xs) ys e = absurd (omega (arith, e))
take_front (suc n) [] ys e = absurd (omega (arith, e))
take_front (suc n) (x ∷ xs) ys e = ap (λ l. x ∷ l) (take_front n xs ys (omega (arith, e)))

pub taken : {X : Type 0} (n : ℕ) (met new rest : List X) → met ≡ take n (new ++ rest) → n ≡ length new → met ≡ new
taken n met new rest is e = is ∙ take_front n new rest e

pub know_taken : (d : SetupData) (seats now new met : List SeatValue) → now ≡ seats → met ≡ new → KnowMore d now new → KnowMore d seats met
know_taken d seats now new met before after h = subst (λ (x : List SeatValue × List SeatValue). KnowMore d x.0 x.1) (λ i. (before i, sym after i)) h

-- the last seat is that of the last lane
pub last_lane : (seats : List SeatValue) (s : SeatValue) (lanes : ℕ) → AreOfLanes 0 seats → length seats ≡ lanes → 0 < lanes → (get_or seats (length seats - 1) s).pen.lane + 1 ≡ lanes
last_lane seats s lanes order all some =
    let at = of_lanes_at 0 (length seats - 1) seats s order (omega (arith, all, some)) in
    omega (arith, at, all, some)

-- new seats are all of their log
pub new_all : (d : SetupData) (log : LogValue) (lanes : ℕ) (seats : List SeatValue) (first : State) → 0 < lanes → log.lanes ≡ lanes
    → map (λ (s : SeatValue). s.pen) seats ≡ new_pens log.id lanes → All (IsSeatFrom d first) seats → AreAllSeats d log seats
new_all d log lanes seats first some count pens are = record {
  some = omega (arith, some, count);
  own = all_unmap (λ (p : PenValue). p.log ≡ log.id) (λ (s : SeatValue). s.pen) seats
      (subst (λ (l : List PenValue). All (λ (p : PenValue). p.log ≡ log.id) l) (sym pens) (new_of_log log.id lanes 0 lanes));
  all = sym (length-map seats (λ (s : SeatValue). s.pen)) ∙ ap length pens ∙ new_count log.id lanes 0 lanes ∙ sym count;
  order = new_lanes log.id lanes 0 lanes seats pens;
  first = first;
  seats_are = are;
}
