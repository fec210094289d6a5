-- The log that ready lanes know.
use Rattle.std.proofs.Common.{◌≡◌, ℕ, ◌<◌, List, [], ◌∷◌, All, map, length, get_or, sym, ap, ◌∙◌, subst, arith, length-append}
use Rattle.std.proofs.lemmas.List.{append-nil, length-map}
use Rattle.std.proofs.Math.Seq.{get_or-append_seam}
use Rattle.std.proofs.Math.ListN.{get_or-map}
use Rattle.atomic_table.specs.Seated.{TableId}
use Rattle.spin_word.specs.declared.row.Row.{Row}
use Rattle.spin_word.specs.Rows.{lane_of}
use Rattle.spin_log.specs.Rows.{IsCommandBelow}
use Rattle.spin_table.specs.Setups.{SetupData}
use Rattle.spin_table.specs.States.{State}
use Rattle.spin_seat.specs.Replay.{IsCleanFrom, IsLaneCleanFrom}
use Rattle.spin_seat.specs.Places.{place_past}
use Rattle.spin_seat.specs.Seats.{SeatValue, AreOfLanes}
use Rattle.spin_seat.proofs.RowReplays.{clean_place_from}
use Rattle.spin_seat.proofs.PastPlaces.{place_past_is}
use Rattle.spin_seat.proofs.SeatInvariants.{whole_applied, of_lanes_at}
use Rattle.spin_run.specs.declared.lane.Lane.{Lane}
use Rattle.spin_run.specs.Segments.{front_of, first_of, state_of, place_of, IsReady, AreReady}

abbrev seat_of : Lane → SeatValue
seat_of lane = lane.seat

-- the k-th lane is that of lane k
pub lane_is : (lanes : List Lane) (k : ℕ) (l : Lane) → AreOfLanes 0 (map (λ (lane : Lane). lane.seat) lanes) → k < length lanes → (get_or lanes k l).seat.pen.lane ≡ k
lane_is lanes k l order lt =
    let long : length (map seat_of lanes) ≡ length lanes = length-map lanes seat_of in
    let at : get_or (map seat_of lanes) k l.seat ≡ (get_or lanes k l).seat = get_or-map seat_of lanes k l in
    ap (λ (s : SeatValue). s.pen.lane) (sym at) ∙ of_lanes_at 0 k (map seat_of lanes) l.seat order (omega (arith, lt, long)) ∙ omega arith

-- each row is of one of the lanes
pub rows_below : (d : SetupData) (log : TableId) (count : ℕ) (lanes : List Lane) → AreReady d log count lanes → All (IsCommandBelow count) (front_of lanes)
rows_below d log count [] ready = let some = ready.some in absurd (omega arith)
rows_below d log count (lane ∷ lanes) ready =
    let r : IsReady d log count lane.seat.base lane.seat.pen.front lane = ready.each 0 lane (omega arith) in
    subst (λ n. All (IsCommandBelow n) lane.seat.pen.front) r.among r.pen.commands

-- each row was accepted at its own place, by the lane that it is of
pub clean_front : (d : SetupData) (log : TableId) (count : ℕ) (lanes : List Lane) → AreReady d log count lanes → IsCleanFrom d (first_of d lanes) (front_of lanes)
clean_front d log count [] ready front row rest e = let some = ready.some in absurd (omega arith)
clean_front d log count (first ∷ lanes) ready front row rest e =
    let all = first ∷ lanes in
    let k = lane_of row in
    let inside : length front < length (front_of all) = omega (arith, ap length e, length-append front (row ∷ rest)) in
    let found : get_or (front_of all) (length front) row ≡ row = ap (λ l. get_or l (length front) row) e ∙ get_or-append_seam front row rest row in
    let under : k < count = subst (λ (r : Row). lane_of r < count) found (rows_below d log count all ready (length front) row inside).1 in
    let lt : k < length all = omega (arith, under, ready.all) in
    let its : IsReady d log count (first_of d all) (front_of all) (get_or all k first) = ready.each k first lt in
    let seat : SeatValue = (get_or all k first).seat in
    subst (λ (s : State). IsLaneCleanFrom d s seat.pen.lane seat.pen.front) its.seat.1 its.seat.0.clean front row rest (its.front_is ∙ e) (sym (lane_is all k first ready.order lt))

-- so the place of the state lies past the first one's by its length
pub place_is_front : (d : SetupData) (log : TableId) (count : ℕ) (lanes : List Lane) → AreReady d log count lanes → (state_of d lanes).place ≡ place_of d lanes
place_is_front d log count [] ready = let some = ready.some in absurd (omega arith)
place_is_front d log count (lane ∷ lanes) ready =
    let r : IsReady d log count lane.seat.base lane.seat.pen.front lane = ready.each 0 lane (omega arith) in
    let front = lane.seat.pen.front in
    clean_place_from d lane.seat.base front [] front lane.seat.state (clean_front d log count (lane ∷ lanes) ready) (sym (append-nil front)) (whole_applied d lane.seat r.seat.0 r.whole)
    ∙ sym (place_past_is lane.seat.base.place (length front))

-- how far the first lane's seat knows the log
pub first_place : (d : SetupData) (lanes : List Lane) (lane : Lane) → 0 < length lanes → lane ≡ get_or lanes 0 lane
    → place_past lane.seat.base.place (length lane.seat.pen.front) ≡ place_of d lanes
first_place d [] lane some is = absurd (omega (arith, some))
first_place d (first ∷ lanes) lane some is = ap (λ (x : Lane). place_past x.seat.base.place (length x.seat.pen.front)) is
