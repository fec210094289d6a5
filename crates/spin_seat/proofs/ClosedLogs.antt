-- What a closed log has of all seats.
use Rattle.std.proofs.Common.{◌≡◌, ◌∙◌, ◌<◌, ◌≤◌, ℕ, List, [], ◌∷◌, ◌++◌, sym, ap, subst, length, get_or, arith}
use Rattle.std.specs.Prelude.{All}
use Rattle.std.proofs.lemmas.List.{append-nil}
use Rattle.spin_word.specs.declared.row.Row.{Row}
use Rattle.spin_word.specs.Rows.{lane_of}
use Rattle.spin_log.specs.Rows.{IsCommandBelow, IsPrefix, rows_of}
use Rattle.spin_log.specs.Pens.{PenValue, StandsIn}
use Rattle.spin_log.proofs.RowLists.{all_tail, all_head, prefix_both, rows_of_between, turn_below}
use Rattle.spin_table.specs.Setups.{SetupData}
use Rattle.spin_table.specs.States.{State}
use Rattle.spin_seat.specs.Replay.{IsCleanFrom, IsLaneCleanFrom}
use Rattle.spin_seat.specs.Seats.{SeatValue, IsSeat, AreFrom, AreOfLanes}
use Rattle.spin_seat.specs.Weaves.{AnswersAreLegalFrom}
use Rattle.spin_seat.proofs.SeatInvariants.{clean_from_lanes, of_lanes_at}
use Rattle.spin_seat.proofs.WovenAnswers.{answers_are_legal}

-- all seats of the lanes below this number stand in the log, whose rows are theirs
pub record Closed (lanes : ℕ) (seats : List SeatValue) (log : List Row) : Type 0 where
  pub all : length seats ≡ lanes
  pub order : AreOfLanes 0 seats
  pub each : All (λ (s : SeatValue). StandsIn log s.pen) seats
  pub rows : All (IsCommandBelow lanes) log

-- the k-th seat is lane k's
lane_at : (seats : List SeatValue) (k : ℕ) (s : SeatValue) → AreOfLanes 0 seats → k < length seats → (get_or seats k s).pen.lane ≡ k
lane_at seats k s order h = let e = of_lanes_at 0 k seats s order h in omega (arith, e)

-- rows of commands of lanes below a number are rows of such lanes
rows_below : (lanes : ℕ) (log : List Row) → All (IsCommandBelow lanes) log → All (λ row. lane_of row < lanes) log
rows_below lanes log all k d h = (all k d h).1

pub closed_clean : (d : SetupData) (first : State) (lanes : ℕ) (seats : List SeatValue) (log : List Row) (nobody : SeatValue)
    → All (IsSeat d) seats → AreFrom first seats → Closed lanes seats log → IsCleanFrom d first log
closed_clean d first lanes seats log nobody are from c =
    let inside : (k : ℕ) → k < lanes → k < length seats = λ k h. subst (λ n. k < n) (sym c.all) h in
    clean_from_lanes d first lanes log (λ k. (get_or seats k nobody).pen) (rows_below lanes log c.rows) (λ k h. lane_at seats k nobody c.order (inside k h)) (λ k h. c.each k nobody (inside k h))
    (λ k h. subst (λ (s : State). IsLaneCleanFrom d s (get_or seats k nobody).pen.lane (get_or seats k nobody).pen.front) (from k nobody (inside k h)) (are k nobody (inside k h)).clean)

pub closed_legal : (d : SetupData) (first : State) (lanes : ℕ) (seats : List SeatValue) (log : List Row) (nobody : SeatValue)
    → All (IsSeat d) seats → AreFrom first seats → Closed lanes seats log → AnswersAreLegalFrom d first seats log
closed_legal d first lanes seats log nobody are from c =
    answers_are_legal d first seats log nobody (closed_clean d first lanes seats log nobody are from c)
    (subst (λ n. All (λ row. lane_of row < n) log) (sym c.all) (rows_below lanes log c.rows)) (λ k s h. lane_at seats k s c.order h) c.each

all_mid : {X : Type 0} (P : X → Type 0) (xs : List X) (x : X) (ys : List X) → All P (xs ++ x ∷ ys) → P x
all_mid P [] x ys all = all_head P x ys all
all_mid P (z ∷ zs) x ys all = all_mid P zs x ys (all_tail P z (zs ++ x ∷ ys) all)

-- a front of the log that is no shorter than each seat's is the log
pub longest_is_log : (lanes : ℕ) (seats : List SeatValue) (log front : List Row) (nobody : SeatValue) → Closed lanes seats log
    → IsPrefix front log → All (λ (s : SeatValue). length s.pen.front ≤ length front) seats → log ≡ front
longest_is_log lanes seats log front nobody c prefix longest = whole prefix.0 prefix.1
  where
    whole : (rest : List Row) → log ≡ front ++ rest → log ≡ front
    whole [] is = is ∙ append-nil front
    whole (row ∷ rest) is =
        let below : lane_of row < lanes = (all_mid (IsCommandBelow lanes) front row rest (subst (All (IsCommandBelow lanes)) is c.rows)).1 in
        let inside : lane_of row < length seats = subst (λ n. lane_of row < n) (sym c.all) below in
        let pen : PenValue = (get_or seats (lane_of row) nobody).pen in
        let stands : StandsIn log pen = c.each (lane_of row) nobody inside in
        let lane : pen.lane ≡ lane_of row = lane_at seats (lane_of row) nobody c.order inside in
        let begins : IsPrefix pen.front front = prefix_both pen.front front log stands.front prefix (longest (lane_of row) nobody inside) in
        let own : rows_of pen.lane pen.front ≡ rows_of pen.lane log = sym stands.reached ∙ stands.own in
        let same : length (rows_of pen.lane front) ≡ length (rows_of pen.lane log) = ap length (rows_of_between pen.lane pen.front front log begins prefix own ∙ own) in
        let same' : length (rows_of (lane_of row) front) ≡ length (rows_of (lane_of row) log) = subst (λ (l : ℕ). length (rows_of l front) ≡ length (rows_of l log)) lane same in
        absurd (omega (arith, same', turn_below front row rest log is))
