-- Pens of all lanes with one front.
use Rattle.std.proofs.Common.{◌≡◌, ℕ, ◌<◌, List, [], ◌∷◌, ◌++◌, get_or, length, sym, ap, subst, ◌∙◌, arith}
use Rattle.std.specs.Prelude.{All}
use Rattle.std.proofs.lemmas.List.{append-nil}
use Rattle.spin_word.specs.declared.row.Row.{Row}
use Rattle.spin_word.specs.Rows.{lane_of}
use Rattle.spin_log.specs.Laws.{AllAreAt, FrontIsLog}
use Rattle.spin_log.specs.Pens.{PenValue, StandsIn}
use Rattle.spin_log.specs.Rows.{IsCommandBelow, IsPrefix, rows_of}
use Rattle.spin_log.proofs.RowLists.{all_head, all_tail, turn_below}

all_mid : {X : Type 0} (P : X → Type 0) (xs : List X) (x : X) (ys : List X) → All P (xs ++ x ∷ ys) → P x
all_mid P [] x ys all = all_head P x ys all
all_mid P (z ∷ zs) x ys all = all_mid P zs x ys (all_tail P z (zs ++ x ∷ ys) all)

-- the front has all rows of a lane that has a pen
has_all : (log front : List Row) (pen : PenValue) → StandsIn log pen → pen.front ≡ front → length (rows_of pen.lane front) ≡ length (rows_of pen.lane log)
has_all log front pen stands same = ap (λ rows. length (rows_of pen.lane rows)) (sym same) ∙ ap length (sym stands.reached ∙ stands.own)

-- a row behind the front would be of a lane, whose pen has it in its front
none_behind : (lanes : ℕ) (log front : List Row) (pens : List PenValue) (row : Row) (rest : List Row)
    → All (IsCommandBelow lanes) log → All (StandsIn log) pens → AllAreAt lanes front pens → log ≡ front ++ row ∷ rest → ⊥
none_behind lanes log front pens row rest commands stands at is =
    let below : lane_of row < lanes = (all_mid (IsCommandBelow lanes) front row rest (subst (All (IsCommandBelow lanes)) is commands)).1 in
    let found = at.each_lane (lane_of row) below in
    let pen : PenValue = get_or pens found.0 found.1 in
    let lane : pen.lane ≡ lane_of row = ap (λ (p : PenValue). p.lane) found.3 ∙ found.4 in
    let all : length (rows_of pen.lane front) ≡ length (rows_of pen.lane log) = has_all log front pen (stands found.0 found.1 found.2) (at.same_front found.0 found.1 found.2) in
    let same : length (rows_of (lane_of row) front) ≡ length (rows_of (lane_of row) log) = subst (λ (l : ℕ). length (rows_of l front) ≡ length (rows_of l log)) lane all in
    absurd (omega (arith, same, turn_below front row rest log is))

pub front_is_log : FrontIsLog
front_is_log lanes log front pens some commands stands at =
    let found = at.each_lane 0 some in
    let prefix : IsPrefix front log = subst (λ (f : List Row). IsPrefix f log) (at.same_front found.0 found.1 found.2) (stands found.0 found.1 found.2).front in
    whole prefix.0 prefix.1 where
      whole : (rest : List Row) → log ≡ front ++ rest → log ≡ front
      whole [] is = is ∙ append-nil front
      whole (row ∷ rest) is = absurd (none_behind lanes log front pens row rest commands stands at is)
