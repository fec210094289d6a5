-- The facts of the shared log, which hold between any two atomic steps.
use Rattle.std.specs.Prelude.{◌≡◌, ℕ, zero, suc, ◌+◌, ◌*◌, ◌<◌, ◌≤◌, ◌==◌, cond, List, [], ◌∷◌}
use Rattle.std.specs.Prelude.{◌++◌, length, slice_index, All}
use mathlib.Core.Option.{some}
use lib.ListN.{get_elem?}
use Rattle.atomic_table.specs.Table.{State}
use Rattle.spin_word.specs.declared.command.TheConstants.{MAX_PLACE}
use Rattle.spin_word.specs.declared.row.Row.{Row}
use Rattle.spin_word.specs.Rows.{lane_of}
use Rattle.spin_log.specs.declared.view.Hand.{Hand}
use Rattle.spin_log.specs.declared.view.View.{View}
use Rattle.spin_log.specs.Rows.{part_size, size_of, row_at, name_of, rows_of, turn, IsCommandBelow}
use Rattle.spin_log.specs.Rows.{IsPrefix, row_words, StandsAt}
use Rattle.spin_log.specs.History.{LogAction, rows_in, pins_from, places_from}

-- the row after this part of the log: its log word names its lane's next row, and the row stands
-- there
pub record IsEntry (words : List ℕ) (front : List Row) (row : Row) : Type 0 where
  pub name : slice_index words (suc (length front)) ≡ name_of (lane_of row) (turn front row)
  pub four : StandsAt words (row_at (lane_of row) (turn front row)) (row_words row)

-- the log is the rows named by the words from 1 up to the first 0, and every log word after it is 0
pub record Stands (lanes : ℕ) (log : List Row) (words : List ℕ) : Type 0 where
  pub size : length words ≡ size_of lanes
  pub head : slice_index words 0 ≡ lanes
  pub entries : (front : List Row) (row : Row) (rest : List Row) →
      log ≡ front ++ row ∷ rest → IsEntry words front row
  pub zeros : (k : ℕ) → length log ≤ k → k ≤ MAX_PLACE → slice_index words (suc k) ≡ 0
  pub room : length log ≤ MAX_PLACE
  pub commands : All (IsCommandBelow lanes) log

-- the history has the pen's pins, and its lane's moments at the places that the pen keeps. Each
-- view keeps those of its own lanes, and a step changes one view: so a step adds to the history at
-- its end, and nowhere before
abbrev pub IsMarked : List LogAction → Hand → Type 0
IsMarked moments hand =
    (hand.pins ≡ pins_from hand.lane 0 moments) × (hand.places ≡ places_from hand.lane 0 moments)

-- what a pen knows of the log: its front begins it, its own rows are the log's rows of its lane and
-- lie in its front, its pins are those of its lane in the history, and its draft stands in its
-- lane's next row
pub record Knows (lanes : ℕ) (log : List Row) (moments : List LogAction) (words : List ℕ)
    (hand : Hand) : Type 0 where
  pub lanes_is : hand.lanes ≡ lanes
  pub lane : hand.lane < lanes
  pub front : IsPrefix hand.front log
  pub own : hand.own ≡ rows_of hand.lane log
  pub reached : hand.own ≡ rows_of hand.lane hand.front
  pub pins : All (λ pin. pin ≤ length hand.front) hand.pins
  pub marked : IsMarked moments hand
  pub drafted : StandsAt words (row_at hand.lane (length hand.own)) hand.draft
  pub at_most_a_row : length hand.draft ≤ 4
  pub within_its_part : 4 * length hand.own + length hand.draft ≤ part_size

-- each pen of the view, and each older front that it keeps
abbrev pub Fits : ℕ → List Row → List LogAction → List ℕ → View → Type 0
Fits lanes log moments words v =
    All (Knows lanes log moments words) v.hands × All (λ front. IsPrefix front log) v.older

-- f of each, added up
abbrev pub total : {X : Type 0} → (X → ℕ) → List X → ℕ
total f [] = 0
total f (x ∷ xs) = f x + total f xs

-- how many pens of the lane the view has
abbrev pub pens_of : ℕ → View → ℕ
pens_of lane v = total (λ hand. cond (hand.lane == lane) 1 0) v.hands

-- there is a log, which stands in the table and was published in the order of some history; each
-- view fits it, and no lane has two pens
pub record Holds (lanes : ℕ) (s : State (Unit {0}) View) : Type 0 where
  pub log : List Row
  pub stands : Stands lanes log s.words
  pub moments : List LogAction
  pub published : rows_in moments ≡ log
  pub each : (seat : ℕ) (v : View) →
      get_elem? s.views seat ≡ some v → Fits lanes log moments s.words v
  pub one_pen : (lane : ℕ) → total (pens_of lane) s.views ≤ 1

-- pens that know and did nothing, for n lanes from the first on
abbrev pub new_hand : ℕ → ℕ → Hand
new_hand lanes lane = record {
  lanes = lanes;
  lane = lane;
  front = [];
  own = [];
  pins = [];
  places = [];
  draft = [];
}

abbrev pub new_hands : ℕ → ℕ → ℕ → List Hand
new_hands lanes lane zero = []
new_hands lanes lane (suc n) = new_hand lanes lane ∷ new_hands lanes (lane + 1) n

abbrev pub holding : List Hand → View
holding hands = record { hands = hands; older = [] }

-- the first seat has the pens of all lanes
abbrev pub first_view : ℕ → View
first_view lanes = holding (new_hands lanes 0 lanes)
