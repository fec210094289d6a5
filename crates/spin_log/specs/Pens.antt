-- Pens and logs as callers see them.
use Rattle.std.specs.Prelude.{◌≡◌, ℕ, ◌<◌, ◌≤◌, List, [], ◌∷◌, ◌++◌, All, map, length}
use Rattle.core.specs.List.Sorted.{IsNonDecreasing}
use Rattle.atomic_table.specs.Seated.{TableId}
use Rattle.spin_word.specs.declared.command.TheConstants.{MAX_PLACE, MAX_LANES}
use Rattle.spin_word.specs.declared.row.Row.{Row}
use Rattle.spin_log.specs.declared.view.Hand.{Hand}
use Rattle.spin_log.specs.Rows.{rows_of, IsCommandBelow, IsPrefix}
use Rattle.spin_log.specs.History.{LogAction, rows_in, pins_from}
use Rattle.spin_log.specs.Rule.{new_hand, new_hands}

-- which log it is, and its number of lanes
pub record LogValue : Type 0 where
  pub id : TableId
  pub lanes : ℕ

-- its log with the number of lanes, its lane, the part of the log that it knows, the rows that it
-- published, and for each time that it found no next row how many rows there were
pub record PenValue : Type 0 where
  pub log : TableId
  pub lanes : ℕ
  pub lane : ℕ
  pub front : List Row
  pub own : List Row
  pub pins : List ℕ

-- what is so of every pen: its front is rows of commands, of which those of its lane are its own,
-- and its pins don't fall and lie in its front
pub record IsPen (pen : PenValue) : Type 0 where
  pub few : pen.lanes ≤ MAX_LANES
  pub below : pen.lane < pen.lanes
  pub room : length pen.front ≤ MAX_PLACE
  pub commands : All (IsCommandBelow pen.lanes) pen.front
  pub own : pen.own ≡ rows_of pen.lane pen.front
  pub rising : IsNonDecreasing pen.pins
  pub reached : All (λ (pin : ℕ). pin ≤ length pen.front) pen.pins

abbrev pub pen_value : TableId → Hand → PenValue
pen_value id hand = record {
  log = id;
  lanes = hand.lanes;
  lane = hand.lane;
  front = hand.front;
  own = hand.own;
  pins = hand.pins;
}

-- the one pen of a view
abbrev pub only_hand : List Hand → Hand
only_hand [] = new_hand 0 0
only_hand (hand ∷ hands) = hand

-- new pens of the first n lanes
abbrev pub first_pens : TableId → ℕ → ℕ → List PenValue
first_pens id lanes n = map (pen_value id) (new_hands lanes 0 n)

-- one pen for each lane, the k-th being that of lane k, which knows and did nothing
abbrev pub new_pens : TableId → ℕ → List PenValue
new_pens id lanes = first_pens id lanes lanes

-- the pen after it read the next row, or found none, or published a row
abbrev pub read : PenValue → Row → PenValue
read pen row = record pen { front = pen.front ++ row ∷ [] }

abbrev pub pinned_at_front : PenValue → PenValue
pinned_at_front pen = record pen { pins = pen.pins ++ length pen.front ∷ [] }

abbrev pub written : PenValue → Row → PenValue
written pen row = record pen { front = pen.front ++ row ∷ []; own = pen.own ++ row ∷ [] }

abbrev pub with_front : PenValue → List Row → PenValue
with_front pen front = record pen { front = front }

-- it is still the pen of that lane of that log
abbrev pub IsSamePen : PenValue → PenValue → Type 0
IsSamePen old new = (new.log ≡ old.log) × (new.lanes ≡ old.lanes) × (new.lane ≡ old.lane)

-- what the log has of a pen: its front begins the log, and its own rows are the log's rows of its
-- lane, and all lie in its front
pub record StandsIn (log : List Row) (pen : PenValue) : Type 0 where
  pub front : IsPrefix pen.front log
  pub own : pen.own ≡ rows_of pen.lane log
  pub reached : pen.own ≡ rows_of pen.lane pen.front

-- what has happened to the log, in one order: its rows were published, and each pin of a pen was
-- set where as many rows had been published as it says
pub record IsHistory (log : List Row) (pens : List PenValue) (moments : List LogAction)
    : Type 0 where
  pub rows : rows_in moments ≡ log
  pub pins : All (λ (pen : PenValue). pen.pins ≡ pins_from pen.lane 0 moments) pens
