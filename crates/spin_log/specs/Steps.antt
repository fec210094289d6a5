-- What the steps of a pen tell, and how views are cut and joined.
use Rattle.std.specs.Prelude.{◌≡◌, ◌≢◌, ℕ, ◌+◌, ◌<◌, List, [], ◌∷◌, ◌++◌, ◌⊎◌, All, map, length}
use Rattle.std.specs.Prelude.{slice_index, take, drop, cond, nat_lt}
use Rattle.atomic_table.specs.Table.{Me, Step}
use Rattle.spin_word.specs.declared.command.TheConstants.{MAX_PLACE}
use Rattle.spin_word.specs.declared.row.Row.{Row}
use Rattle.spin_log.specs.declared.view.Hand.{Hand}
use Rattle.spin_log.specs.declared.view.View.{View}
use Rattle.spin_log.specs.Rows.{IsCommandBelow, rows_of, IsRowOfOther, IsPrefix, row_words}
use Rattle.spin_log.specs.Rows.{row_from, turn, name_of, row_at}
use Rattle.spin_word.specs.Rows.{lane_of}
use Rattle.spin_log.specs.Rule.{holding}

abbrev pub Mine : Type 0
Mine = Me (Unit {0}) View

-- the pen has read the next row, and begins its draft again
abbrev pub read_on : Row → Hand → Hand
read_on row hand = record hand { front = hand.front ++ row ∷ []; draft = [] }

-- the pen has written the next word of its draft
abbrev pub writes_on : ℕ → Hand → Hand
writes_on word hand = record hand { draft = hand.draft ++ word ∷ [] }

-- the pen has published its draft, as the moment of this place
abbrev pub wrote : ℕ → Hand → Hand
wrote place hand = record hand {
  front = hand.front ++ row_from hand.draft ∷ [];
  own = hand.own ++ row_from hand.draft ∷ [];
  places = hand.places ++ place ∷ [];
  draft = [];
}

-- the pen has found no next row, as the moment of this place
abbrev pub pinned : ℕ → Hand → Hand
pinned place hand = record hand {
  pins = hand.pins ++ length hand.front ∷ [];
  places = hand.places ++ place ∷ [];
}

-- the view with each of its pens changed
abbrev pub each_hand : (Hand → Hand) → View → View
each_hand f v = record { hands = map f v.hands; older = v.older }

-- the number found names the row after the pen's front, which is of another lane
abbrev pub IsNext : ℕ → Row → Hand → Type 0
IsNext found row hand =
    IsRowOfOther hand.lanes hand.lane row
    × (found ≡ name_of (lane_of row) (turn hand.front row))
    × (length hand.front < MAX_PLACE)

-- what a pen learns where the next log word was found not to be 0
abbrev pub ReadsOn : Mine → ℕ → Mine → Type 0
ReadsOn m found m' =
    (row : Row)
    × (m' ≡ (each_hand (read_on row) m.0, m.1))
    × All (IsNext found row) m.0.hands

-- each pen has made its change, as the moment of some place
abbrev pub Each : (ℕ → Hand → Hand) → Mine → Mine → Type 0
Each change m m' = (place : ℕ) × (m' ≡ (each_hand (change place) m.0, m.1))

-- a load of the log word after the front
abbrev pub looked : Step (Unit {0}) → Mine → ℕ → Mine → Type 0
looked st m found m' = (found ≡ 0 → Each pinned m m') × (found ≢ 0 → ReadsOn m found m')

-- a store of the next word of the draft
abbrev pub drafted : Step (Unit {0}) → Mine → ℕ → Mine → Type 0
drafted st m found m' = m' ≡ (each_hand (writes_on st.first) m.0, m.1)

-- an exchange of 0 for the number of the draft's row, after the front
abbrev pub published : Step (Unit {0}) → Mine → ℕ → Mine → Type 0
published st m found m' = (found ≡ 0 → Each wrote m m') × (found ≢ 0 → ReadsOn m found m')

-- whichever word of a row of the front was loaded, it is that row's
abbrev pub IsWordOfFront : ℕ → ℕ → Hand → Type 0
IsWordOfFront at found hand =
    (front : List Row) (row : Row) (rest : List Row) (k : ℕ) →
    hand.front ≡ front ++ row ∷ rest → k < 4 →
    at ≡ row_at (lane_of row) (turn front row) + k →
    found ≡ slice_index (row_words row) k

-- a load of a word of a row
abbrev pub reread : Step (Unit {0}) → Mine → ℕ → Mine → Type 0
reread st m found m' = (m' ≡ m) × All (IsWordOfFront st.word found) m.0.hands

-- the longer of two fronts
abbrev pub longer : List Row → List Row → List Row
longer front other = cond (nat_lt (length front) (length other)) other front

abbrev pub longest : List Row → List (List Row) → List Row
longest front [] = front
longest front (other ∷ others) = longest (longer front other) others

-- the pen has the longest front
abbrev pub lengthened : List (List Row) → Hand → Hand
lengthened others hand = record hand { front = longest hand.front others }

-- one front begins the other
abbrev pub AreOfOne : List Row → List Row → Type 0
AreOfOne front other = IsPrefix front other ⊎ IsPrefix other front

-- a load of word 0, which tells that the older fronts are of the same log, that they have no row of
-- the pen's lane but its own, and takes the longest
pub record Learned (m m' : Mine) : Type 0 where
  pub view : m' ≡ (holding (map (lengthened m.0.older) m.0.hands), m.1)
  pub one : All (λ (hand : Hand). All (AreOfOne hand.front) m.0.older) m.0.hands
  pub own : All
      (λ (hand : Hand). rows_of hand.lane (longest hand.front m.0.older)
      ≡ rows_of hand.lane hand.front) m.0.hands
  pub commands : All
      (λ (hand : Hand). All (IsCommandBelow hand.lanes) (longest hand.front m.0.older)) m.0.hands

abbrev pub learned : Step (Unit {0}) → Mine → ℕ → Mine → Type 0
learned st m found m' = Learned m m'

-- the first pen of a view goes to a new seat
abbrev pub without_first : View → View
without_first v = record { hands = drop 1 v.hands; older = v.older }

abbrev pub first_alone : View → View
first_alone v = holding (take 1 v.hands)

-- a note of a view's fronts
abbrev pub note_of : View → View
note_of v = record { hands = []; older = map (λ (hand : Hand). hand.front) v.hands }

abbrev pub both_of : View → View → View
both_of v w = record { hands = w.hands ++ v.hands; older = w.older ++ v.older }

abbrev pub spent : View
spent = holding []

-- a seat that stands for no pen
abbrev pub sat : Step (Unit {0}) → Mine → ℕ → Mine → Type 0
sat st m found m' = m' ≡ (spent, [])
