-- The seats of the table that stand for a pen or for a note.
use Rattle.std.specs.Prelude.{◌≡◌, ℕ, ◌≤◌, List, [], ◌∷◌, length}
use Rattle.atomic_table.specs.Seated.{TableId}
use Rattle.spin_word.specs.declared.command.TheConstants.{MAX_PLACE}
use Rattle.spin_word.specs.declared.row.Row.{Row}
use Rattle.spin_log.specs.declared.view.Hand.{Hand}
use Rattle.spin_log.specs.Rows.{size_of}
use Rattle.spin_log.specs.Rule.{holding}
use Rattle.spin_log.specs.Steps.{Mine}
use Rattle.spin_log.specs.Pens.{IsPen, pen_value, only_hand}

-- the pen with this draft
abbrev pub with_draft : List ℕ → Hand → Hand
with_draft draft hand = record hand { draft = draft }

-- the seat of a pen that has no draft, and has this lane, a front of n rows, and so many rows of its
-- own
pub record IsPenSeat (id : TableId) (me : Mine) (lane n published : ℕ) : Type 0 where
  pub alone : me ≡ (holding (with_draft [] (only_hand me.0.hands) ∷ []), [])
  pub table : id.words ≡ size_of (only_hand me.0.hands).lanes
  pub lane_is : (only_hand me.0.hands).lane ≡ lane
  pub front : length (only_hand me.0.hands).front ≡ n
  pub rows : length (only_hand me.0.hands).own ≡ published
  pub pen : IsPen (pen_value id (only_hand me.0.hands))

-- a part of the log that a pen of it knows
pub record NoteValue : Type 0 where
  pub log : TableId
  pub front : List Row

abbrev pub only_front : List (List Row) → List Row
only_front [] = []
only_front (front ∷ fronts) = front

-- the seat of a note of n rows
pub record IsNoteSeat (me : Mine) (n : ℕ) : Type 0 where
  pub alone : me ≡ (record { hands = []; older = only_front me.0.older ∷ [] }, [])
  pub front : length (only_front me.0.older) ≡ n
  pub room : n ≤ MAX_PLACE
