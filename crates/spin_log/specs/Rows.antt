-- Rows of commands, the rows of one lane among them, and where they stand in the table.
use Rattle.std.specs.Prelude.{◌≡◌, ◌≢◌, ℕ, ◌+◌, ◌*◌, ◌<◌, ◌==◌, List, [], ◌∷◌, ◌++◌, filter}
use Rattle.std.specs.Prelude.{length, slice_index}
use Rattle.spin_word.specs.declared.command.TheConstants.{MAX_PLACE}
use Rattle.spin_word.specs.declared.row.Row.{Row}
use Rattle.spin_word.specs.Rows.{IsCommand, lane_of}

-- The table has the number of lanes in word 0, a log word for each row from word 1 on, then a word
-- that stays 0, and then for each lane as many rows of four words as the log has at most.
abbrev pub rows_start : ℕ
rows_start = MAX_PLACE + 2

abbrev pub part_size : ℕ
part_size = 4 * MAX_PLACE

abbrev pub size_of : ℕ → ℕ
size_of lanes = rows_start + part_size * lanes

-- where the four words of a lane's row begin. A lane's rows are counted from 0
abbrev pub row_at : ℕ → ℕ → ℕ
row_at lane turn = rows_start + 4 * (MAX_PLACE * lane + turn)

-- the number that names a lane's row in a log word, and so isn't 0
abbrev pub name_of : ℕ → ℕ → ℕ
name_of lane turn = 1 + MAX_PLACE * lane + turn

-- the rows of a lane, in order
abbrev pub rows_of : ℕ → List Row → List Row
rows_of lane rows = filter (λ row. lane_of row == lane) rows

-- how many rows of its lane stand before the row
abbrev pub turn : List Row → Row → ℕ
turn front row = length (rows_of (lane_of row) front)

-- a row of a command of this lane
abbrev pub IsRowOf : ℕ → Row → Type 0
IsRowOf lane row = IsCommand row × (lane_of row ≡ lane)

-- a row of a command of a lane below this number
abbrev pub IsCommandBelow : ℕ → Row → Type 0
IsCommandBelow lanes row = IsCommand row × (lane_of row < lanes)

-- a row of a command of another lane than this one
abbrev pub IsRowOfOther : ℕ → ℕ → Row → Type 0
IsRowOfOther lanes lane row = IsCommand row × (lane_of row ≢ lane) × (lane_of row < lanes)

-- the second list begins with the first
abbrev pub IsPrefix : List Row → List Row → Type 0
IsPrefix front log = (rest : List Row) × (log ≡ front ++ rest)

-- the four words of a row, and the row of four words
abbrev pub row_words : Row → List ℕ
row_words row = row.a ∷ row.b ∷ row.c ∷ row.d ∷ []

abbrev pub row_from : List ℕ → Row
row_from words = record {
  a = slice_index words 0;
  b = slice_index words 1;
  c = slice_index words 2;
  d = slice_index words 3;
}

-- these numbers stand side by side from this word on
abbrev pub StandsAt : List ℕ → ℕ → List ℕ → Type 0
StandsAt words at numbers =
    (k : ℕ) → k < length numbers → slice_index words (at + k) ≡ slice_index numbers k
