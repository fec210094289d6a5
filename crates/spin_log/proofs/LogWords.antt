-- The words of the table by the log: what a row more and a stored word leave, and what the next word says.
use Rattle.std.proofs.Common.{◌≡◌, ◌≢◌, ℕ, zero, suc, ◌+◌, ◌<◌, ◌≤◌, List, [], ◌∷◌, ◌++◌, length, get_or, set, sym, ap}
use Rattle.std.proofs.Common.{◌∙◌, subst, ⊎_elim, arith, length-append, length-set, get_or-set_same, get_or-set_other}
use mathlib.Core.Logic.{dite}
use native.Mathlib.Decide.{ℕ_discrete}
use Rattle.std.proofs.lemmas.List.{append-nil, append_assoc}
use Rattle.std.proofs.lemmas.List.Elements.{All-append}
use Rattle.std.proofs.Math.Seq.{get_or-append_seam}
use Rattle.spin_word.specs.declared.row.Row.{Row}
use Rattle.spin_word.specs.declared.command.TheConstants.{MAX_PLACE}
use Rattle.spin_log.specs.Rows.{IsCommandBelow, rows_of, IsPrefix, row_words, turn, name_of, row_at, StandsAt}
use Rattle.spin_word.specs.Rows.{lane_of}
use Rattle.spin_log.specs.Rule.{IsEntry, Stands}
use Rattle.spin_log.proofs.RowLists.{all_one}
use Rattle.spin_log.proofs.RowLists.{turn_below, turn_length, snoc_split}

-- the first words of the table are no row's
pub before_rows : (lane turn k i : ℕ) → i ≤ MAX_PLACE + 1 → row_at lane turn + k ≢ i
before_rows lane turn k i le e = absurd (omega arith)

-- two rows have no word in common
pub apart_rows : (lane turn k other n j i : ℕ) → i ≡ row_at other n + j → k < 4 → j < 4 → turn < MAX_PLACE → n < MAX_PLACE → (lane ≡ other → turn < n) → row_at lane turn + k ≢ i
apart_rows lane turn k other n j i is k4 j4 t n' below e =
    dite (ℕ_discrete lane other) (λ (same : lane ≡ other). let less = below same in absurd (omega arith)) (λ (not : lane ≢ other). absurd (omega arith))

-- an entry whose words stay
entry_kept : (words : List ℕ) (i x : ℕ) (front : List Row) (row : Row) → IsEntry words front row → suc (length front) ≢ i
    → ((k : ℕ) → k < 4 → row_at (lane_of row) (turn front row) + k ≢ i) → IsEntry (set words i x) front row
entry_kept words i x front row entry name four = record {
  name = get_or-set_other words i (suc (length front)) x 0 name
      ∙ entry.name;
  four = λ k h. get_or-set_other words i (row_at (lane_of row) (turn front row) + k) x 0 (four k h) ∙ entry.four k h;
}

-- a row more
pub stands_more : (lanes : ℕ) (log : List Row) (words : List ℕ) (i n : ℕ) (row : Row) → Stands lanes log words → i ≡ length log + 1 → length log < MAX_PLACE
    → IsCommandBelow lanes row → n ≡ name_of (lane_of row) (turn log row) → StandsAt words (row_at (lane_of row) (turn log row)) (row_words row)
    → Stands lanes (log ++ row ∷ []) (set words i n)
stands_more lanes log words i n row st is room command name four = record {
  size = length-set words i n ∙ st.size;
  head = get_or-set_other words i 0 n 0 (λ e. omega arith) ∙ st.head;
  entries = λ front other rest e.
      ⊎_elim (λ (new : (front ≡ log) × (other ≡ row)). subst (λ (f : List Row). IsEntry (set words i n) f other) (sym new.0) (subst (λ (r : Row). IsEntry (set words i n) log r) (sym new.1) last))
      (λ (old : (more : List Row) × (log ≡ front ++ other ∷ more)).
      let len : length front < length log = omega (arith, ap length old.1, length-append front (other ∷ old.0)) in
      entry_kept words i n front other (st.entries front other old.0 old.1) (λ same. absurd (omega arith)) (λ k h. before_rows (lane_of other) (turn front other) k i (omega arith)))
      (snoc_split log front row other rest e);
  zeros = λ k past le. let more = length-append log (row ∷ []) in get_or-set_other words i (suc k) n 0 (λ e. absurd (omega arith)) ∙ st.zeros k (omega arith) le;
  room = omega (arith, length-append log (row ∷ []));
  commands = All-append (IsCommandBelow lanes) log (row ∷ []) st.commands (all_one (IsCommandBelow lanes) row command);
}
  where
    last : IsEntry (set words i n) log row
    last =
        let at : suc (length log) ≡ i = omega arith in
        let size = st.size in record {
          name = ap (λ (j : ℕ). get_or (set words i n) j 0) at ∙ get_or-set_same words i n 0 (omega arith) ∙ name;
          four = λ k h. get_or-set_other words i (row_at (lane_of row) (turn log row) + k) n 0 (before_rows (lane_of row) (turn log row) k i (omega arith)) ∙ four k h;
        }

-- a word is stored into a lane's next row
pub stands_kept : (lanes : ℕ) (log : List Row) (words : List ℕ) (i x lane j : ℕ) → Stands lanes log words
    → i ≡ row_at lane (length (rows_of lane log)) + j → j < 4 → length (rows_of lane log) < MAX_PLACE → Stands lanes log (set words i x)
stands_kept lanes log words i x lane j st is j4 room = record {
  size = length-set words i x ∙ st.size;
  head = get_or-set_other words i 0 x 0 (λ e. absurd (omega arith)) ∙ st.head;
  entries = λ front row rest e.
      let len : length front < length log = omega (arith, ap length e, length-append front (row ∷ rest)) in
      let most = st.room in
      let turns = turn_length front row rest log e in
      entry_kept words i x front row (st.entries front row rest e) (λ same. absurd (omega arith))
      (λ k h. apart_rows (lane_of row) (turn front row) k lane (length (rows_of lane log)) j i is h j4 (omega arith) room
      (λ same. subst (λ (l : ℕ). turn front row < length (rows_of l log)) same (turn_below front row rest log e)));
  zeros = λ k past le. get_or-set_other words i (suc k) x 0 (λ e. absurd (omega arith)) ∙ st.zeros k past le;
  room = st.room;
  commands = st.commands;
}

-- the log word after a beginning of the log
pub next_none : (lanes : ℕ) (front log : List Row) (words : List ℕ) (i : ℕ) → Stands lanes log words → IsPrefix front log → i ≡ length front + 1 → get_or words i 0 ≡ 0 → front ≡ log
next_none lanes front log words i st p is found = go p.0 p.1
  where
    go : (rest : List Row) → log ≡ front ++ rest → front ≡ log
    go [] e = sym (append-nil front) ∙ sym e
    go (row ∷ rest) e =
        let at : i ≡ suc (length front) = omega arith in
        let name : get_or words (suc (length front)) 0 ≡ name_of (lane_of row) (turn front row) = (st.entries front row rest e).name in
        let zero : get_or words (suc (length front)) 0 ≡ 0 = sym (ap (λ (j : ℕ). get_or words j 0) at) ∙ found in
        absurd (omega arith)

pub next_some : (lanes : ℕ) (front log : List Row) (words : List ℕ) (i n : ℕ) → Stands lanes log words → IsPrefix front log → i ≡ length front + 1 → get_or words i 0 ≡ n
    → n ≢ 0 → (row : Row) × IsPrefix (front ++ row ∷ []) log × IsEntry words front row × (n ≡ name_of (lane_of row) (turn front row)) × IsCommandBelow lanes row
next_some lanes front log words i n st p is found not = go p.0 p.1
  where
    at : i ≡ suc (length front)
    at = omega arith

    go : (rest : List Row) → log ≡ front ++ rest → (row : Row) × IsPrefix (front ++ row ∷ []) log × IsEntry words front row × (n ≡ name_of (lane_of row) (turn front row)) × IsCommandBelow lanes row
    go [] e =
        let whole : log ≡ front = e ∙ append-nil front in
        let len : length log ≡ length front = ap length whole in
        let room = st.room in
        absurd (not (sym found ∙ ap (λ (j : ℕ). get_or words j 0) at ∙ st.zeros (length front) (omega arith) (omega arith)))
    go (row ∷ rest) e =
        let entry = st.entries front row rest e in
        let here : get_or log (length front) row ≡ row = ap (λ (l : List Row). get_or l (length front) row) e ∙ get_or-append_seam front row rest row in
        let inside : length front < length log = omega (arith, ap length e, length-append front (row ∷ rest)) in (
          row,
          (rest, e ∙ sym (append_assoc front (row ∷ []) rest)),
          entry,
          sym found ∙ ap (λ (j : ℕ). get_or words j 0) at
              ∙ entry.name,
          subst (IsCommandBelow lanes) here (st.commands (length front) row inside),
        )
