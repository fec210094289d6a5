-- How a pen takes in a note, and how all pens are joined.
use Rattle.std.proofs.Common.{◌≡◌, ◌≢◌, ℕ, zero, suc, ◌+◌, ◌<◌, ◌≤◌, Bool, true, false, cond, ltb, List, [], ◌∷◌, ◌++◌, map, length, length-append, get_or, refl, sym, ap, ◌∙◌, subst, arith, le_refl}
use borrow.Author.Tests.{ltb-true}
use Rattle.std.specs.Prelude.{All}
use mathlib.Core.Option.{some, some-ne-none, some-injective}
use lib.ListN.{get_elem?}
use Rattle.std.proofs.lemmas.Bool.{lt-ltb, le-ltb}
use Rattle.std.proofs.lemmas.List.{append_assoc}
use Rattle.std.proofs.Math.Seq.{get_or-append_seam}
use Rattle.atomic_table.specs.Seated.{TableId}
use Rattle.atomic_table.specs.Table.{Final, Seen}
use Rattle.spin_word.specs.declared.row.Row.{Row}
use Rattle.spin_log.specs.declared.view.Hand.{Hand}
use Rattle.spin_log.specs.declared.view.View.{View}
use Rattle.spin_word.specs.declared.command.TheConstants.{MAX_PLACE, MAX_LANES}
use Rattle.spin_log.specs.Rows.{IsCommandBelow, rows_of, IsPrefix, row_words, turn, name_of, row_at, size_of, StandsAt}
use Rattle.spin_log.specs.Inner.Places.{place_of, IsNameIn}
use Rattle.spin_word.specs.Rows.{lane_of}
use Rattle.spin_log.specs.Rule.{IsEntry, Stands, Holds, holding}
use Rattle.spin_log.specs.History.{LogAction, pins_from}
use Rattle.spin_log.specs.Steps.{Mine, Learned, AreOfOne, longer, lengthened, both_of}
use Rattle.spin_log.specs.Pens.{PenValue, pen_value, only_hand, StandsIn, IsHistory}
use Rattle.spin_log.specs.Inner.Seats.{only_front, with_draft, IsPenSeat, IsNoteSeat}
use Rattle.spin_log.proofs.RowLists.{all_head, all_map, rows_of_length, prefix_length}
use Rattle.spin_log.proofs.LogWords.{next_none, next_some}

longer_length : (front other : List Row) → length front ≤ length (longer front other)
longer_length front other = pick (ltb (length front) (length other)) refl
  where
    pick : (b : Bool) → ltb (length front) (length other) ≡ b → length front ≤ length (cond b other front)
    pick true e = let l = ltb-true (length front) (length other) e in omega arith
    pick false e = le_refl (length front)

abbrev with_older : Hand → List Row → View
with_older hand front = record { hands = hand ∷ []; older = front ∷ [] }

module _ (id : TableId) (pen note m m' : Mine) (lane n rows k : ℕ) (p : IsPenSeat id pen lane n rows) (q : IsNoteSeat note k) (join : m ≡ (both_of pen.0 note.0, pen.1)) (load : Learned m m') where
  abbrev hand : Hand
  hand = only_hand pen.0.hands

  abbrev front : List Row
  front = only_front note.0.older

  learned_of : Learned (with_older (with_draft [] hand) front, []) m'
  learned_of =
      let a = p.alone in
      let b = q.alone in
      let e : m ≡ (with_older (with_draft [] hand) front, []) = join ∙ (λ i. (both_of (a i).0 (b i).0, (a i).1)) in
      subst (λ (x : Mine). Learned x m') e load

  pub tells_one : AreOfOne hand.front front
  tells_one =
      let l = all_head (λ (h : Hand). All (AreOfOne h.front) (front ∷ [])) (with_draft [] hand) [] learned_of.one in
      all_head (AreOfOne hand.front) front [] l

  pub tells_view : m' ≡ (holding (lengthened (front ∷ []) (with_draft [] hand) ∷ []), [])
  tells_view = learned_of.view

  tells_own : rows_of hand.lane (longer hand.front front) ≡ rows_of hand.lane hand.front
  tells_own = all_head (λ (h : Hand). rows_of h.lane (longer h.front front) ≡ rows_of h.lane h.front) (with_draft [] hand) [] learned_of.own

  tells_commands : All (IsCommandBelow hand.lanes) (longer hand.front front)
  tells_commands = all_head (λ (h : Hand). All (IsCommandBelow h.lanes) (longer h.front front)) (with_draft [] hand) [] learned_of.commands

  pub tells_seat : (x : ℕ) → length (longer hand.front front) ≡ x → x ≤ MAX_PLACE → IsPenSeat id m' lane x rows
  tells_seat x len room = subst (λ (y : Mine). IsPenSeat id y lane x rows) (sym tells_view) record {
    alone = refl;
    table = p.table;
    lane_is = p.lane_is;
    front = len;
    rows = p.rows;
    pen = record {
      few = p.pen.few;
      below = p.pen.below;
      room = omega arith;
      commands = tells_commands;
      own = p.pen.own ∙ sym tells_own;
      rising = p.pen.rising;
      reached = λ i d h. let le = p.pen.reached i d h in let more = longer_length hand.front front in omega arith;
    };
  }

  pub longer_note : n < k → longer hand.front front ≡ front
  longer_note less =
      let a = p.front in
      let b = q.front in
      ap (λ (t : Bool). cond t front hand.front) (lt-ltb (length hand.front) (length front) (omega arith))

  pub longer_own : k ≤ n → longer hand.front front ≡ hand.front
  longer_own le =
      let a = p.front in
      let b = q.front in
      ap (λ (t : Bool). cond t front hand.front) (le-ltb (length hand.front) (length front) (omega arith))

at_read : (l : List ℕ) (i a : ℕ) → get_elem? l i ≡ some a → get_or l i 0 ≡ a
at_read [] i a e = absurd (some-ne-none a (sym e))
at_read (x ∷ xs) zero a e = some-injective x a e
at_read (x ∷ xs) (suc i) a e = at_read xs i a e

-- the log word after the part that is read
module _ (lanes : ℕ) (front log : List Row) (words : List ℕ) (at name : ℕ) (st : Stands lanes log words)
    (p : IsPrefix front log) (is : length front + 1 ≡ at) (found : get_elem? words at ≡ some name) where
  pub reads_end : name ≡ 0 → front ≡ log
  reads_end zero_name = next_none lanes front log words at st p (sym is) (at_read words at name found ∙ zero_name)

  module _ (not : name ≢ 0) where
    next : (row : Row) × IsPrefix (front ++ row ∷ []) log × IsEntry words front row × (name ≡ name_of (lane_of row) (turn front row)) × IsCommandBelow lanes row
    next = next_some lanes front log words at name st p (sym is) (at_read words at name found) not

    pub name_inside : lanes ≤ MAX_LANES → IsNameIn (size_of lanes) name
    name_inside few =
        let row = next.0 in
        let names = next.3 in
        let below = next.4.1 in
        let turns = rows_of_length (lane_of row) front in
        let inside = prefix_length (front ++ row ∷ []) log next.1 in
        let more = length-append front (row ∷ []) in
        let room = st.room in
        (omega arith, omega arith, omega arith)

    pub reads_row : (loaded : Row) → StandsAt words (place_of name) (row_words loaded) → IsPrefix (front ++ loaded ∷ []) log
    reads_row loaded four =
        let row = next.0 in
        let names = next.3 in
        let place : row_at (lane_of row) (turn front row) ≡ place_of name = omega arith in
        let here : StandsAt words (place_of name) (row_words row) = subst (λ (i : ℕ). StandsAt words i (row_words row)) place next.2.four in
        let first_is : loaded.a ≡ row.a = sym (four 0 (omega arith)) ∙ here 0 (omega arith) in
        let second_is : loaded.b ≡ row.b = sym (four 1 (omega arith)) ∙ here 1 (omega arith) in
        let third_is : loaded.c ≡ row.c = sym (four 2 (omega arith)) ∙ here 2 (omega arith) in
        let fourth_is : loaded.d ≡ row.d = sym (four 3 (omega arith)) ∙ here 3 (omega arith) in
        subst (λ (r : Row). IsPrefix (front ++ r ∷ []) log) (sym (λ i. record { a = first_is i; b = second_is i; c = third_is i; d = fourth_is i })) next.1

-- four words that were read one by one
pub four_words : (words : List ℕ) (first place a b c d : ℕ) → first ≡ place → get_elem? words first ≡ some a
    → get_elem? words (first + 1) ≡ some b → get_elem? words (first + 2) ≡ some c → get_elem? words (first + 3) ≡ some d
    → StandsAt words place (row_words record { a = a; b = b; c = c; d = d })
four_words words first place a b c d is one two three four = subst (λ (i : ℕ). StandsAt words i (row_words record { a = a; b = b; c = c; d = d })) is at
  where
    at : StandsAt words first (row_words record { a = a; b = b; c = c; d = d })
    at zero h = let e : first + 0 ≡ first = omega arith in ap (λ (i : ℕ). get_or words i 0) e ∙ at_read words first a one
    at (suc zero) h = at_read words (first + 1) b two
    at (suc (suc zero)) h = at_read words (first + 2) c three
    at (suc (suc (suc zero))) h = at_read words (first + 3) d four
    at (suc (suc (suc (suc k)))) h = absurd (omega arith)

-- one more pen is joined
pub gathers : (id : TableId) (items items' pens : List PenValue) (pen : PenValue) (taker seat m : Mine) → items ≡ items' ++ pen ∷ []
    → seat ≡ (holding (with_draft [] (only_hand seat.0.hands) ∷ []), []) → pen_value id (only_hand seat.0.hands) ≡ pen
    → m ≡ (both_of taker.0 seat.0, taker.1) → items ++ map (pen_value id) taker.0.hands ≡ pens → items' ++ map (pen_value id) m.0.hands ≡ pens
gathers id items items' pens pen taker seat m popped alone value joined all =
    let rest = map (pen_value id) taker.0.hands in
    let hands : m.0.hands ≡ with_draft [] (only_hand seat.0.hands) ∷ taker.0.hands = ap (λ (x : Mine). x.0.hands) joined ∙ (λ i. (alone i).0.hands ++ taker.0.hands) in
    let values : map (pen_value id) m.0.hands ≡ pen ∷ rest = ap (map (pen_value id)) hands ∙ (λ i. value i ∷ rest) in
    ap (λ (l : List PenValue). items' ++ l) values ∙ (sym (append_assoc items' (pen ∷ []) rest) ∙ (ap (λ (l : List PenValue). l ++ rest) (sym popped) ∙ all))

-- what holds of all holds of one in the middle
pub all_middle : (P : PenValue → Type 0) (front : List PenValue) (x : PenValue) (rest all : List PenValue) → (front ++ x ∷ []) ++ rest ≡ all → All P all → P x
all_middle P front x rest all e every =
    let s : all ≡ front ++ x ∷ rest = sym e ∙ append_assoc front (x ∷ []) rest in
    let every' : All P (front ++ x ∷ rest) = subst (All P) s every in
    subst P (get_or-append_seam front x rest x) (every' (length front) x (omega (arith, length-append front (x ∷ rest))))

-- a pen that is taken from the end of a list is of the log that all are of
pub popped_log : (id : TableId) (items items' rest pens : List PenValue) (pen : PenValue) → items ≡ items' ++ pen ∷ [] → items ++ rest ≡ pens → All (λ (p : PenValue). p.log ≡ id) pens → pen.log ≡ id
popped_log id items items' rest pens pen popped all every = all_middle (λ (p : PenValue). p.log ≡ id) items' pen rest pens (ap (λ (l : List PenValue). l ++ rest) (sym popped) ∙ all) every

-- what the last state has of the pens that were joined
pub stands_in : (lanes id : ℕ) (table : TableId) (v : View) (words : List ℕ) (slots : List (Unit {0}))
    → Final (Seen (Holds lanes) id v) words slots → (log : List Row) → ((entries : List Row) → Stands lanes entries words → log ≡ entries)
    → All (StandsIn log) (map (pen_value table) v.hands)
stands_in lanes id table v words slots final log read =
    let r = final.1.0 in
    let is : log ≡ r.log = read r.log (subst (Stands lanes r.log) final.2 r.stands) in
    let f = r.each id v final.1.1 in
    subst (λ (l : List Row). All (StandsIn l) (map (pen_value table) v.hands)) (sym is)
    (all_map (StandsIn r.log) (pen_value table) v.hands (λ i d h. let k = f.0 i d h in record { front = k.front; own = k.own; reached = k.reached }))

-- the rows of the last state
pub rows_below : (lanes id : ℕ) (v : View) (words : List ℕ) (slots : List (Unit {0})) → Final (Seen (Holds lanes) id v) words slots
    → (log : List Row) → ((entries : List Row) → Stands lanes entries words → log ≡ entries)
    → All (IsCommandBelow lanes) log × (length log ≤ MAX_PLACE)
rows_below lanes id v words slots final log read =
    let r = final.1.0 in
    let is : log ≡ r.log = read r.log (subst (Stands lanes r.log) final.2 r.stands) in
    subst (λ (l : List Row). All (IsCommandBelow lanes) l × (length l ≤ MAX_PLACE)) (sym is) (r.stands.commands, r.stands.room)

-- the moments of the last state
pub history_of : (lanes id : ℕ) (table : TableId) (v : View) (words : List ℕ) (slots : List (Unit {0}))
    → Final (Seen (Holds lanes) id v) words slots → (log : List Row) → ((entries : List Row) → Stands lanes entries words → log ≡ entries)
    → (pens : List PenValue) → map (pen_value table) v.hands ≡ pens → (moments : List LogAction) × IsHistory log pens moments
history_of lanes id table v words slots final log read pens same =
    let r = final.1.0 in
    let is : log ≡ r.log = read r.log (subst (Stands lanes r.log) final.2 r.stands) in (
      r.moments,
      record {
        rows = r.published ∙ sym is;
        pins = subst (All (λ (pen : PenValue). pen.pins ≡ pins_from pen.lane 0 r.moments)) same
            (all_map (λ (pen : PenValue). pen.pins ≡ pins_from pen.lane 0 r.moments) (pen_value table) v.hands (λ i d h. ((r.each id v final.1.1).0 i d h).marked.0));
      },
    )
