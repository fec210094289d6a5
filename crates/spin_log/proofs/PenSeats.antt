-- The seat of a pen after a step.
use Rattle.std.proofs.Common.{◌≡◌, ℕ, ◌+◌, ◌<◌, ◌≤◌, List, [], ◌∷◌, ◌++◌, length, refl, sym, ap, ◌∙◌, subst, arith, length-append, le_refl}
use Rattle.std.specs.Prelude.{All}
use Rattle.std.proofs.lemmas.List.{append-nil}
use Rattle.std.proofs.lemmas.List.Elements.{All-append}
use Rattle.atomic_table.specs.Seated.{TableId}
use Rattle.spin_word.specs.declared.row.Row.{Row}
use Rattle.spin_log.specs.declared.view.Hand.{Hand}
use Rattle.spin_word.specs.declared.command.TheConstants.{MAX_PLACE}
use Rattle.spin_log.specs.Rows.{IsCommandBelow, rows_of, IsRowOf, row_words, turn, name_of}
use Rattle.spin_log.specs.Inner.Places.{place_of, IsNameIn}
use Rattle.spin_word.specs.Rows.{lane_of}
use Rattle.spin_log.specs.Rule.{holding}
use Rattle.spin_log.specs.Steps.{Mine, Each, pinned, wrote, writes_on, read_on, each_hand, IsNext, ReadsOn, IsWordOfFront}
use Rattle.spin_log.specs.Pens.{PenValue, pen_value, only_hand, read}
use Rattle.spin_log.specs.Inner.Seats.{with_draft, IsPenSeat}
use Rattle.spin_log.specs.Answers.{Reads}
use Rattle.spin_log.proofs.RowLists.{rising_on, all_one, all_head, rows_of_one, rows_of_other, rows_of-append, rows_of_length}

-- the row of this name, wherever it stands in the front, is this
abbrev pub IsRowOfName : ℕ → Row → Hand → Type 0
IsRowOfName name loaded hand = (front : List Row) (row : Row) (rest : List Row) → hand.front ≡ front ++ row ∷ rest → name ≡ name_of (lane_of row) (turn front row) → loaded ≡ row

-- the seat of a pen, but for its draft
module _ (id : TableId) (start me me' : Mine) (lane n rows : ℕ) (draft : List ℕ) (p : IsPenSeat id start lane n rows) (is : me ≡ (holding (with_draft draft (only_hand start.0.hands) ∷ []), [])) where
  abbrev hand : Hand
  hand = only_hand start.0.hands

  -- it has read a row
  module _ (found : ℕ) (reads : ReadsOn me found me') where
    pub reads_here : ReadsOn (holding (with_draft draft hand ∷ []), []) found me'
    reads_here = subst (λ (m : Mine). ReadsOn m found me') is reads

    abbrev row : Row
    row = reads_here.0

    pub next : IsNext found row hand
    next = all_head (IsNext found row) (with_draft draft hand) [] reads_here.2

    pub view_reads : me' ≡ (holding (read_on row hand ∷ []), [])
    view_reads = reads_here.1

    pub seat_reads : IsPenSeat id me' lane (n + 1) rows
    seat_reads =
        let len = p.front in
        let other = next.0 in
        let room = next.2 in
        let more = length-append hand.front (row ∷ []) in
        subst (λ (m : Mine). IsPenSeat id m lane (n + 1) rows) (sym view_reads) record {
          alone = refl;
          table = p.table;
          lane_is = p.lane_is;
          front = omega arith;
          rows = p.rows;
          pen = record {
            few = p.pen.few;
            below = p.pen.below;
            room = omega arith;
            commands = All-append (IsCommandBelow hand.lanes) hand.front (row ∷ []) p.pen.commands (all_one (IsCommandBelow hand.lanes) row (other.0, other.2));
            own = p.pen.own
                ∙ sym
                (rows_of-append hand.lane hand.front (row ∷ []) ∙ (ap (λ l. rows_of hand.lane hand.front ++ l) (rows_of_other hand.lane row other.1) ∙ append-nil (rows_of hand.lane hand.front)));
            rising = p.pen.rising;
            reached = λ i d h. let le = p.pen.reached i d h in omega arith;
          };
        }

    -- the row that was found stands in the table
    pub found_inside : IsNameIn id.words found
    found_inside =
        let other = next.0 in
        let few = p.pen.few in
        let size = p.table in
        let turns = rows_of_length (lane_of row) hand.front in
        let names = next.1 in
        let room = next.2 in
        (omega arith, omega arith, omega arith)

    -- the row that was loaded is the row that it has read
    pub says : (old : PenValue) (table : TableId) (after : Mine) (loaded : Row) → table ≡ id → after ≡ me' → pen_value id hand ≡ old
        → All (IsRowOfName found loaded) me'.0.hands → Reads old loaded (pen_value table (only_hand after.0.hands))
    says old table after loaded same kept view all =
        let is : loaded ≡ row =
        all_head (IsRowOfName found loaded) (read_on row hand) [] (subst (λ (m : Mine). All (IsRowOfName found loaded) m.0.hands) view_reads all) hand.front row [] refl next.1 in
        let value : pen_value table (only_hand after.0.hands) ≡ read (pen_value id hand) row =
        (λ i. pen_value (same i) (only_hand (kept i).0.hands)) ∙ ap (λ (m : Mine). pen_value id (only_hand m.0.hands)) view_reads in
        subst (λ (v : PenValue). Reads v loaded (pen_value table (only_hand after.0.hands))) view
        (subst (λ (r : Row). Reads (pen_value id hand) r (pen_value table (only_hand after.0.hands))) (sym is) (value, next.0, next.2))

    pub stays_read : (table : TableId) (after : Mine) → table ≡ id → after ≡ me' → IsPenSeat table after lane (n + 1) rows
    stays_read table after same kept = subst (λ (t : TableId). IsPenSeat t after lane (n + 1) rows) (sym same) (subst (λ (m : Mine). IsPenSeat id m lane (n + 1) rows) (sym kept) seat_reads)

-- it has published its draft
pub seat_writes : (id table : TableId) (start me me' : Mine) (lane n rows : ℕ) (row : Row) → IsPenSeat id start lane n rows
    → me ≡ (holding (with_draft (row_words row) (only_hand start.0.hands) ∷ []), []) → Each wrote me me'
    → n < MAX_PLACE → IsRowOf (only_hand start.0.hands).lane row → table ≡ id → IsPenSeat table me' lane (n + 1) (rows + 1)
seat_writes id table start me me' lane n rows row p is wrote_it room command same =
    let hand : Hand = only_hand start.0.hands in
    let e : me' ≡ (holding (wrote wrote_it.0 (with_draft (row_words row) hand) ∷ []), []) = subst (λ (m : Mine). me' ≡ (each_hand (wrote wrote_it.0) m.0, m.1)) is wrote_it.1 in
    let len = p.front in
    let count = p.rows in
    let below = p.pen.below in
    let carries = command.1 in
    let more = length-append hand.front (row ∷ []) in
    subst (λ (t : TableId). IsPenSeat t me' lane (n + 1) (rows + 1)) (sym same) (subst (λ (m : Mine). IsPenSeat id m lane (n + 1) (rows + 1)) (sym e) record {
      alone = refl;
      table = p.table;
      lane_is = p.lane_is;
      front = omega arith;
      rows = omega (arith, length-append hand.own (row ∷ []));
      pen = record {
        few = p.pen.few;
        below = below;
        room = omega arith;
        commands = All-append (IsCommandBelow hand.lanes) hand.front (row ∷ []) p.pen.commands (all_one (IsCommandBelow hand.lanes) row (command.0, omega arith));
        own = ap (λ l. l ++ row ∷ []) p.pen.own ∙ sym (rows_of-append hand.lane hand.front (row ∷ []) ∙ ap (λ l. rows_of hand.lane hand.front ++ l) (rows_of_one hand.lane row carries));
        rising = p.pen.rising;
        reached = λ i d h. let le = p.pen.reached i d h in omega arith;
      };
    })

-- it has found no next row
pub seat_pins : (id table : TableId) (me me' : Mine) (lane n rows : ℕ) → IsPenSeat id me lane n rows → Each pinned me me' → table ≡ id → IsPenSeat table me' lane n rows
seat_pins id table me me' lane n rows p is same =
    let hand : Hand = only_hand me.0.hands in
    let e : me' ≡ (holding (pinned is.0 (with_draft [] hand) ∷ []), []) = is.1 ∙ ap (λ (m : Mine). (each_hand (pinned is.0) m.0, m.1)) p.alone in
    subst (λ (t : TableId). IsPenSeat t me' lane n rows) (sym same) (subst (λ (m : Mine). IsPenSeat id m lane n rows) (sym e) record {
      alone = refl;
      table = p.table;
      lane_is = p.lane_is;
      front = p.front;
      rows = p.rows;
      pen = record {
        few = p.pen.few;
        below = p.pen.below;
        room = p.pen.room;
        commands = p.pen.commands;
        own = p.pen.own;
        rising = rising_on hand.pins (length hand.front) p.pen.rising p.pen.reached;
        reached = All-append (λ (pin : ℕ). pin ≤ length hand.front) hand.pins (length hand.front ∷ []) p.pen.reached
            (all_one (λ (pin : ℕ). pin ≤ length hand.front) (length hand.front) (le_refl (length hand.front)));
      };
    })

-- it has written a word more of its draft
pub drafts_on : (pen : Hand) (draft : List ℕ) (x : ℕ) (me me' : Mine) → me ≡ (holding (with_draft draft pen ∷ []), [])
    → me' ≡ (each_hand (writes_on x) me.0, me.1) → me' ≡ (holding (with_draft (draft ++ x ∷ []) pen ∷ []), [])
drafts_on pen draft x me me' is wrote_it = wrote_it ∙ ap (λ (m : Mine). (each_hand (writes_on x) m.0, m.1)) is

-- a row is loaded, and the seat stays as it is
pub rereads_on : (me m m' : Mine) (at found : ℕ) → m ≡ me → (m' ≡ m) × All (IsWordOfFront at found) m.0.hands → (m' ≡ me) × All (IsWordOfFront at found) me.0.hands
rereads_on me m m' at found is told = (told.0 ∙ is, subst (λ (x : Mine). All (IsWordOfFront at found) x.0.hands) is told.1)

pub row_loaded : (hands : List Hand) (first name a b c d : ℕ) → 0 < name → first ≡ place_of name → All (IsWordOfFront first a) hands
    → All (IsWordOfFront (first + 1) b) hands → All (IsWordOfFront (first + 2) c) hands → All (IsWordOfFront (first + 3) d) hands
    → All (IsRowOfName name record { a = a; b = b; c = c; d = d }) hands
row_loaded hands first name a b c d some_name at one two three four k default inside front row rest is names =
    let first_is : a ≡ row.a = one k default inside front row rest 0 is (omega arith) (omega arith) in
    let second_is : b ≡ row.b = two k default inside front row rest 1 is (omega arith) (omega arith) in
    let third_is : c ≡ row.c = three k default inside front row rest 2 is (omega arith) (omega arith) in
    let fourth_is : d ≡ row.d = four k default inside front row rest 3 is (omega arith) (omega arith) in
    λ i. record { a = first_is i; b = second_is i; c = third_is i; d = fourth_is i }

-- a pen has room for a row of its own where its front has room
pub own_room : (id : TableId) (me : Mine) (lane n rows : ℕ) → IsPenSeat id me lane n rows → n < MAX_PLACE → length (only_hand me.0.hands).own < MAX_PLACE
own_room id me lane n rows p room =
    let hand : Hand = only_hand me.0.hands in
    let few = rows_of_length hand.lane hand.front in
    let front = p.front in
    omega (arith, ap length p.pen.own)

-- a row of the pen's lane, in the pen's hand
pub command_of : (id : TableId) (mine : Hand) (pen : PenValue) (row : Row) → pen_value id mine ≡ pen → IsRowOf pen.lane row → IsRowOf mine.lane row
command_of id mine pen row view command = subst (λ (v : PenValue). IsRowOf v.lane row) (sym view) command
