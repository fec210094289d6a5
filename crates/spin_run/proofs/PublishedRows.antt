-- The rows that a segment adds to the log are those that its accepted entries published.
use Rattle.std.proofs.Common.{◌≡◌, ◌==◌, ℕ, ◌+◌, ◌<◌, Bool, true, false, cond, ltb, List, [], ◌∷◌, map, length, refl, sym, ap, ◌∙◌, subst, arith}
use Rattle.std.specs.Prelude.{All, filter, not, Option, Some, None, IfSome, is_some}
use Rattle.std.specs.Option.{option_map}
use Rattle.std.specs.List.{cons_option, enumerate_from}
use Rattle.std.specs.List.Sorted.{ties}
use Rattle.std.specs.Cmp.{IsTotalOrder, IsStrictWeakOrder}
use Rattle.std.specs.Ordering.{nat_cmp, bool_cmp, ordering_then, is_lt}
use Rattle.std.specs.declared.cmp.Ordering.{Ordering}
use Rattle.std.specs.declared.cmp.Ordering.TheVariants.{Less, Equal, Greater}
use Rattle.std.proofs.lemmas.Cmp.{nat_cmp_total, on_total, then_total}
use Rattle.std.proofs.lemmas.Bool.{eqb-true, ltb-true, ltb-false, and_parts}
use Rattle.std.proofs.lemmas.List.Sorted.{ranks_by}
use Rattle.std.proofs.lemmas.List.Elements.{All-head, All-tail, All-nil, All-cons, All-weaker}
use Rattle.spin_word.specs.declared.row.Row.{Row}
use Rattle.spin_word.specs.Rows.{lane_of}
use Rattle.spin_log.specs.Pens.{PenValue}
use Rattle.spin_table.specs.Setups.{SetupData}
use Rattle.spin_table.specs.States.{State}
use Rattle.spin_seat.specs.Places.{place_past}
use Rattle.spin_proto.specs.declared.deed.Job.{Job}
use Rattle.spin_seat.specs.declared.answer.SeatFault.{SeatFault}
use Rattle.spin_seat.specs.Answers as seat
use Rattle.spin_seat.specs.Runs.{published}
use Rattle.spin_seat.proofs.LaneCounts.{by_lane}
use Rattle.spin_seat.proofs.SeatInvariants.{all_unmap}
use Rattle.spin_report.specs.declared.entry.What.{What}
use Rattle.spin_report.specs.declared.entry.Entry.{Entry}
use Rattle.spin_report.specs.Asked.{Numbered}
use Rattle.spin_report.specs.Segments.{is_accepted, of_lane, IsInOrder}
use Rattle.spin_run.specs.Lanes.{said_of, seat_answer, rows_in}
use Rattle.spin_run.proofs.SortedLists.{Rising, same_by_lanes, rising_from_sorted}
use Rattle.spin_run.proofs.EntryOrder.{earlier, earlier_weak, nat_greater, nat_same, accepted_said}
use Rattle.spin_run.proofs.JobOrder.{nat_less, equal, true_not, then_equal, filter_beyond}
use Rattle.spin_run.proofs.LogCounts.{AllRan, enumerated_lanes, own_of}

-- ---- rows by their places, and at one place by their lanes

abbrev placed_cmp : ℕ × ℕ → ℕ × ℕ → Ordering
placed_cmp a b = ordering_then (nat_cmp a.0 b.0) (nat_cmp a.1 b.1)

placed_total : IsTotalOrder placed_cmp
placed_total = then_total (on_total (λ (t : ℕ × ℕ). t.0) nat_cmp_total) (on_total (λ (t : ℕ × ℕ). t.1) nat_cmp_total)

abbrev sooner : ℕ × Row → ℕ × Row → Bool
sooner x y = is_lt (placed_cmp (x.0, lane_of x.1) (y.0, lane_of y.1))

sooner_weak : IsStrictWeakOrder sooner
sooner_weak = ranks_by placed_total (λ (x : ℕ × Row). (x.0, lane_of x.1))

-- rows that tie are of one lane
row_ties : (x y : ℕ × Row) → ties sooner x y ≡ true → lane_of y.1 ≡ lane_of x.1
row_ties x y tied =
    let both = and_parts (not (sooner x y)) (not (sooner y x)) tied in
    let place : x.0 ≡ y.0 = equal x.0 y.0
    (λ less. true_not (sooner x y) (ap (λ o. is_lt (ordering_then o (nat_cmp (lane_of x.1) (lane_of y.1)))) (nat_less x.0 y.0 less)) both.0)
    (λ less. true_not (sooner y x) (ap (λ o. is_lt (ordering_then o (nat_cmp (lane_of y.1) (lane_of x.1)))) (nat_less y.0 x.0 less)) both.1) in
    sym (equal (lane_of x.1) (lane_of y.1)
    (λ less. true_not (sooner x y) (λ i. is_lt (ordering_then (nat_same x.0 y.0 place i) (nat_less (lane_of x.1) (lane_of y.1) less i))) both.0)
    (λ less. true_not (sooner y x) (λ i. is_lt (ordering_then (nat_same y.0 x.0 (sym place) i) (nat_less (lane_of y.1) (lane_of x.1) less i))) both.1))

-- the rows of a log stand by their places
later_row : (p : ℕ) (row : Row) (from : ℕ) (rows : List Row) → p < from → All (λ (y : ℕ × Row). sooner y (p, row) ≡ false) (enumerate_from from rows)
later_row p row from [] lt = All-nil (λ (y : ℕ × Row). sooner y (p, row) ≡ false)
later_row p row from (r ∷ rows) lt =
    All-cons (λ (y : ℕ × Row). sooner y (p, row) ≡ false) (from, r) (enumerate_from (from + 1) rows)
    (ap (λ o. is_lt (ordering_then o (nat_cmp (lane_of r) (lane_of row)))) (nat_greater from p lt))
    (later_row p row (from + 1) rows (omega arith))

rows_rise : (from : ℕ) (rows : List Row) → Rising sooner (enumerate_from from rows)
rows_rise from [] = tt
rows_rise from (row ∷ rows) = (later_row from row (from + 1) rows (omega arith), rows_rise (from + 1) rows)

rows_alone : (from : ℕ) (rows : List Row) → map (λ (x : ℕ × Row). x.1) (enumerate_from from rows) ≡ rows
rows_alone from [] = refl
rows_alone from (row ∷ rows) = ap (λ l. row ∷ l) (rows_alone (from + 1) rows)

filtered : (k : ℕ) (xs : List (ℕ × Row)) → All (λ (x : ℕ × Row). lane_of x.1 ≡ k) (filter (λ (x : ℕ × Row). lane_of x.1 == k) xs)
filtered k [] = All-nil (λ (x : ℕ × Row). lane_of x.1 ≡ k)
filtered k (x ∷ xs) = go (lane_of x.1 == k) refl (filtered k xs)
  where
    go : (b : Bool) → (lane_of x.1 == k) ≡ b → All (λ (x : ℕ × Row). lane_of x.1 ≡ k) (filter (λ (x : ℕ × Row). lane_of x.1 == k) xs)
        → All (λ (x : ℕ × Row). lane_of x.1 ≡ k) (cond b (x ∷ filter (λ (x : ℕ × Row). lane_of x.1 == k) xs) (filter (λ (x : ℕ × Row). lane_of x.1 == k) xs))
    go true e rest = All-cons (λ (x : ℕ × Row). lane_of x.1 ≡ k) x (filter (λ (x : ℕ × Row). lane_of x.1 == k) xs) (eqb-true (lane_of x.1) k e) rest
    go false e rest = rest

-- ---- the rows of entries

-- the row that an entry published is of the entry's lane
abbrev IsOwn : Entry → Type 0
IsOwn e = IfSome (seat.row_published (said_of e.what)) (λ row. lane_of row ≡ e.lane)

-- a row that may be there, with its place, before others
abbrev put : ℕ → Option Row → List (ℕ × Row) → List (ℕ × Row)
put place o rest = cons_option (option_map (λ (row : Row). (place, row)) o) rest

put_all : (P : ℕ × Row → Type 0) (place : ℕ) (o : Option Row) (rest : List (ℕ × Row)) → ((row : Row) → o ≡ Some row → P (place, row)) → All P rest → All P (put place o rest)
put_all P place None rest here all = all
put_all P place (Some row) rest here all = All-cons P (place, row) rest (here row refl) all

put_rises : (place : ℕ) (o : Option Row) (rest : List (ℕ × Row))
    → ((row : Row) → o ≡ Some row → All (λ (y : ℕ × Row). sooner y (place, row) ≡ false) rest) → Rising sooner rest → Rising sooner (put place o rest)
put_rises place None rest over up = up
put_rises place (Some row) rest over up = (over row refl, up)

put_own : (place lane k : ℕ) (o : Option Row) (rest : List (ℕ × Row)) → lane ≡ k → All (λ (x : ℕ × Row). lane_of x.1 ≡ k) (put place o rest)
    → IfSome o (λ row. lane_of row ≡ lane) × All (λ (x : ℕ × Row). lane_of x.1 ≡ k) rest
put_own place lane k None rest is rows = (tt, rows)
put_own place lane k (Some row) rest is rows =
    (All-head (λ (x : ℕ × Row). lane_of x.1 ≡ k) (place, row) rest rows ∙ sym is, All-tail (λ (x : ℕ × Row). lane_of x.1 ≡ k) (place, row) rest rows)

put_filtered : (place lane k : ℕ) (o : Option Row) (rest kept : List (ℕ × Row)) → IfSome o (λ row. lane_of row ≡ lane) → filter (λ (x : ℕ × Row). lane_of x.1 == k) rest ≡ kept
    → filter (λ (x : ℕ × Row). lane_of x.1 == k) (put place o rest) ≡ cond (lane == k) (put place o kept) kept
put_filtered place lane k None rest kept own same = go (lane == k)
  where
    go : (b : Bool) → filter (λ (x : ℕ × Row). lane_of x.1 == k) rest ≡ cond b kept kept
    go true = same
    go false = same
put_filtered place lane k (Some row) rest kept own same = λ i. cond (own i == k) ((place, row) ∷ same i) (same i)

-- the entries of one lane whose rows are of that lane
rows_own : (k : ℕ) (es : List Entry) → All (λ (e : Entry). e.lane ≡ k) es → All (λ (x : ℕ × Row). lane_of x.1 ≡ k) (published (map seat_answer es)) → All IsOwn es
rows_own k [] lanes rows = All-nil IsOwn
rows_own k (e ∷ es) lanes rows =
    let both = put_own e.place e.lane k (seat.row_published (said_of e.what)) (published (map seat_answer es)) (All-head (λ (x : Entry). x.lane ≡ k) e es lanes) rows in
    All-cons IsOwn e es both.0 (rows_own k es (All-tail (λ (x : Entry). x.lane ≡ k) e es lanes) both.1)

-- the rows of one lane are those that its entries published
rows_of_lane : (k : ℕ) (es : List Entry) → All IsOwn es → filter (λ (x : ℕ × Row). lane_of x.1 == k) (published (map seat_answer es)) ≡ published (map seat_answer (of_lane k es))
rows_of_lane k [] own = refl
rows_of_lane k (e ∷ es) own =
    put_filtered e.place e.lane k (seat.row_published (said_of e.what)) (published (map seat_answer es))
    (published (map seat_answer (of_lane k es))) (All-head IsOwn e es own) (rows_of_lane k es (All-tail IsOwn e es own))
    ∙ go (e.lane == k)
  where
    go : (b : Bool) → cond b (put e.place (seat.row_published (said_of e.what)) (published (map seat_answer (of_lane k es))))
        (published (map seat_answer (of_lane k es))) ≡ published (map seat_answer (cond b (e ∷ of_lane k es) (of_lane k es)))
    go true = refl
    go false = refl

is_command : (w : What) (row : Row) → seat.row_published (said_of w) ≡ Some row → is_accepted w ≡ true
is_command w row is = sym (accepted_said w) ∙ ap (λ (o : Option Row). is_some o) is

front_false : (o x : Ordering) → is_lt (ordering_then o x) ≡ false → is_lt o ≡ false
front_false Less x e = e
front_false Equal x e = refl
front_false Greater x e = refl

-- of two accepted commands
row_later : (e f : Entry) (row r : Row) → seat.row_published (said_of e.what) ≡ Some row → seat.row_published (said_of f.what) ≡ Some r
    → lane_of row ≡ e.lane → lane_of r ≡ f.lane → earlier f e ≡ false → sooner (f.place, r) (e.place, row) ≡ false
row_later e f row r is is' own own' up =
    (λ i. is_lt (ordering_then o (nat_cmp (own' i) (own i)))) ∙ front_false (ordering_then o c) l (front_false (ordering_then (ordering_then o c) l) p (sym alike ∙ up))
  where
    o : Ordering
    o = nat_cmp f.place e.place

    c : Ordering
    c = nat_cmp f.lane e.lane

    l : Ordering
    l = nat_cmp f.line e.line

    p : Ordering
    p = nat_cmp f.part e.part

    alike : earlier f e ≡ is_lt (ordering_then (ordering_then (ordering_then o c) l) p)
    alike =
        ap (λ x. is_lt (ordering_then (ordering_then (ordering_then x (nat_cmp f.lane e.lane)) (nat_cmp f.line e.line)) (nat_cmp f.part e.part)))
        ((λ i. ordering_then (nat_cmp f.place e.place) (bool_cmp (not (is_command f.what r is' i)) (not (is_command e.what row is i)))) ∙ then_equal (nat_cmp f.place e.place))

later_rows : (e : Entry) (row : Row) → seat.row_published (said_of e.what) ≡ Some row → lane_of row ≡ e.lane → (es : List Entry)
    → All (λ (f : Entry). earlier f e ≡ false) es → All IsOwn es → All (λ (y : ℕ × Row). sooner y (e.place, row) ≡ false) (published (map seat_answer es))
later_rows e row is own [] up owns = All-nil (λ (y : ℕ × Row). sooner y (e.place, row) ≡ false)
later_rows e row is own (f ∷ fs) up owns =
    put_all (λ (y : ℕ × Row). sooner y (e.place, row) ≡ false) f.place (seat.row_published (said_of f.what)) (published (map seat_answer fs))
    (λ r is'. row_later e f row r is is' own (subst (λ (o : Option Row). IfSome o (λ x. lane_of x ≡ f.lane)) is' (All-head IsOwn f fs owns)) (All-head (λ (g : Entry). earlier g e ≡ false) f fs up))
    (later_rows e row is own fs (All-tail (λ (g : Entry). earlier g e ≡ false) f fs up) (All-tail IsOwn f fs owns))

-- the rows of entries in order are in order
rows_in_order : (es : List Entry) → Rising earlier es → All IsOwn es → Rising sooner (published (map seat_answer es))
rows_in_order [] up owns = tt
rows_in_order (e ∷ es) up owns =
    put_rises e.place (seat.row_published (said_of e.what)) (published (map seat_answer es))
    (λ row is. later_rows e row is (subst (λ (o : Option Row). IfSome o (λ x. lane_of x ≡ e.lane)) is (All-head IsOwn e es owns)) es up.0 (All-tail IsOwn e es owns))
    (rows_in_order es up.1 (All-tail IsOwn e es owns))

rows_told : (es : List Entry) → map (λ (x : ℕ × Row). x.1) (published (map seat_answer es)) ≡ rows_in es
rows_told [] = refl
rows_told (e ∷ es) = go (seat.row_published (said_of e.what)) (rows_told es)
  where
    go : (o : Option Row) → map (λ (x : ℕ × Row). x.1) (published (map seat_answer es)) ≡ rows_in es
        → map (λ (x : ℕ × Row). x.1) (put e.place o (published (map seat_answer es))) ≡ cons_option o (rows_in es)
    go None same = same
    go (Some row) same = ap (λ l. row ∷ l) same

-- ---- all lanes

module _ (d : SetupData) (first : State) (lanes : ℕ) (asked : List Numbered) (before after : ℕ → PenValue) (trail : ℕ → List Entry) (jobs : ℕ → List Job) (stop : ℕ → Option SeatFault) (start more : List Row)
    (all : AllRan d first lanes asked before after trail jobs stop start more) (woven : List Entry)
    (under : All (λ (e : Entry). e.lane < lanes) woven) (each : (k : ℕ) → k < lanes → of_lane k woven ≡ trail k) where
  abbrev next : ℕ
  next = place_past first.place (length start) + 1

  own_rows : (k : ℕ) → k < lanes → published (map seat_answer (trail k)) ≡ filter (λ (x : ℕ × Row). lane_of x.1 == k) (enumerate_from next more)
  own_rows k lt = own_of d first lanes asked before after trail jobs stop start more all k lt

  lane_of_trail : (k : ℕ) → k < lanes → All (λ (e : Entry). e.lane ≡ k) (trail k)
  lane_of_trail k lt =
      All-weaker (λ (e : Entry). e.lane ≡ (before k).lane) (λ (e : Entry). e.lane ≡ k) (λ e same. same ∙ (all.at_start k lt).1) (trail k)
      (all_unmap (λ (a : seat.Answer). a.lane ≡ (before k).lane) seat_answer (trail k) (all.ran k lt).ran.lane)

  owns : All IsOwn woven
  owns = by_lane IsOwn (λ (e : Entry). e.lane) lanes woven under (λ k lt.
      subst (All IsOwn) (sym (each k lt))
      (rows_own k (trail k) (lane_of_trail k lt) (subst (All (λ (x : ℕ × Row). lane_of x.1 ≡ k)) (sym (own_rows k lt)) (filtered k (enumerate_from next more)))))

  -- each row that was added, with its place, is that of an accepted entry
  pub all_published : IsInOrder woven → published (map seat_answer woven) ≡ enumerate_from next more
  all_published up =
      same_by_lanes sooner sooner_weak (λ (x : ℕ × Row). lane_of x.1) row_ties (published (map seat_answer woven)) (enumerate_from next more)
      (rows_in_order woven (rising_from_sorted earlier earlier_weak woven up) owns) (rows_rise next more) (λ k. go k (ltb k lanes) refl)
    where
      go : (k : ℕ) (b : Bool) → ltb k lanes ≡ b
          → filter (λ (x : ℕ × Row). lane_of x.1 == k) (published (map seat_answer woven)) ≡ filter (λ (x : ℕ × Row). lane_of x.1 == k) (enumerate_from next more)
      go k true e =
          let lt = ltb-true k lanes e in
          rows_of_lane k woven owns ∙ ap (λ (es : List Entry). published (map seat_answer es)) (each k lt) ∙ own_rows k lt
      go k false e =
          let far : k < lanes → ⊥ = λ lt. let le = ltb-false k lanes e in absurd (omega arith) in
          rows_of_lane k woven owns ∙ ap (λ (es : List Entry). published (map seat_answer es)) (filter_beyond (λ (x : Entry). x.lane) lanes k woven far under)
          ∙ sym (filter_beyond (λ (x : ℕ × Row). lane_of x.1) lanes k (enumerate_from next more) far (enumerated_lanes lanes next more all.rows))

  pub rows_are : IsInOrder woven → more ≡ rows_in woven
  rows_are up = sym (rows_alone next more) ∙ ap (λ (l : List (ℕ × Row)). map (λ (x : ℕ × Row). x.1) l) (sym (all_published up)) ∙ rows_told woven
