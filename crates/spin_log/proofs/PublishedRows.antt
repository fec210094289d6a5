-- A pen adds the row of its draft to the log, or reads the row that another added.
use Rattle.std.proofs.Common.{◌≡◌, ◌≢◌, ℕ, ◌+◌, ◌<◌, ◌≤◌, eqb, [], ◌∷◌, ◌++◌, length, get_or, set, refl, sym, ap}
use Rattle.std.proofs.Common.{◌∙◌, subst, arith, length-append, get_or-set_other, eq-eqb, ne_eqb}
use mathlib.Core.Logic.{dite}
use mathlib.Core.Option.{none, some}
use native.Mathlib.Decide.{ℕ_discrete}
use lib.ListN.{get_elem?}
use prog.Atomic.{either}
use Rattle.std.proofs.lemmas.List.{append-nil}
use Rattle.atomic_table.specs.Table.{step, keeps, stepped, Allows}
use Rattle.spin_word.specs.declared.row.Row.{Row}
use Rattle.spin_log.specs.declared.view.Hand.{Hand}
use Rattle.spin_log.specs.declared.view.View.{View}
use Rattle.spin_word.specs.declared.command.TheConstants.{MAX_PLACE}
use Rattle.spin_log.specs.Rows.{rows_of, IsRowOf, row_words, row_from, turn, name_of, row_at, StandsAt}
use Rattle.spin_word.specs.Rows.{lane_of}
use Rattle.spin_log.specs.Rule.{Fits, Holds, holding}
use Rattle.spin_log.specs.History.{publish}
use Rattle.spin_log.specs.Steps.{Mine, read_on, wrote, IsNext, drafted, published}
use Rattle.spin_log.proofs.RowLists.{rows_in-append, pins-publish, places-other, places-own, all_one}
use Rattle.spin_log.proofs.RowLists.{prefix_append, rows_of_one}
use Rattle.spin_log.proofs.RowLists.{rows_of_other, rows_of-append, rows_of_length}
use Rattle.spin_log.proofs.ViewChanges.{LogState, moved, knows, alone, other_lane}
use Rattle.spin_log.proofs.LogWords.{before_rows, stands_more, next_none}
use Rattle.spin_log.proofs.LogReads.{reads_on}

module _ (lanes : ℕ) where
  -- a pen of another seat, when a row of this lane is added
  others_know : (s : LogState) (r : Holds lanes s) (id i n : ℕ) (hand : Hand) (row : Row) → get_elem? s.views id ≡ some (holding (hand ∷ [])) → lane_of row ≡ hand.lane → i ≤ MAX_PLACE + 1
      → (j : ℕ) (u : View) → j ≢ id → get_elem? s.views j ≡ some u → Fits lanes (r.log ++ row ∷ []) (r.moments ++ publish row ∷ []) (set s.words i n) u
  others_know s r id i n hand row at carries early j u apart there =
      let f = r.each j u there in (
        λ i' d h.
            let g : Hand = get_or u.hands i' d in
            let k = f.0 i' d h in
            let differs : lane_of row ≢ g.lane = λ e. other_lane lanes s r id hand at j u apart there i' d h (sym e ∙ carries) in
            let none_added : rows_of g.lane (r.log ++ row ∷ []) ≡ rows_of g.lane r.log =
            rows_of-append g.lane r.log (row ∷ []) ∙ ap (λ l. rows_of g.lane r.log ++ l) (rows_of_other g.lane row differs) ∙ append-nil (rows_of g.lane r.log) in
            record {
              lanes_is = k.lanes_is;
              lane = k.lane;
              front = prefix_append g.front r.log (row ∷ []) k.front;
              own = k.own ∙ sym none_added;
              reached = k.reached;
              pins = k.pins;
              marked = (k.marked.0 ∙ sym (pins-publish g.lane 0 row r.moments), k.marked.1 ∙ sym (places-other g.lane 0 (publish row) r.moments differs));
              drafted = λ x less. get_or-set_other s.words i (row_at g.lane (length g.own) + x) n 0 (before_rows g.lane (length g.own) x i early) ∙ k.drafted x less;
              at_most_a_row = k.at_most_a_row;
              within_its_part = k.within_its_part;
            },
        λ i' d h. prefix_append (get_or u.older i' d) r.log (row ∷ []) (f.1 i' d h),
      )

  writes : (s : LogState) (r : Holds lanes s) (id i n : ℕ) (hand : Hand) → get_elem? s.views id ≡ some (holding (hand ∷ []))
      → i ≡ length hand.front + 1 → length hand.front < MAX_PLACE → n ≡ name_of hand.lane (length hand.own)
      → hand.draft ≡ row_words (row_from hand.draft) → IsRowOf hand.lane (row_from hand.draft) → get_or s.words i 0 ≡ 0
      → Holds lanes record { words = set s.words i n; homes = s.homes; views = set s.views id (holding (wrote (0 + length r.moments) hand ∷ [])) }
  writes s r id i n hand at is room name whole_row command found =
      let row : Row = row_from hand.draft in
      let carries : lane_of row ≡ hand.lane = command.1 in
      let k = knows lanes s r id hand at in
      let lane = k.lane in
      let whole = next_none lanes hand.front r.log s.words i r.stands k.front is found in
      let len : length hand.front ≡ length r.log = ap length whole in
      let turns : length hand.own ≡ turn r.log row = ap length k.own ∙ ap (λ (l : ℕ). length (rows_of l r.log)) (sym carries) in
      let place : row_at hand.lane (length hand.own) ≡ row_at (lane_of row) (turn r.log row) = omega arith in
      let four : StandsAt s.words (row_at (lane_of row) (turn r.log row)) (row_words row) =
      subst (λ (p : ℕ). StandsAt s.words p (row_words row)) place (subst (StandsAt s.words (row_at hand.lane (length hand.own))) whole_row k.drafted) in
      let more : rows_of hand.lane (r.log ++ row ∷ []) ≡ rows_of hand.lane r.log ++ row ∷ [] =
      rows_of-append hand.lane r.log (row ∷ []) ∙ ap (λ l. rows_of hand.lane r.log ++ l) (rows_of_one hand.lane row carries) in
      let own : hand.own ++ row ∷ [] ≡ rows_of hand.lane (r.log ++ row ∷ []) = ap (λ l. l ++ row ∷ []) k.own ∙ sym more in
      let longer_own = length-append hand.own (row ∷ []) in
      let few = rows_of_length hand.lane r.log in
      let own_length : length hand.own ≡ length (rows_of hand.lane r.log) = ap length k.own in
      let moments = r.moments ++ publish row ∷ [] in
      moved lanes s r id (holding (hand ∷ [])) (holding (wrote (0 + length r.moments) hand ∷ [])) (r.log ++ row ∷ []) (set s.words i n) moments at
      (stands_more lanes r.log s.words i n row r.stands (omega arith) (omega arith) (command.0, omega arith) (omega arith) four)
      (rows_in-append r.moments (publish row ∷ []) ∙ ap (λ l. l ++ row ∷ []) r.published) (others_know s r id i n hand row at carries (omega arith))
      (alone lanes (r.log ++ row ∷ []) moments (set s.words i n) (wrote (0 + length r.moments) hand) record {
        lanes_is = k.lanes_is;
        lane = lane;
        front = ([], ap (λ l. l ++ row ∷ []) (sym whole) ∙ sym (append-nil (hand.front ++ row ∷ [])));
        own = own;
        reached = own ∙ ap (λ l. rows_of hand.lane (l ++ row ∷ [])) (sym whole);
        pins = λ p d h. let le = k.pins p d h in omega (arith, length-append hand.front (row ∷ []));
        marked = (k.marked.0 ∙ sym (pins-publish hand.lane 0 row r.moments), (λ i. k.marked.1 i ++ (0 + length r.moments) ∷ []) ∙ sym (places-own hand.lane 0 (publish row) r.moments carries));
        drafted = λ x h. absurd (omega arith);
        at_most_a_row = omega arith;
        within_its_part = omega arith;
      }) (λ lane. refl)

  publishes_at : (slots id : ℕ) (hand : Hand) (i name : ℕ) → i ≡ length hand.front + 1 → length hand.front < MAX_PLACE
      → name ≡ name_of hand.lane (length hand.own) → hand.draft ≡ row_words (row_from hand.draft) → IsRowOf hand.lane (row_from hand.draft)
      → Allows (Holds lanes) slots id (holding (hand ∷ []), []) i (λ n. either (eqb n 0) name n) (published (step slots i 0 name none) (holding (hand ∷ []), []))
  publishes_at slots id hand i name is room names whole command s r count at small =
      let n : ℕ = get_or s.words i 0 in
      dite (ℕ_discrete n 0)
      (λ (free : n ≡ 0). (
        holding (wrote (0 + length r.moments) hand ∷ []),
        keeps,
        tt,
        subst (λ b. Holds lanes (stepped s i (either b name n) id [] (holding (wrote (0 + length r.moments) hand ∷ [])) keeps))
            (sym (eq-eqb n 0 free)) (writes s r id i name hand at is room names whole command free),
        ((λ _. (0 + length r.moments, refl)), λ taken. absurd (taken free)),
      ))
      (λ (taken : n ≢ 0). let t = reads_on lanes s r id i n hand at is refl taken in (
        holding (read_on t.0 hand ∷ []),
        keeps,
        tt,
        subst (λ b. Holds lanes (stepped s i (either b name n) id [] (holding (read_on t.0 hand ∷ [])) keeps)) (sym (ne_eqb n 0 taken)) t.1,
        ((λ free. absurd (taken free)), λ _. (t.0, refl, all_one (IsNext n t.0) hand t.2)),
      ))

  pub publishes : (slots id : ℕ) (me : Mine) (hand : Hand) (i name : ℕ) → me ≡ (holding (hand ∷ []), [])
      → i ≡ length hand.front + 1 → length hand.front < MAX_PLACE → name ≡ name_of hand.lane (length hand.own)
      → hand.draft ≡ row_words (row_from hand.draft) → IsRowOf hand.lane (row_from hand.draft)
      → Allows (Holds lanes) slots id me i (λ n. either (eqb n 0) name n) (published (step slots i 0 name none) me)
  publishes slots id me hand i name is at room names whole command =
      subst (λ (m : Mine). Allows (Holds lanes) slots id m i (λ n. either (eqb n 0) name n) (published (step slots i 0 name none) m))
      (sym is) (publishes_at slots id hand i name at room names whole command)
