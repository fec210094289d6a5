-- A pen reads a word of the table: it pins its front, reads the next row, or reads a row again.
use Rattle.std.proofs.Common.{◌≡◌, ◌≢◌, ℕ, ◌+◌, ◌≤◌, List, [], ◌∷◌, ◌++◌, length, get_or, set, refl, sym, ap}
use Rattle.std.proofs.Common.{◌∙◌, subst, arith, le_refl, length-append}
use mathlib.Core.Logic.{dite}
use mathlib.Core.Option.{none, some}
use native.Mathlib.Decide.{ℕ_discrete}
use lib.ListN.{get_elem?}
use Rattle.std.proofs.lemmas.List.{append-nil, append_assoc}
use Rattle.std.proofs.lemmas.List.Elements.{All-append}
use Rattle.atomic_table.specs.Table.{step, keeps, Allows}
use Rattle.spin_word.specs.declared.row.Row.{Row}
use Rattle.spin_log.specs.declared.view.Hand.{Hand}
use Rattle.spin_log.specs.declared.view.View.{View}
use Rattle.spin_log.specs.Rows.{rows_of, IsPrefix}
use Rattle.spin_word.specs.Rows.{lane_of}
use Rattle.spin_log.specs.Rule.{Knows, Holds, holding}
use Rattle.spin_log.specs.History.{LogAction, pin, rows_in}
use Rattle.spin_log.specs.Steps.{Mine, read_on, pinned, IsNext, looked, drafted, published, reread}
use Rattle.spin_log.proofs.RowLists.{rows_in-append, pins-other, pins-own, places-other, places-own, all_one}
use Rattle.spin_log.proofs.RowLists.{prefix_length, rows_of_one}
use Rattle.spin_log.proofs.RowLists.{rows_of-append, rows_of_between}
use Rattle.spin_log.proofs.ViewChanges.{LogState, unmoved, knows, alone, other_lane}
use Rattle.spin_log.proofs.LogWords.{next_none, next_some}

module _ (lanes : ℕ) where
  -- the next row is of another lane
  of_other : (log : List Row) (moments : List LogAction) (words : List ℕ) (hand : Hand) (row : Row) → Knows lanes log moments words hand → IsPrefix (hand.front ++ row ∷ []) log → lane_of row ≢ hand.lane
  of_other log moments words hand row k p e =
      let b = rows_of_between hand.lane hand.front (hand.front ++ row ∷ []) log (row ∷ [], refl) p (sym k.reached ∙ k.own) in
      let a = rows_of-append hand.lane hand.front (row ∷ []) ∙ ap (λ l. rows_of hand.lane hand.front ++ l) (rows_of_one hand.lane row e) in
      let n = length-append (rows_of hand.lane hand.front) (row ∷ []) in
      let c : length (rows_of hand.lane hand.front ++ row ∷ []) ≡ length (rows_of hand.lane hand.front) = ap length (sym a ∙ b) in
      absurd (omega arith)

  knows_pinned : (log : List Row) (moments : List LogAction) (words : List ℕ) (hand : Hand) → rows_in moments ≡ log → hand.front ≡ log
      → Knows lanes log moments words hand → Knows lanes log (moments ++ pin hand.lane ∷ []) words (pinned (0 + length moments) hand)
  knows_pinned log moments words hand published whole k =
      let count : length hand.front ≡ 0 + length (rows_in moments) = let a = ap length whole in let b = ap length published in omega arith in record {
        lanes_is = k.lanes_is;
        lane = k.lane;
        front = k.front;
        own = k.own;
        reached = k.reached;
        pins =
            All-append (λ (pin : ℕ). pin ≤ length hand.front) hand.pins (length hand.front ∷ []) k.pins
            (all_one (λ (pin : ℕ). pin ≤ length hand.front) (length hand.front) (le_refl (length hand.front)));
        marked =
            ((λ i. k.marked.0 i ++ count i ∷ []) ∙ sym (pins-own hand.lane 0 moments), (λ i. k.marked.1 i ++ (0 + length moments) ∷ []) ∙ sym (places-own hand.lane 0 (pin hand.lane) moments refl));
        drafted = k.drafted;
        at_most_a_row = k.at_most_a_row;
        within_its_part = k.within_its_part;
      }

  knows_more : (log : List Row) (moments : List LogAction) (words : List ℕ) (hand : Hand) (row : Row)
      → Knows lanes log moments words hand → IsPrefix (hand.front ++ row ∷ []) log → Knows lanes log moments words (read_on row hand)
  knows_more log moments words hand row k p =
      let part = k.within_its_part in record {
        lanes_is = k.lanes_is;
        lane = k.lane;
        front = p;
        own = k.own;
        reached = k.reached ∙ sym (rows_of_between hand.lane hand.front (hand.front ++ row ∷ []) log (row ∷ [], refl) p (sym k.reached ∙ k.own));
        pins = λ i d h. let le = k.pins i d h in omega (arith, length-append hand.front (row ∷ []));
        marked = k.marked;
        drafted = λ i h. absurd (omega arith);
        at_most_a_row = omega arith;
        within_its_part = omega arith;
      }

  -- the log word found is not 0
  pub reads_on : (s : LogState) (r : Holds lanes s) (id i n : ℕ) (hand : Hand) → get_elem? s.views id ≡ some (holding (hand ∷ [])) → i ≡ length hand.front + 1 → get_or s.words i 0 ≡ n → n ≢ 0
      → (row : Row) × Holds lanes record { words = set s.words i n; homes = s.homes; views = set s.views id (holding (read_on row hand ∷ [])) } × IsNext n row hand
  reads_on s r id i n hand at is found not =
      let k = knows lanes s r id hand at in
      let next = next_some lanes hand.front r.log s.words i n r.stands k.front is found not in
      let row : Row = next.0 in
      let le = prefix_length (hand.front ++ row ∷ []) r.log next.1 in
      let more = length-append hand.front (row ∷ []) in
      let room = r.stands.room in
      let command = next.4.1 in
      let e = k.lanes_is in (
        row,
        unmoved lanes s r id i n (holding (hand ∷ [])) (holding (read_on row hand ∷ [])) r.moments at found r.published (λ j u _ e. r.each j u e)
            (alone lanes r.log r.moments s.words (read_on row hand) (knows_more r.log r.moments s.words hand row k next.1)) (λ lane. refl),
        ((next.4.0, of_other r.log r.moments s.words hand row k next.1, omega arith), next.3, omega arith),
      )

  looks_at : (slots id : ℕ) (hand : Hand) (i : ℕ) → i ≡ length hand.front + 1
      → Allows (Holds lanes) slots id (holding (hand ∷ []), []) i (λ n. n) (looked (step slots i 0 0 none) (holding (hand ∷ []), []))
  looks_at slots id hand i is s r count at small =
      let n : ℕ = get_or s.words i 0 in
      let k = knows lanes s r id hand at in
      dite (ℕ_discrete n 0)
      (λ (nothing : n ≡ 0). (
        holding (pinned (0 + length r.moments) hand ∷ []),
        keeps,
        tt,
        let whole = next_none lanes hand.front r.log s.words i r.stands k.front is nothing in
            let moments = r.moments ++ pin hand.lane ∷ [] in
            unmoved lanes s r id i n (holding (hand ∷ [])) (holding (pinned (0 + length r.moments) hand ∷ [])) moments at refl
            (rows_in-append r.moments (pin hand.lane ∷ []) ∙ append-nil (rows_in r.moments) ∙ r.published)
            (λ j u apart e. let f = r.each j u e in (
              λ i' d h.
                  let k' = f.0 i' d h in
                  let differs : hand.lane ≢ (get_or u.hands i' d).lane = λ same. other_lane lanes s r id hand at j u apart e i' d h (sym same) in
                  let other = pins-other (get_or u.hands i' d).lane 0 hand.lane r.moments differs in
                  let other' = places-other (get_or u.hands i' d).lane 0 (pin hand.lane) r.moments differs in
                  record {
                    lanes_is = k'.lanes_is;
                    lane = k'.lane;
                    front = k'.front;
                    own = k'.own;
                    reached = k'.reached;
                    pins = k'.pins;
                    marked = (k'.marked.0 ∙ sym other, k'.marked.1 ∙ sym other');
                    drafted = k'.drafted;
                    at_most_a_row = k'.at_most_a_row;
                    within_its_part = k'.within_its_part;
                  },
              f.1,
            ))
            (alone lanes r.log moments s.words (pinned (0 + length r.moments) hand) (knows_pinned r.log r.moments s.words hand r.published whole k)) (λ lane. refl),
        ((λ _. (0 + length r.moments, refl)), λ not. absurd (not nothing)),
      ))
      (λ (not : n ≢ 0). let t = reads_on s r id i n hand at is refl not in (
        holding (read_on t.0 hand ∷ []),
        keeps,
        tt,
        t.1,
        ((λ e. absurd (not e)), λ _. (t.0, refl, all_one (IsNext n t.0) hand t.2)),
      ))

  pub looks : (slots id : ℕ) (me : Mine) (hand : Hand) (i : ℕ) → me ≡ (holding (hand ∷ []), []) → i ≡ length hand.front + 1
      → Allows (Holds lanes) slots id me i (λ n. n) (looked (step slots i 0 0 none) me)
  looks slots id me hand i is at = subst (λ (m : Mine). Allows (Holds lanes) slots id m i (λ n. n) (looked (step slots i 0 0 none) m)) (sym is) (looks_at slots id hand i at)

  -- a word of a row that the pen knows
  pub rereads : (slots id i : ℕ) (me : Mine) → Allows (Holds lanes) slots id me i (λ n. n) (reread (step slots i 0 0 none) me)
  rereads slots id i me s r count at small =
      let n : ℕ = get_or s.words i 0 in
      let f = r.each id me.0 at in (
        me.0,
        keeps,
        tt,
        unmoved lanes s r id i n me.0 me.0 r.moments at refl r.published (λ j u _ e. r.each j u e) f (λ lane. refl),
        (
          refl,
          λ x d h front row rest k is less there.
              let known = f.0 x d h in
              let p = known.front in
              let entry = r.stands.entries front row (rest ++ p.0) (p.1 ∙ ap (λ (l : List Row). l ++ p.0) is ∙ append_assoc front (row ∷ rest) p.0) in
              ap (λ (j : ℕ). get_or s.words j 0) there ∙ entry.four k less,
        ),
      )
