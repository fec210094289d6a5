-- A view is cut in two, two views are made one, and a seat is added.
use Rattle.std.proofs.Common.{◌≡◌, ℕ, ◌+◌, cond, eqb, List, [], ◌∷◌, ◌++◌, set, refl, sym}
use Rattle.std.proofs.Common.{◌∙◌, subst, ⊎_elim, arith}
use mathlib.Core.Option.{none, some}
use lib.ListN.{get_elem?}
use Rattle.std.proofs.lemmas.List.Elements.{All-append, All-nil}
use Rattle.atomic_table.specs.Table.{step, Splits, Joins, Enters}
use Rattle.atomic_table.proofs.Lists.{at_snoc, set_else}
use Rattle.spin_word.specs.declared.row.Row.{Row}
use Rattle.spin_log.specs.declared.view.Hand.{Hand}
use Rattle.spin_log.specs.declared.view.View.{View}
use Rattle.spin_log.specs.Rows.{IsPrefix}
use Rattle.spin_log.specs.Rule.{Knows, Fits, pens_of, Holds}
use Rattle.spin_log.specs.History.{LogAction}
use Rattle.spin_log.specs.Steps.{Mine, published}
use Rattle.spin_log.specs.Steps.{without_first, first_alone, note_of, both_of, spent, sat}
use Rattle.spin_log.proofs.RowLists.{all_drop, all_take, all_map, total-append, total-take-drop}
use Rattle.spin_log.proofs.RowLists.{total_set}
use Rattle.spin_log.proofs.ViewChanges.{LogState, each_set, knows}

module _ (lanes : ℕ) where
  -- a view is cut in two
  cuts : (s : LogState) (r : Holds lanes s) (id : ℕ) (v left right : View) → get_elem? s.views id ≡ some v → Fits lanes r.log r.moments s.words left → Fits lanes r.log r.moments s.words right
      → ((lane : ℕ) → pens_of lane left + pens_of lane right ≡ pens_of lane v)
      → Holds lanes record { words = s.words; homes = s.homes; views = set s.views id left ++ right ∷ [] }
  cuts s r id v left right at first second sum = record {
    log = r.log;
    stands = r.stands;
    moments = r.moments;
    published = r.published;
    each = λ j u e. ⊎_elim (λ was. each_set (Fits lanes r.log r.moments s.words) s.views id left (λ i x _ h. r.each i x h) first j u was)
        (λ (same : right ≡ u). subst (Fits lanes r.log r.moments s.words) same second) (at_snoc (set s.views id left) right u j e);
    one_pen = λ lane.
        let t = total_set (pens_of lane) s.views id v left at in
        let a = total-append (pens_of lane) (set s.views id left) (right ∷ []) in
        let b = sum lane in
        let o = r.one_pen lane in
        omega arith;
  }

  pub splits_pen : (id : ℕ) (v : View) → Splits (Holds lanes) id v (without_first v) (first_alone v)
  splits_pen id v s r at =
      let f = r.each id v at in
      let knows = Knows lanes r.log r.moments s.words in
      cuts s r id v (without_first v) (first_alone v) at (all_drop knows 1 v.hands f.0, f.1) (all_take knows 1 v.hands f.0, All-nil (λ front. IsPrefix front r.log))
      (λ lane. let t = total-take-drop (λ (hand : Hand). cond (eqb hand.lane lane) 1 0) 1 v.hands in omega arith)

  pub splits_note : (id : ℕ) (v : View) → Splits (Holds lanes) id v v (note_of v)
  splits_note id v s r at =
      let f = r.each id v at in
      cuts s r id v v (note_of v) at f
      (All-nil (Knows lanes r.log r.moments s.words), all_map (λ front. IsPrefix front r.log) (λ (hand : Hand). hand.front) v.hands (λ i d h. (f.0 i d h).front)) (λ lane. omega arith)

  nothing : (log : List Row) (moments : List LogAction) (words : List ℕ) → Fits lanes log moments words spent
  nothing log moments words = (All-nil (Knows lanes log moments words), All-nil (λ front. IsPrefix front log))

  pub joins : (id : ℕ) (v : View) (other : ℕ) (w : View) → Joins (Holds lanes) id v other w (both_of v w) spent
  joins id v other w s r at apart there =
      let there' : get_elem? s.views other ≡ some w = sym (set_else s.views id other (both_of v w) apart) ∙ there in
      let f = r.each id v at in
      let g = r.each other w there' in
      let fits = Fits lanes r.log r.moments s.words in
      let both : fits (both_of v w) = (All-append (Knows lanes r.log r.moments s.words) w.hands v.hands g.0 f.0, All-append (λ front. IsPrefix front r.log) w.older v.older g.1 f.1) in record {
        log = r.log;
        stands = r.stands;
        moments = r.moments;
        published = r.published;
        each = each_set fits (set s.views id (both_of v w)) other spent (λ j u _ e. each_set fits s.views id (both_of v w) (λ i x _ h. r.each i x h) both j u e) (nothing r.log r.moments s.words);
        one_pen = λ lane.
            let t = total_set (pens_of lane) s.views id v (both_of v w) at in
            let t' = total_set (pens_of lane) (set s.views id (both_of v w)) other w spent there in
            let a = total-append (λ (hand : Hand). cond (eqb hand.lane lane) 1 0) w.hands v.hands in
            let o = r.one_pen lane in
            omega arith;
      }

  pub sits : (slots i : ℕ) (m : Mine) → Enters (Holds lanes) slots i (λ n w. sat (step slots i 0 0 none) m n (w, []))
  sits slots i m s r count small = (
    spent,
    record {
      log = r.log;
      stands = r.stands;
      moments = r.moments;
      published = r.published;
      each = λ j u e. ⊎_elim (λ was. r.each j u was) (λ (same : spent ≡ u). subst (Fits lanes r.log r.moments s.words) same (nothing r.log r.moments s.words)) (at_snoc s.views spent u j e);
      one_pen = λ lane. let a = total-append (pens_of lane) s.views (spent ∷ []) in let o = r.one_pen lane in omega arith;
    },
    refl,
  )
