-- The rule of the log holds when one seat has another view.
use Rattle.std.proofs.Common.{◌≡◌, ◌≢◌, ℕ, ◌<◌, cond, eqb, List, [], ◌∷◌, length, get_or, set, refl, sym, ap}
use Rattle.std.proofs.Common.{◌∙◌, subst, ⊎_elim, arith}
use mathlib.Core.Option.{some}
use lib.ListN.{get_elem?}
use Rattle.std.proofs.lemmas.List.{set-get_or}
use Rattle.std.proofs.lemmas.List.Elements.{All-nil}
use Rattle.atomic_table.specs.Table.{State}
use Rattle.atomic_table.proofs.Lists.{at_set}
use Rattle.spin_word.specs.declared.row.Row.{Row}
use Rattle.spin_log.specs.declared.view.Hand.{Hand}
use Rattle.spin_log.specs.declared.view.View.{View}
use Rattle.spin_log.specs.Rows.{IsPrefix}
use Rattle.spin_log.specs.Rule.{Stands, Knows, Fits, pens_of, Holds, holding}
use Rattle.spin_log.specs.History.{LogAction, rows_in}
use Rattle.spin_log.specs.Steps.{published}
use Rattle.spin_log.proofs.RowLists.{all_one, all_head}
use Rattle.spin_log.proofs.RowLists.{total_set, total_two, total_at}
use Rattle.spin_log.proofs.PenCounts.{counted}

abbrev pub LogState : Type 0
LogState = State (Unit {0}) View

pub each_set : (P : View → Type 0) (views : List View) (id : ℕ) (w : View) → ((j : ℕ) (u : View) → j ≢ id → get_elem? views j ≡ some u → P u)
    → P w → (j : ℕ) (u : View) → get_elem? (set views id w) j ≡ some u → P u
each_set P views id w others mine j u e =
    ⊎_elim (λ (x : (j ≡ id) × (w ≡ u)). subst P x.1 mine) (λ (x : (j ≢ id) × (get_elem? views j ≡ some u)). others j u x.0 x.1) (at_set views id j w u e)

module _ (lanes : ℕ) where
  -- one seat's view changes, and the log with it
  pub moved : (s : LogState) (r : Holds lanes s) (id : ℕ) (v w : View) (log : List Row) (words : List ℕ) (moments : List LogAction) → get_elem? s.views id ≡ some v → Stands lanes log words → rows_in moments ≡ log
      → ((j : ℕ) (u : View) → j ≢ id → get_elem? s.views j ≡ some u → Fits lanes log moments words u) → Fits lanes log moments words w → ((lane : ℕ) → pens_of lane w ≡ pens_of lane v)
      → Holds lanes record { words = words; homes = s.homes; views = set s.views id w }
  moved s r id v w log words moments at st published others mine same = record {
    log = log;
    stands = st;
    moments = moments;
    published = published;
    each = each_set (Fits lanes log moments words) s.views id w others mine;
    one_pen = λ lane. let t = total_set (pens_of lane) s.views id v w at in let c = same lane in let o = r.one_pen lane in omega arith;
  }

  -- the same where no word changes, nor the log
  pub unmoved : (s : LogState) (r : Holds lanes s) (id i n : ℕ) (v w : View) (moments : List LogAction) → get_elem? s.views id ≡ some v → get_or s.words i 0 ≡ n → rows_in moments ≡ r.log
      → ((j : ℕ) (u : View) → j ≢ id → get_elem? s.views j ≡ some u → Fits lanes r.log moments s.words u) → Fits lanes r.log moments s.words w → ((lane : ℕ) → pens_of lane w ≡ pens_of lane v)
      → Holds lanes record { words = set s.words i n; homes = s.homes; views = set s.views id w }
  unmoved s r id i n v w moments at found published others mine same =
      subst (λ (words : List ℕ). Holds lanes record { words = words; homes = s.homes; views = set s.views id w }) (sym (set-get_or s.words i 0) ∙ ap (λ (x : ℕ). set s.words i x) found)
      (moved s r id v w r.log s.words moments at r.stands published others mine same)

  pub knows : (s : LogState) (r : Holds lanes s) (id : ℕ) (hand : Hand) → get_elem? s.views id ≡ some (holding (hand ∷ [])) → Knows lanes r.log r.moments s.words hand
  knows s r id hand at = all_head (Knows lanes r.log r.moments s.words) hand [] (r.each id (holding (hand ∷ [])) at).0

  -- the view of a pen alone
  pub alone : (log : List Row) (moments : List LogAction) (words : List ℕ) (hand : Hand) → Knows lanes log moments words hand → Fits lanes log moments words (holding (hand ∷ []))
  alone log moments words hand k = (all_one (Knows lanes log moments words) hand k, All-nil (λ front. IsPrefix front log))

  -- no pen of another seat has this lane
  pub other_lane : (s : LogState) (r : Holds lanes s) (id : ℕ) (hand : Hand) → get_elem? s.views id ≡ some (holding (hand ∷ [])) → (j : ℕ) (u : View) → j ≢ id → get_elem? s.views j ≡ some u
      → (i : ℕ) (d : Hand) → i < length u.hands → (get_or u.hands i d).lane ≢ hand.lane
  other_lane s r id hand at j u apart there i d h e =
      let g : Hand = get_or u.hands i d in
      let le = total_at (λ (x : Hand). cond (eqb x.lane hand.lane) 1 0) u.hands i d h in
      let t = total_two (pens_of hand.lane) s.views j id u (holding (hand ∷ [])) apart there at in
      let o = r.one_pen hand.lane in
      let a : cond {A = ℕ} (eqb g.lane hand.lane) 1 0 ≡ 1 = counted g.lane hand.lane e in
      let b : cond {A = ℕ} (eqb hand.lane hand.lane) 1 0 ≡ 1 = counted hand.lane hand.lane refl in
      omega arith
