-- A view takes over the longest of its fronts.
use Rattle.std.proofs.Common.{◌≡◌, ℕ, ◌+◌, Bool, true, false, cond, eqb, List, [], ◌∷◌, length, get_or, map, refl, sym, ap}
use Rattle.std.proofs.Common.{◌∙◌, subst, inl, inr, arith, ltb}
use borrow.Author.Tests.{ltb-true}
use Rattle.std.specs.Prelude.{All}
use mathlib.Core.Logic.{dite}
use mathlib.Core.Option.{none}
use native.Mathlib.Decide.{dec_le}
use Rattle.std.proofs.lemmas.List.{append-nil}
use Rattle.std.proofs.lemmas.List.Elements.{All-nil}
use Rattle.atomic_table.specs.Table.{step, keeps, Allows}
use Rattle.spin_word.specs.declared.row.Row.{Row}
use Rattle.spin_log.specs.declared.view.Hand.{Hand}
use Rattle.spin_log.specs.declared.view.View.{View}
use Rattle.spin_log.specs.Rows.{IsCommandBelow, IsPrefix}
use Rattle.spin_log.specs.Rule.{Knows, total, pens_of, Holds, holding}
use Rattle.spin_log.specs.Steps.{Mine, drafted, learned}
use Rattle.spin_log.specs.Steps.{longer, longest, lengthened, AreOfOne}
use Rattle.spin_log.proofs.RowLists.{all_prefix, all_head, all_tail}
use Rattle.spin_log.proofs.RowLists.{all_map, prefix_both, prefix_trans, prefix_length}
use Rattle.spin_log.proofs.RowLists.{rows_of_between}
use Rattle.spin_log.proofs.ViewChanges.{unmoved}

module _ (lanes : ℕ) where
  -- the older fronts and the pen's are of one log, and so is the longest
  longest_kept : (log front : List Row) (others : List (List Row)) → IsPrefix front log
      → All (λ other. IsPrefix other log) others → IsPrefix (longest front others) log × IsPrefix front (longest front others)
  longest_kept log front [] p all = (p, ([], sym (append-nil front)))
  longest_kept log front (other ∷ others) p all =
      let q = all_head (λ x. IsPrefix x log) other others all in
      let rest = all_tail (λ x. IsPrefix x log) other others all in
      let step : IsPrefix (longer front other) log × IsPrefix front (longer front other) = pick (ltb (length front) (length other)) refl q in
      let r = longest_kept log (longer front other) others step.0 rest in
      (r.0, prefix_trans front (longer front other) (longest (longer front other) others) step.1 r.1)
    where
      pick : (b : Bool) → ltb (length front) (length other) ≡ b → IsPrefix other log → IsPrefix (cond b other front) log × IsPrefix front (cond b other front)
      pick true e q = (q, prefix_both front other log p q (let l = ltb-true (length front) (length other) e in omega arith))
      pick false e q = (p, ([], sym (append-nil front)))

  of_one : (f g log : List Row) → IsPrefix f log → IsPrefix g log → AreOfOne f g
  of_one f g log p q = dite (dec_le (length f) (length g)) (λ le. inl (prefix_both f g log p q le)) (λ not. inr (prefix_both g f log q p (omega arith)))

  pub learns : (slots id : ℕ) (me : Mine) → me.1 ≡ [] → Allows (Holds lanes) slots id me 0 (λ n. n) (learned (step slots 0 0 0 none) me)
  learns slots id me empty s r count at small =
      let f = r.each id me.0 at in
      let w : View = holding (map (lengthened me.0.older) me.0.hands) in
      let n : ℕ = get_or s.words 0 0 in
      let knows = Knows lanes r.log r.moments s.words in (
        w,
        keeps,
        tt,
        unmoved lanes s r id 0 n me.0 w r.moments at refl r.published (λ j u _ e. r.each j u e) (
          all_map knows (lengthened me.0.older) me.0.hands (λ i d h.
              let hand : Hand = get_or me.0.hands i d in
              let k : knows hand = f.0 i d h in
              let l = longest_kept r.log hand.front me.0.older k.front f.1 in
              let le = prefix_length hand.front (longest hand.front me.0.older) l.1 in record {
                lanes_is = k.lanes_is;
                lane = k.lane;
                front = l.0;
                own = k.own;
                reached = k.reached ∙ sym (rows_of_between hand.lane hand.front (longest hand.front me.0.older) r.log l.1 l.0 (sym k.reached ∙ k.own));
                pins = λ i' d' h'. let p = k.pins i' d' h' in omega arith;
                marked = k.marked;
                drafted = k.drafted;
                at_most_a_row = k.at_most_a_row;
                within_its_part = k.within_its_part;
              }),
          All-nil (λ front. IsPrefix front r.log),
        )
            (λ lane. total-map_lengthened lane me.0.older me.0.hands),
        record {
          view = refl;
          one = λ i d h i' d' h'. of_one (get_or me.0.hands i d).front (get_or me.0.older i' d') r.log (f.0 i d h).front (f.1 i' d' h');
          own = λ i d h.
              let hand : Hand = get_or me.0.hands i d in
              let k : knows hand = f.0 i d h in
              let l = longest_kept r.log hand.front me.0.older k.front f.1 in
              rows_of_between hand.lane hand.front (longest hand.front me.0.older) r.log l.1 l.0 (sym k.reached ∙ k.own);
          commands = λ i d h.
              let hand : Hand = get_or me.0.hands i d in
              let k : knows hand = f.0 i d h in
              let l = longest_kept r.log hand.front me.0.older k.front f.1 in
              subst (λ (x : ℕ). All (IsCommandBelow x) (longest hand.front me.0.older)) (sym k.lanes_is)
              (all_prefix (IsCommandBelow lanes) (longest hand.front me.0.older) r.log l.0 r.stands.commands);
        },
      )
    where
      total-map_lengthened : (lane : ℕ) (others : List (List Row)) (hands : List Hand)
          → pens_of lane (holding (map (lengthened others) hands)) ≡ total (λ (hand : Hand). cond (eqb hand.lane lane) 1 0) hands
      total-map_lengthened lane others [] = refl
      total-map_lengthened lane others (hand ∷ hands) = ap (λ n. cond (eqb hand.lane lane) 1 0 + n) (total-map_lengthened lane others hands)
