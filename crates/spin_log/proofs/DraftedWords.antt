-- A pen stores the next word of its draft.
use Rattle.std.proofs.Common.{◌≡◌, ◌≢◌, ℕ, ◌+◌, ◌<◌, List, [], ◌∷◌, ◌++◌, length, get_or, set, refl, sym, ap}
use Rattle.std.proofs.Common.{◌∙◌, subst, arith, length-append, get_or-set_same, get_or-set_other}
use mathlib.Core.Logic.{dite}
use mathlib.Core.Option.{none}
use native.Mathlib.Decide.{ℕ_discrete}
use Rattle.std.proofs.lemmas.List.{get_or_append_left}
use Rattle.std.proofs.Math.Seq.{get_or-append_seam}
use Rattle.atomic_table.specs.Table.{step, keeps, Allows}
use Rattle.spin_word.specs.declared.row.Row.{Row}
use Rattle.spin_log.specs.declared.view.Hand.{Hand}
use Rattle.spin_word.specs.declared.command.TheConstants.{MAX_PLACE}
use Rattle.spin_log.specs.Rows.{rows_of, row_at, size_of}
use Rattle.spin_log.specs.Rule.{Knows, Holds, holding}
use Rattle.spin_log.specs.History.{LogAction}
use Rattle.spin_log.specs.Steps.{Mine, writes_on, drafted}
use Rattle.spin_log.proofs.ViewChanges.{moved, knows, alone, other_lane}
use Rattle.spin_log.proofs.LogWords.{apart_rows, stands_kept}

module _ (lanes : ℕ) where
  knows_draft : (log : List Row) (moments : List LogAction) (words : List ℕ) (hand : Hand) (i x : ℕ) → length words ≡ size_of lanes
      → Knows lanes log moments words hand → i ≡ row_at hand.lane (length hand.own) + length hand.draft → length hand.draft < 4 → length hand.own < MAX_PLACE
      → Knows lanes log moments (set words i x) (writes_on x hand)
  knows_draft log moments words hand i x size k is room own =
      let lane = k.lane in
      let part = k.within_its_part in
      let more = length-append hand.draft (x ∷ []) in record {
        lanes_is = k.lanes_is;
        lane = lane;
        front = k.front;
        own = k.own;
        reached = k.reached;
        pins = k.pins;
        marked = k.marked;
        drafted = λ j h. dite (ℕ_discrete j (length hand.draft))
            (λ (last : j ≡ length hand.draft).
            let at : row_at hand.lane (length hand.own) + j ≡ i = omega arith in
            ap (λ (p : ℕ). get_or (set words i x) p 0) at ∙ get_or-set_same words i x 0 (omega arith)
            ∙ sym (ap (λ (p : ℕ). get_or (hand.draft ++ x ∷ []) p 0) last ∙ get_or-append_seam hand.draft x [] 0))
            (λ (other : j ≢ length hand.draft).
            get_or-set_other words i (row_at hand.lane (length hand.own) + j) x 0 (λ e. other (omega arith))
            ∙ k.drafted j (omega arith) ∙ sym (get_or_append_left hand.draft (x ∷ []) 0 j (omega arith)));
        at_most_a_row = omega arith;
        within_its_part = omega arith;
      }

  drafts_at : (slots id : ℕ) (hand : Hand) (i x : ℕ) → i ≡ row_at hand.lane (length hand.own) + length hand.draft → length hand.draft < 4 → length hand.own < MAX_PLACE
      → Allows (Holds lanes) slots id (holding (hand ∷ []), []) i (λ _. x) (λ _. drafted (step slots i x 0 none) (holding (hand ∷ []), []) x)
  drafts_at slots id hand i x is room own s r count at small =
      let k = knows lanes s r id hand at in
      let turns : length hand.own ≡ length (rows_of hand.lane r.log) = ap length k.own in (
        holding (writes_on x hand ∷ []),
        keeps,
        tt,
        moved lanes s r id (holding (hand ∷ [])) (holding (writes_on x hand ∷ [])) r.log (set s.words i x) r.moments at
            (stands_kept lanes r.log s.words i x hand.lane (length hand.draft) r.stands (omega arith) room (omega arith)) r.published
            (λ j u apart e. let f = r.each j u e in (
              λ i' d h.
                  let g : Hand = get_or u.hands i' d in
                  let k' = f.0 i' d h in
                  let most = k'.at_most_a_row in
                  let part = k'.within_its_part in
                  record {
                    lanes_is = k'.lanes_is;
                    lane = k'.lane;
                    front = k'.front;
                    own = k'.own;
                    reached = k'.reached;
                    pins = k'.pins;
                    marked = k'.marked;
                    drafted = λ y less.
                        get_or-set_other s.words i (row_at g.lane (length g.own) + y) x 0
                        (apart_rows g.lane (length g.own) y hand.lane (length hand.own) (length hand.draft) i is
                        (omega arith) room (omega arith) own (λ same. absurd (other_lane lanes s r id hand at j u apart e i' d h same)))
                        ∙ k'.drafted y less;
                    at_most_a_row = most;
                    within_its_part = part;
                  },
              f.1,
            ))
            (alone lanes r.log r.moments (set s.words i x) (writes_on x hand) (knows_draft r.log r.moments s.words hand i x r.stands.size k is room own)) (λ lane. refl),
        refl,
      )

  pub drafts : (slots id : ℕ) (me : Mine) (hand : Hand) (i x : ℕ) → me ≡ (holding (hand ∷ []), [])
      → i ≡ row_at hand.lane (length hand.own) + length hand.draft → length hand.draft < 4 → length hand.own < MAX_PLACE
      → Allows (Holds lanes) slots id me i (λ _. x) (λ _. drafted (step slots i x 0 none) me x)
  drafts slots id me hand i x is at room own =
      subst (λ (m : Mine). Allows (Holds lanes) slots id m i (λ _. x) (λ _. drafted (step slots i x 0 none) m x)) (sym is) (drafts_at slots id hand i x at room own)
