-- A list of answers in order, which fit the log and whose accepted commands are the log's rows, is legal.
use Rattle.std.proofs.Common.{◌≡◌, ◌==◌, ◌≢◌, ℕ, suc, ◌+◌, ◌-◌, ◌*◌, ◌<◌, ◌≤◌, Bool, true, false, cond, ltb, List, [], ◌∷◌, get_or, refl, ap, ◌∙◌, subst, arith}
use Rattle.std.specs.Prelude.{All, ◌&&◌}
use Rattle.std.specs.List.{count_by}
use Rattle.core.specs.List.Sorted.{IsNonDecreasingBy}
use Rattle.std.proofs.lemmas.Bool.{ne_eqb, eq-eqb, ltb-true, ltb-false, and_from, and_left}
use Rattle.std.proofs.lemmas.List.Elements.{All-head, All-tail, All-weaker}
use Rattle.spin_table.specs.Setups.{SetupData}
use Rattle.spin_table.specs.States.{State}
use Rattle.spin_seat.specs.Answers.{Answer, is_accepted, place_before, LeadsTo, AreLegalAnswers}
use Rattle.spin_seat.specs.Weaves.{rank}
use Rattle.spin_seat.proofs.LaneCounts.{count-cons, count_none}
use Rattle.spin_seat.proofs.SeatAnswers.{below}

-- the answer leads from one state to the other, whose place it has
abbrev pub IsTurn : SetupData → State → Answer → State → Type 0
IsTurn d s answer next = LeadsTo d s answer.said next × (answer.place ≡ next.place)

-- the accepted command of this place
abbrev pub is_accepted_at : ℕ → Answer → Bool
is_accepted_at q answer = is_accepted answer.said && (answer.place == q)

tail_rises : (x : Answer) (xs : List Answer) → IsNonDecreasingBy rank (x ∷ xs) → IsNonDecreasingBy rank xs
tail_rises x xs up i j d le lt = up (suc i) (suc j) d (omega arith) (omega arith)

head_least : (x : Answer) (xs : List Answer) → IsNonDecreasingBy rank (x ∷ xs) → All (λ y. rank x ≤ rank y) xs
head_least x xs up k d lt = up 0 (suc k) d (omega arith) (omega arith)

-- an answer that isn't the accepted command of the place
not_at : (q : ℕ) (answer : Answer) → (is_accepted answer.said ≡ true → answer.place ≢ q) → is_accepted_at q answer ≡ false
not_at q answer not = go (is_accepted answer.said) refl
  where
    go : (a : Bool) → is_accepted answer.said ≡ a → (a && (answer.place == q)) ≡ false
    go true e = ne_eqb answer.place q (not e)
    go false e = refl

-- entries above a rank are not the accepted command of a place below it
pub none_above : (q r : ℕ) (es : List Answer) → 2 * q < r → All (λ y. r ≤ rank y) es → count_by (is_accepted_at q) es ≡ 0
none_above q r es less above =
    count_none (is_accepted_at q) es (All-weaker (λ y. r ≤ rank y) (λ y. is_accepted_at q y ≡ false) (λ y le. not_at q y (λ a same. bad y le a same)) es above)
  where
    bad : (y : Answer) → r ≤ rank y → is_accepted y.said ≡ true → y.place ≡ q → ⊥
    bad y le a same =
        let e : cond {A = ℕ} (is_accepted y.said) 0 1 ≡ 0 = ap (λ t. cond {A = ℕ} t 0 1) a in
        omega (arith, le, same, less, e)

-- cases on numbers
by_less : (p q : ℕ) → (q ≤ p → ⊥) → p < q
by_less p q never = go (ltb p q) refl
  where
    go : (t : Bool) → ltb p q ≡ t → p < q
    go true e = ltb-true p q e
    go false e = absurd (never (ltb-false p q e))

by_equal : (p q : ℕ) → p ≤ q → (p < q → ⊥) → q ≡ p
by_equal p q le never = go (ltb p q) refl
  where
    go : (t : Bool) → ltb p q ≡ t → q ≡ p
    go true e = absurd (never (ltb-true p q e))
    go false e = let g = ltb-false p q e in omega arith

-- a rank of at least this place's
rank_place : (p : ℕ) (e : Answer) → 2 * p ≤ rank e → p ≤ e.place
rank_place p e le = go (is_accepted e.said) refl
  where
    go : (a : Bool) → is_accepted e.said ≡ a → p ≤ e.place
    go true a = let is : cond {A = ℕ} (is_accepted e.said) 0 1 ≡ 0 = ap (λ t. cond {A = ℕ} t 0 1) a in omega (arith, is, le)
    go false a = let is : cond {A = ℕ} (is_accepted e.said) 0 1 ≡ 1 = ap (λ t. cond {A = ℕ} t 0 1) a in omega (arith, is, le)

pub walk : (d : SetupData) (at : ℕ → State) (b : ℕ) (es : List Answer) (p : ℕ) → p ≤ b → IsNonDecreasingBy rank es → All (λ e. (p ≤ e.place) × (e.place ≤ b)) es
    → All (λ e. IsTurn d (at (place_before e)) e (at e.place)) es → ((q : ℕ) → p < q → q ≤ b → count_by (is_accepted_at q) es ≡ 1) → ((q : ℕ) → q ≤ p → count_by (is_accepted_at q) es ≡ 0)
    → AreLegalAnswers d (at p) es (at b)
walk d at b [] p le up within fit some none = go (ltb p b) refl
  where
    go : (t : Bool) → ltb p b ≡ t → at b ≡ at p
    go true e = let lt = ltb-true p b e in let one = some b lt (omega arith) in absurd (omega (arith, one))
    go false e = let le' = ltb-false p b e in ap at (omega arith)
walk d at b (e ∷ es) p le up within fit some none =
    go (is_accepted e.said) refl (λ p' le' within' some' none'. walk d at b es p' le' (tail_rises e es up) within' (All-tail (λ e. IsTurn d (at (place_before e)) e (at e.place)) e es fit) some' none')
  where
    above : All (λ y. rank e ≤ rank y) es
    above = head_least e es up

    here : (p ≤ e.place) × (e.place ≤ b)
    here = All-head (λ e. (p ≤ e.place) × (e.place ≤ b)) e es within

    after : All (λ e. (p ≤ e.place) × (e.place ≤ b)) es
    after = All-tail (λ e. (p ≤ e.place) × (e.place ≤ b)) e es within

    step : IsTurn d (at (place_before e)) e (at e.place)
    step = All-head (λ e. IsTurn d (at (place_before e)) e (at e.place)) e es fit

    go : (a : Bool) → is_accepted e.said ≡ a
        → ((p' : ℕ) → p' ≤ b → All (λ e. (p' ≤ e.place) × (e.place ≤ b)) es → ((q : ℕ) → p' < q → q ≤ b → count_by (is_accepted_at q) es ≡ 1)
        → ((q : ℕ) → q ≤ p' → count_by (is_accepted_at q) es ≡ 0) → AreLegalAnswers d (at p') es (at b))
        → AreLegalAnswers d (at p) (e ∷ es) (at b)
    go true a rest =
        let upper = here.1 in
        let is_rank : cond {A = ℕ} (is_accepted e.said) 0 1 ≡ 0 = ap (λ t. cond {A = ℕ} t 0 1) a in
        let own : cond {A = ℕ} (is_accepted_at e.place e) 1 0 ≡ 1 = ap (λ t. cond {A = ℕ} t 1 0) (and_from (is_accepted e.said) (e.place == e.place) a (eq-eqb e.place e.place refl)) in
        let past : p < e.place = by_less p e.place (λ no. let n = none e.place no in let c = count-cons (is_accepted_at e.place) e es in omega (arith, n, c, own)) in
        let next : e.place ≡ p + 1 = by_equal (p + 1) e.place (omega arith) (λ (far : p + 1 < e.place).
        let one = some (p + 1) (omega arith) (omega arith) in
        let c = count-cons (is_accepted_at (p + 1)) e es in
        let other : cond {A = ℕ} (is_accepted_at (p + 1) e) 1 0 ≡ 0 = ap (λ t. cond {A = ℕ} t 1 0) (not_at (p + 1) e (λ _ same. absurd (omega arith))) in
        let zero_there = none_above (p + 1) (rank e) es (omega arith) above in
        omega (arith, one, c, other, zero_there)) in
        let from : place_before e ≡ p = ap (λ t. cond {A = ℕ} t (e.place - 1) e.place) a ∙ omega arith in
        let step' : IsTurn d (at p) e (at (p + 1)) = subst (λ (x : ℕ × ℕ). IsTurn d (at x.0) e (at x.1)) (λ i. (from i, next i)) step in (
          at (p + 1),
          step'.0,
          step'.1,
          rest (p + 1) (omega arith)
              (λ k d' lt. let r = above k d' lt in let w = after k d' lt in (rank_place (p + 1) (get_or es k d') (omega arith), w.1))
              (λ q lt le'. let one = some q (omega arith) le' in
              let c = count-cons (is_accepted_at q) e es in
              let other : cond {A = ℕ} (is_accepted_at q e) 1 0 ≡ 0 = ap (λ t. cond {A = ℕ} t 1 0) (not_at q e (λ _ same. absurd (omega arith))) in
              omega (arith, one, c, other))
              (λ q le'. below q (p + 1) le' (λ (same : q ≡ p + 1).
              let one = some q (omega arith) (omega arith) in
              let c = count-cons (is_accepted_at q) e es in
              let own' : cond {A = ℕ} (is_accepted_at q e) 1 0 ≡ 1 = subst (λ (r : ℕ). cond {A = ℕ} (is_accepted_at r e) 1 0 ≡ 1) (omega arith) own in
              omega (arith, one, c, own'))
              (λ (lt : q < p + 1).
              let n = none q (omega arith) in
              let c = count-cons (is_accepted_at q) e es in
              omega (arith, n, c))),
        )
    go false a rest =
        let upper = here.1 in
        let is_rank : cond {A = ℕ} (is_accepted e.said) 0 1 ≡ 1 = ap (λ t. cond {A = ℕ} t 0 1) a in
        let other : (q : ℕ) → cond {A = ℕ} (is_accepted_at q e) 1 0 ≡ 0 = λ q. ap (λ t. cond {A = ℕ} t 1 0) (and_left (is_accepted e.said) (e.place == q) a) in
        let here' : e.place ≡ p = by_equal p e.place here.0 (λ (far : p < e.place).
        let one = some (p + 1) (omega arith) (omega arith) in
        let c = count-cons (is_accepted_at (p + 1)) e es in
        let o = other (p + 1) in
        let zero_there = none_above (p + 1) (rank e) es (omega arith) above in
        omega (arith, one, c, o, zero_there)) in
        let from : place_before e ≡ p = ap (λ t. cond {A = ℕ} t (e.place - 1) e.place) a ∙ here' in
        let step' : IsTurn d (at p) e (at p) = subst (λ (x : ℕ × ℕ). IsTurn d (at x.0) e (at x.1)) (λ i. (from i, here' i)) step in (
          at p,
          step'.0,
          step'.1,
          rest p le after
              (λ q lt le'. let one = some q lt le' in let c = count-cons (is_accepted_at q) e es in let o = other q in omega (arith, one, c, o))
              (λ q le'. let n = none q le' in let c = count-cons (is_accepted_at q) e es in omega (arith, n, c)),
        )
