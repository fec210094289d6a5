-- The leader of a count, as the code finds it.
use Rattle.std.proofs.Common.{◌≡◌, ℕ, ◌+◌, ◌<◌, ◌≤◌, Bool, true, false, ◌&&◌, ◌||◌, ◌==◌, List, [], ◌∷◌, ◌++◌, length, take, get_or}
use Rattle.std.proofs.Common.{Option, Some, None, refl, sym, ap, subst, ◌∙◌, arith, cond, nat_lt, unwrap_or, ◌⊎◌, inl, inr, ⊎_elim, IsTrue}
use Rattle.std.specs.Option.{option_map_or}
use Rattle.std.specs.HashMap.{HashMap, get}
use Rattle.std.specs.List.{list_all}
use Rattle.std.proofs.lemmas.List.Folds.{list_all_at}
use Rattle.std.proofs.lemmas.Bool.Decides.{nat_tests}
use Rattle.std.proofs.lemmas.Bool.{cases_lt, false≢true}
use Rattle.spin_code.specs.declared.expr.Expr.{Expr}
use Rattle.spin_code.specs.declared.expr.Expr.TheVariants.{Const, Arg, Field, Plus', And', Or'}
use Rattle.spin_code.specs.Required.{is_same_read}
use Rattle.spin_code.proofs.Requirements.{same_is}
use Rattle.spin_plan.specs.Keys.{argument_of, offset_of, width_of, key_kind, is_below, comes_before, Leads, IsLeader}
use Rattle.spin_plan.specs.Inner.Reads.{is_read, times_in}
use Rattle.spin_plan.specs.Inner.Counts.{numbers_of, same_four, times_counted, goes_ahead}
use Rattle.spin_plan.proofs.RequirementCounts.{times_push}
use Rattle.spin_plan.proofs.Positions.{take_push}

below_is : (a b : ℕ) (r : Bool) → is_below a b r ≡ true → (a < b) ⊎ ((a ≡ b) × (r ≡ true))
below_is a b r h = ⊎_elim (λ less. inl less) (λ not_less. inr (even not_less)) (cases_lt a b)
  where
    even : b ≤ a → (a ≡ b) × (r ≡ true)
    even le = by_test (nat_lt a b) (a == b) r refl refl h
      where
        by_test : (s t u : Bool) → nat_lt a b ≡ s → (a == b) ≡ t → (s || (t && u)) ≡ true → (a ≡ b) × (u ≡ true)
        by_test true t u lt eq g = absurd (grind (arith, nat_tests, lt, le))
        by_test false true u lt eq g = (grind (arith, nat_tests, eq), g)
        by_test false false u lt eq g = absurd cc

below_less : (a b : ℕ) (r : Bool) → a < b → is_below a b r ≡ true
below_less a b r lt =
    let is : nat_lt a b ≡ true = grind (arith, nat_tests, lt) in
    ap (λ t. t || ((a == b) && r)) is

below_even : (a b : ℕ) (r : Bool) → a ≡ b → r ≡ true → is_below a b r ≡ true
below_even a b r is h = by_test (nat_lt a b) (a == b) (grind (arith, nat_tests, is))
  where
    by_test : (s t : Bool) → t ≡ true → (s || (t && r)) ≡ true
    by_test true t g = refl
    by_test false true g = h
    by_test false false g = absurd cc

below_trans : (a b c : ℕ) (r s t : Bool) → (r ≡ true → s ≡ true → t ≡ true) → is_below a b r ≡ true → is_below b c s ≡ true → is_below a c t ≡ true
below_trans a b c r s t inner h g =
    ⊎_elim
    (λ less. ⊎_elim (λ less'. below_less a c t (omega (arith, less, less'))) (λ even. below_less a c t (omega (arith, less, even.0))) (below_is b c s g))
    (λ even. ⊎_elim (λ less. below_less a c t (omega (arith, even.0, less))) (λ even'. below_even a c t (even.0 ∙ even'.0) (inner even.1 even'.1)) (below_is b c s g))
    (below_is a b r h)

below_self : (a : ℕ) (r : Bool) → r ≡ false → is_below a a r ≡ false
below_self a r h = by_test (is_below a a r) refl
  where
    by_test : (b : Bool) → is_below a a r ≡ b → b ≡ false
    by_test false is = refl
    by_test true is = ⊎_elim (λ less. absurd (omega (arith, less))) (λ even. absurd (false≢true (sym h ∙ even.1))) (below_is a a r is)

lt_trans : (a b c : ℕ) → nat_lt a b ≡ true → nat_lt b c ≡ true → nat_lt a c ≡ true
lt_trans a b c h g = grind (arith, nat_tests, h, g)

lt_self : (a : ℕ) → nat_lt a a ≡ false
lt_self a = grind (arith, nat_tests)

before_trans : (d e f : Expr) → comes_before d e ≡ true → comes_before e f ≡ true → comes_before d f ≡ true
before_trans d e f =
    let by_kind : Expr → Expr → Bool = λ x y. nat_lt (key_kind x) (key_kind y) in
    let by_width : Expr → Expr → Bool = λ x y. is_below (width_of x) (width_of y) (by_kind x y) in
    let by_offset : Expr → Expr → Bool = λ x y. is_below (offset_of x) (offset_of y) (by_width x y) in
    below_trans (argument_of d) (argument_of e) (argument_of f) (by_offset d e) (by_offset e f) (by_offset d f)
    (below_trans (offset_of d) (offset_of e) (offset_of f) (by_width d e) (by_width e f) (by_width d f)
    (below_trans (width_of d) (width_of e) (width_of f) (by_kind d e) (by_kind e f) (by_kind d f)
    (lt_trans (key_kind d) (key_kind e) (key_kind f))))

before_self : (e : Expr) → comes_before e e ≡ false
before_self e =
    let by_width = is_below (width_of e) (width_of e) (nat_lt (key_kind e) (key_kind e)) in
    below_self (argument_of e) (is_below (offset_of e) (offset_of e) by_width)
    (below_self (offset_of e) by_width
    (below_self (width_of e) (nat_lt (key_kind e) (key_kind e)) (lt_self (key_kind e))))

-- ---- one counted more

module _ (count more : Expr → ℕ) (e : Expr) (grows : (d : Expr) → more d ≡ count d + cond (is_same_read e d) 1 0) (once : is_same_read e e ≡ true) where
  -- another one keeps its count
  more_other : (d : Expr) → (e ≡ d → ⊥) → more d ≡ count d
  more_other d apart = by_same (is_same_read e d) refl
    where
      by_same : (b : Bool) → is_same_read e d ≡ b → more d ≡ count d
      by_same true is = absurd (apart (same_is e d is))
      by_same false is = grows d ∙ ap (λ b. count d + cond b 1 0) is ∙ omega arith

  more_here : more e ≡ count e + 1
  more_here = grows e ∙ ap (λ b. count e + cond b 1 0) once

  more_at_least : (d : Expr) → count d ≤ more d
  more_at_least d = omega (arith, grows d)

  -- by cases: it is the one that was counted, or keeps its count
  on_each : (P : Expr → Type 0) → P e → ((d : Expr) → more d ≡ count d → P d) → (d : Expr) → P d
  on_each P here others d = by_same (is_same_read e d) refl
    where
      by_same : (b : Bool) → is_same_read e d ≡ b → P d
      by_same true is = subst P (same_is e d is) here
      by_same false is = others d (grows d ∙ ap (λ b. count d + cond b 1 0) is ∙ omega arith)

  -- it takes the lead
  ahead : (leader : Option Expr) (most : ℕ) → IsLeader count leader → most ≡ option_map_or count leader 0 → goes_ahead e (more e) leader most ≡ true → Leads more e
  ahead None most none is goes = record {
    some = omega (arith, more_here);
    most = on_each (λ d. more d ≤ more e) (omega arith) (λ d same. omega (arith, same, none d));
    first = on_each (λ d. more d ≡ more e → comes_before d e ≡ false) (λ even. before_self e) (λ d same even. absurd (omega (arith, same, none d, even, more_here)));
  }
  ahead (Some l) most leads is goes =
      by_test (nat_lt most (more e)) (more e == most) (comes_before e l) refl refl refl goes
    where
      by_test : (a b c : Bool) → nat_lt most (more e) ≡ a → (more e == most) ≡ b → comes_before e l ≡ c → (a || (b && c)) ≡ true → Leads more e
      by_test true b c lt eq before g =
          let less : most < more e = grind (arith, nat_tests, lt) in
          record {
            some = omega (arith, more_here);
            most = on_each (λ d. more d ≤ more e) (omega arith) (λ d same. omega (arith, same, leads.most d, is, less));
            first = on_each (λ d. more d ≡ more e → comes_before d e ≡ false) (λ even. before_self e) (λ d same even. absurd (omega (arith, same, leads.most d, is, less, even)));
          }
      by_test false true true lt eq before g =
          let same_most : more e ≡ most = grind (arith, nat_tests, eq) in
          record {
            some = omega (arith, more_here);
            most = on_each (λ d. more d ≤ more e) (omega arith) (λ d same. omega (arith, same, leads.most d, is, same_most));
            first = on_each (λ d. more d ≡ more e → comes_before d e ≡ false) (λ even. before_self e)
                (λ d same even. not_before d (leads.first d (omega (arith, same, even, same_most, is))) (comes_before d e) refl);
          }
        where
          not_before : (d : Expr) → comes_before d l ≡ false → (t : Bool) → comes_before d e ≡ t → t ≡ false
          not_before d out false is = refl
          not_before d out true is = absurd (false≢true (sym out ∙ before_trans d e l is before))
      by_test false true false lt eq before g = absurd cc
      by_test false false c lt eq before g = absurd cc

  -- or it doesn't
  behind : (leader : Option Expr) (most : ℕ) → IsLeader count leader → most ≡ option_map_or count leader 0
      → goes_ahead e (more e) leader most ≡ false → IsLeader more leader × (most ≡ option_map_or more leader 0)
  behind None most none is goes = absurd (grind (arith, nat_tests, goes, is, more_here))
  behind (Some l) most leads is goes =
      by_test (nat_lt most (more e)) (more e == most) (comes_before e l) refl refl refl goes
    where
      by_test : (a b c : Bool) → nat_lt most (more e) ≡ a → (more e == most) ≡ b → comes_before e l ≡ c → (a || (b && c)) ≡ false → Leads more l × (most ≡ more l)
      by_test true b c lt eq before g = absurd cc
      by_test false b c lt eq before g =
          let not_more : more e ≤ most = grind (arith, nat_tests, lt) in
          let apart : e ≡ l → ⊥ = λ same. absurd (omega (arith, not_more, more_here, is, ap count same)) in
          let kept : more l ≡ count l = more_other l apart in (
            record {
              some = omega (arith, kept, leads.some);
              most = on_each (λ d. more d ≤ more l) (omega (arith, not_more, is, kept)) (λ d same. omega (arith, same, kept, leads.most d));
              first = on_each (λ d. more d ≡ more l → comes_before d l ≡ false)
                  (λ even. later b c eq before (omega (arith, even, kept, is)) g)
                  (λ d same even. leads.first d (omega (arith, same, even, kept)));
            },
            is ∙ sym kept,
          )
        where
          later : (b c : Bool) → (more e == most) ≡ b → comes_before e l ≡ c → more e ≡ most → (false || (b && c)) ≡ false → comes_before e l ≡ false
          later true true eq before even g = absurd cc
          later true false eq before even g = before
          later false c eq before even g = absurd (grind (arith, nat_tests, eq, even))

-- ---- equal counts have equal leaders

pub same_leader : (count more : Expr → ℕ) (leader : Option Expr) → ((e : Expr) → count e ≡ more e) → IsLeader count leader → IsLeader more leader
same_leader count more leader same is = subst (λ n. IsLeader n leader) (λ i e. same e i) is

pub same_self : (e : Expr) → is_read e ≡ true → is_same_read e e ≡ true
same_self (Arg a) h = grind (arith, nat_tests)
same_self (Field a o w) h = true_and _ _ (true_and _ _ (self a) (self o)) (self w)
  where
    self : (n : ℕ) → (n == n) ≡ true
    self n = grind (arith, nat_tests)

    true_and : (b c : Bool) → b ≡ true → c ≡ true → (b && c) ≡ true
    true_and true c h g = g
    true_and false c h g = absurd cc
same_self (Const n) h = absurd cc
same_self (Plus' p a q b) h = absurd cc
same_self (And' p a q b) h = absurd cc
same_self (Or' p a q b) h = absurd cc

-- ---- the step of the loop

pub record Noted {S : Type 0} (noted : List Expr) (counts : HashMap (ℕ × ℕ × ℕ × ℕ) ℕ S) (leader : Option Expr) (most : ℕ) : Type 0 where
  pub counted : (d : Expr) → IsTrue (is_read d) → times_counted counts d ≡ times_in noted d
  pub leads : IsLeader (times_in noted) leader
  pub most_is : most ≡ option_map_or (times_in noted) leader 0

pub noted_more : {S : Type 0} (noted : List Expr) (old new : HashMap (ℕ × ℕ × ℕ × ℕ) ℕ S) (leader : Option Expr) (most times : ℕ) (e : Expr) → is_read e ≡ true
    → Noted noted old leader most
    → ((d : Expr) → IsTrue (is_read d) → times_counted new d ≡ times_counted old d + cond (is_same_read e d) 1 0)
    → times ≡ times_counted old e + 1
    → (goes_ahead e times leader most ≡ true → Noted (noted ++ e ∷ []) new (Some e) times)
    × (goes_ahead e times leader most ≡ false → Noted (noted ++ e ∷ []) new leader most)
noted_more noted old new leader most times e read before counts is =
    let more = times_in (noted ++ e ∷ []) in
    let self = same_self e read in
    let times_is : times ≡ more e = is ∙ ap (λ n. n + 1) (before.counted e read) ∙ sym (times_push noted e e ∙ ap (λ b. times_in noted e + cond b 1 0) self) in
    let counted : (d : Expr) → IsTrue (is_read d) → times_counted new d ≡ more d =
    λ d h. counts d h ∙ ap (λ n. n + cond (is_same_read e d) 1 0) (before.counted d h) ∙ sym (times_push noted e d) in (
      (λ goes. record {
        counted = counted;
        leads = ahead (times_in noted) more e (λ d. times_push noted e d) self leader most before.leads before.most_is (subst (λ n. goes_ahead e n leader most ≡ true) times_is goes);
        most_is = times_is;
      }),
      (λ stays.
          let kept = behind (times_in noted) more e (λ d. times_push noted e d) self leader most before.leads before.most_is (subst (λ n. goes_ahead e n leader most ≡ false) times_is stays) in
          record { counted = counted; leads = kept.0; most_is = kept.1 }),
    )

pub noted_step : {S : Type 0} (reads : List Expr) (i : ℕ) (old new : HashMap (ℕ × ℕ × ℕ × ℕ) ℕ S) (leader leader' : Option Expr) (most most' times : ℕ) (e : Expr)
    → is_read e ≡ true → i < length reads → e ≡ get_or reads i e
    → Noted (take i reads) old leader most
    → ((d : Expr) → IsTrue (is_read d) → times_counted new d ≡ times_counted old d + cond (is_same_read e d) 1 0)
    → times ≡ times_counted old e + 1
    → (goes_ahead e times leader most ≡ true → (leader' ≡ Some e) × (most' ≡ times))
    → (goes_ahead e times leader most ≡ false → (leader' ≡ leader) × (most' ≡ most))
    → Noted (take (i + 1) reads) new leader' most'
noted_step {S} reads i old new leader leader' most most' times e read lt at before counts is goes stays =
    subst (λ es. Noted es new leader' most') (sym (take_push reads i e lt at)) (by_test (goes_ahead e times leader most) refl)
  where
    steps : (goes_ahead e times leader most ≡ true → Noted (take i reads ++ e ∷ []) new (Some e) times) × (goes_ahead e times leader most ≡ false → Noted (take i reads ++ e ∷ []) new leader most)
    steps = noted_more (take i reads) old new leader most times e read before counts is

    moved : (l : Option Expr) (n : ℕ) → leader' ≡ l → most' ≡ n → Noted (take i reads ++ e ∷ []) new l n → Noted (take i reads ++ e ∷ []) new leader' most'
    moved l n same even x = subst (λ k. Noted (take i reads ++ e ∷ []) new leader' k) (sym even) (subst (λ k. Noted (take i reads ++ e ∷ []) new k n) (sym same) x)

    by_test : (t : Bool) → goes_ahead e times leader most ≡ t → Noted (take i reads ++ e ∷ []) new leader' most'
    by_test true h = moved (Some e) times (goes h).0 (goes h).1 (steps.0 h)
    by_test false h = moved leader most (stays h).0 (stays h).1 (steps.1 h)

-- ---- the numbers tell arguments and fields apart

pub same_numbers : (e d : Expr) → is_read e ≡ true → is_read d ≡ true
    → (((argument_of e == argument_of d) && (offset_of e == offset_of d)) && (width_of e == width_of d)) && (key_kind e == key_kind d) ≡ is_same_read e d
same_numbers (Arg a) (Arg b) h g = all_true (a == b)
  where
    all_true : (t : Bool) → (((t && true) && true) && true) ≡ t
    all_true true = refl
    all_true false = refl
same_numbers (Field a o w) (Field b p v) h g = last_true (((a == b) && (o == p)) && (w == v))
  where
    last_true : (t : Bool) → (t && true) ≡ t
    last_true true = refl
    last_true false = refl
same_numbers (Arg a) (Field b p v) h g = last_false (((a == b) && (0 == p)) && (0 == v))
  where
    last_false : (t : Bool) → (t && false) ≡ false
    last_false true = refl
    last_false false = refl
same_numbers (Field a o w) (Arg b) h g = last_false (((a == b) && (o == 0)) && (w == 0))
  where
    last_false : (t : Bool) → (t && false) ≡ false
    last_false true = refl
    last_false false = refl
same_numbers (Const n) d h g = absurd cc
same_numbers (Plus' p a q b) d h g = absurd cc
same_numbers (And' p a q b) d h g = absurd cc
same_numbers (Or' p a q b) d h g = absurd cc
same_numbers (Arg a) (Const n) h g = absurd cc
same_numbers (Arg a) (Plus' p b q d) h g = absurd cc
same_numbers (Arg a) (And' p b q d) h g = absurd cc
same_numbers (Arg a) (Or' p b q d) h g = absurd cc
same_numbers (Field a o w) (Const n) h g = absurd cc
same_numbers (Field a o w) (Plus' p b q d) h g = absurd cc
same_numbers (Field a o w) (And' p b q d) h g = absurd cc
same_numbers (Field a o w) (Or' p b q d) h g = absurd cc

pub counted_more : {S : Type 0} (old new : HashMap (ℕ × ℕ × ℕ × ℕ) ℕ S) (k : ℕ × ℕ × ℕ × ℕ) (times : ℕ) (e : Expr) → is_read e ≡ true
    → ((q : ℕ × ℕ × ℕ × ℕ) → get same_four new q ≡ cond (same_four k q) (Some times) (get same_four old q))
    → k ≡ numbers_of e → times ≡ times_counted old e + 1
    → (d : Expr) → is_read d ≡ true → times_counted new d ≡ times_counted old d + cond (is_same_read e d) 1 0
counted_more {S} old new k times e read sets is more d read' =
    ap (λ o. unwrap_or o 0) (sets (numbers_of d) ∙ ap (λ n. cond (same_four n (numbers_of d)) (Some times) (get same_four old (numbers_of d))) is)
    ∙ by_same (same_four (numbers_of e) (numbers_of d)) (is_same_read e d) (same_numbers e d read read') refl
  where
    by_same : (b c : Bool) → b ≡ c → is_same_read e d ≡ c → unwrap_or (cond b (Some times) (get same_four old (numbers_of d))) 0 ≡ times_counted old d + cond c 1 0
    by_same true true eq same = more ∙ ap (λ x. times_counted old x + 1) (same_is e d same)
    by_same false false eq same = omega arith
    by_same true false eq same = absurd cc
    by_same false true eq same = absurd cc

pub passes_at : {X : Type 0} (p : X → Bool) (xs : List X) (i : ℕ) (x : X) → list_all p xs ≡ true → i < length xs → x ≡ get_or xs i x → p x ≡ true
passes_at p xs i x all lt is = by_test (p x) refl
  where
    by_test : (b : Bool) → p x ≡ b → b ≡ true
    by_test true h = refl
    by_test false h = absurd (false≢true (sym (list_all_at p xs i x lt (ap p (sym is) ∙ h)) ∙ all))
