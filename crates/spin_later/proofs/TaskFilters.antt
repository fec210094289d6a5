-- The tasks of one sender, and those that one party took.
use Rattle.std.proofs.Common.{◌≡◌, ◌≢◌, ◌==◌, ℕ, zero, suc, ◌<◌, Bool, true, false, true≢false, cond, List, [], ◌∷◌, ◌++◌, length, refl, sym, ap, subst, ◌∙◌, arith, append-nil, inl, inr, ⊎_elim}
use Rattle.std.specs.Prelude.{All, filter, slice_get, slice_index_or, Some, ◌⊎◌}
use Rattle.std.proofs.lemmas.Bool.Decides.{nat_tests}
use Rattle.std.proofs.lemmas.List.{map-append}
use Rattle.std.proofs.lemmas.List.Elements.{filter-append, All-nil, All-cons, All-head, All-tail}
use Rattle.std.proofs.lemmas.Option.{same_Some, none-some}
use mathlib.Core.Option.{some, some-injective, some-ne-none}
use lib.ListN.{get_elem?}
use Rattle.spin_later.specs.declared.task.Task.{Task}
use Rattle.spin_later.specs.History.{Take, sent_by, tasks_of, taken_by, AreNumbered}

module _ {X : Type 0} where
  -- the last item of a list, or one before it
  pub at_end : (xs : List X) (a b : X) (j : ℕ) → get_elem? (xs ++ a ∷ []) j ≡ some b → (get_elem? xs j ≡ some b) ⊎ ((j ≡ length xs) × (a ≡ b))
  at_end [] a b zero e = inr (refl, some-injective a b e)
  at_end [] a b (suc j) e = absurd (some-ne-none b (sym e))
  at_end (x ∷ xs) a b zero e = inl e
  at_end (x ∷ xs) a b (suc j) e = ⊎_elim (λ h. inl h) (λ (h : (j ≡ length xs) × (a ≡ b)). inr (ap suc h.0, h.1)) (at_end xs a b j e)

  pub got_end : (xs : List X) (a b : X) (j : ℕ) → slice_get (xs ++ a ∷ []) j ≡ Some b → (slice_get xs j ≡ Some b) ⊎ ((j ≡ length xs) × (a ≡ b))
  got_end [] a b zero e = inr (refl, same_Some a b e)
  got_end [] a b (suc j) e = absurd (none-some b e)
  got_end (x ∷ xs) a b zero e = inl e
  got_end (x ∷ xs) a b (suc j) e = ⊎_elim (λ h. inl h) (λ (h : (j ≡ length xs) × (a ≡ b)). inr (ap suc h.0, h.1)) (got_end xs a b j e)

  -- an item in the middle
  pub got_middle : (xs : List X) (a : X) (ys : List X) → slice_get (xs ++ a ∷ ys) (length xs) ≡ Some a
  got_middle [] a ys = refl
  got_middle (x ∷ xs) a ys = got_middle xs a ys

  -- and one before it
  pub got_before : (xs : List X) (a : X) (ys : List X) (k : ℕ) (d : X) → k < length xs → slice_get (xs ++ a ∷ ys) k ≡ Some (slice_index_or xs k d)
  got_before [] a ys k d lt = absurd (omega arith)
  got_before (x ∷ xs) a ys zero d lt = refl
  got_before (x ∷ xs) a ys (suc k) d lt = got_before xs a ys k d (omega arith)

  pub all_middle : (P : X → Type 0) (xs : List X) (a : X) (ys : List X) → All P (xs ++ a ∷ ys) → P a
  all_middle P [] a ys h = All-head P a ys h
  all_middle P (x ∷ xs) a ys h = all_middle P xs a ys (All-tail P x (xs ++ a ∷ ys) h)

  passing_one : (p : X → Bool) (P : X → Type 0) (x : X) (xs : List X) (b : Bool) → p x ≡ b → All P (cond b (x ∷ filter p xs) (filter p xs)) → (All P (filter p xs) → All (λ y. p y ≡ true → P y) xs)
      → All (λ y. p y ≡ true → P y) (x ∷ xs)
  passing_one p P x xs true is h rest = All-cons (λ y. p y ≡ true → P y) x xs (λ _. All-head P x (filter p xs) h) (rest (All-tail P x (filter p xs) h))
  passing_one p P x xs false is h rest = All-cons (λ y. p y ≡ true → P y) x xs (λ yes. absurd (true≢false (sym yes ∙ is))) (rest h)

  -- what is so of those that pass the test is so of each, if it passes
  pub all_passing : (p : X → Bool) (P : X → Type 0) (xs : List X) → All P (filter p xs) → All (λ x. p x ≡ true → P x) xs
  all_passing p P [] h = All-nil (λ x. p x ≡ true → P x)
  all_passing p P (x ∷ xs) h = passing_one p P x xs (p x) refl h (λ k. all_passing p P xs k)

  -- where none passes the test
  pub filter_none : (p : X → Bool) (xs : List X) → All (λ x. p x ≡ false) xs → filter p xs ≡ []
  filter_none p [] h = refl
  filter_none p (x ∷ xs) h = rw (All-head (λ x. p x ≡ false) x xs h) (filter_none p xs (All-tail (λ x. p x ≡ false) x xs h))

pub is_same : (n m : ℕ) → n ≡ m → (n == m) ≡ true
is_same n m e = grind (arith, nat_tests)

pub is_other : (n m : ℕ) → n ≢ m → (n == m) ≡ false
is_other n m ne = grind (arith, nat_tests)

-- a put adds to the tasks of its sender alone
pub sent_own : (n : ℕ) (puts : List Task) (x : Task) → x.sender ≡ n → sent_by n (puts ++ x ∷ []) ≡ sent_by n puts ++ x ∷ []
sent_own n puts x e = filter-append (λ (t : Task). t.sender == n) puts (x ∷ []) ∙ ap (λ (b : Bool). sent_by n puts ++ cond b (x ∷ []) []) (is_same x.sender n e)

pub sent_other : (n : ℕ) (puts : List Task) (x : Task) → x.sender ≢ n → sent_by n (puts ++ x ∷ []) ≡ sent_by n puts
sent_other n puts x ne =
    filter-append (λ (t : Task). t.sender == n) puts (x ∷ []) ∙ ap (λ (b : Bool). sent_by n puts ++ cond b (x ∷ []) []) (is_other x.sender n ne) ∙ append-nil (sent_by n puts)

-- and a take to those of its party alone
pub taken_own : (takes : List Take) (t : Take) → taken_by t.party (takes ++ t ∷ []) ≡ taken_by t.party takes ++ t.task ∷ []
taken_own takes t =
    ap tasks_of
    (filter-append (λ (u : Take). u.party == t.party) takes (t ∷ []) ∙ ap (λ (b : Bool). filter (λ (u : Take). u.party == t.party) takes ++ cond b (t ∷ []) []) (is_same t.party t.party refl))
    ∙ map-append (λ (u : Take). u.task) (filter (λ (u : Take). u.party == t.party) takes) (t ∷ [])

pub taken_other : (n : ℕ) (takes : List Take) (t : Take) → t.party ≢ n → taken_by n (takes ++ t ∷ []) ≡ taken_by n takes
taken_other n takes t ne =
    ap tasks_of (filter-append (λ (u : Take). u.party == n) takes (t ∷ [])
    ∙ ap (λ (b : Bool). filter (λ (u : Take). u.party == n) takes ++ cond b (t ∷ []) []) (is_other t.party n ne) ∙ append-nil (filter (λ (u : Take). u.party == n) takes))

-- a number past all parties has none
pub sent_none : (n : ℕ) (puts : List Task) → All (λ t. t.sender < n) puts → sent_by n puts ≡ []
sent_none n puts h = filter_none (λ (t : Task). t.sender == n) puts (λ k d lt. is_other _ n (let low = h k d lt in omega arith))

pub taken_none : (n : ℕ) (takes : List Take) → All (λ t. t.party < n) takes → taken_by n takes ≡ []
taken_none n takes h = ap tasks_of (filter_none (λ (t : Take). t.party == n) takes (λ k d lt. is_other _ n (let low = h k d lt in omega arith)))

taken_one : (P : Task → Type 0) (n : ℕ) (t : Take) (takes : List Take) (b : Bool) → P t.task → All P (taken_by n takes)
    → All P (tasks_of (cond b (t ∷ filter (λ (u : Take). u.party == n) takes) (filter (λ (u : Take). u.party == n) takes)))
taken_one P n t takes true here rest = All-cons P t.task (taken_by n takes) here rest
taken_one P n t takes false here rest = rest

-- what is so of all that was taken is so of what a party took
pub all_taken : (P : Task → Type 0) (n : ℕ) (takes : List Take) → All P (tasks_of takes) → All P (taken_by n takes)
all_taken P n [] h = All-nil P
all_taken P n (t ∷ takes) h = taken_one P n t takes (t.party == n) (All-head P t.task (tasks_of takes) h) (all_taken P n takes (All-tail P t.task (tasks_of takes) h))

-- a task in the middle of what was put: its sender is as all are, and of this sender it comes after all before it
pub before_last : (puts before : List Task) (x : Task) (after : List Task) → puts ≡ before ++ x ∷ after → ((n : ℕ) → AreNumbered (sent_by n puts))
    → ((P : Task → Type 0) → All P (before ++ x ∷ after) → P x) × All (λ t. t.sender ≡ x.sender → t.number < x.number) before
before_last puts before x after order numbered =
    let n = x.sender in
    let earlier = sent_by n before in
    let cut : sent_by n puts ≡ earlier ++ x ∷ sent_by n after =
    ap (sent_by n) order ∙ filter-append (λ (t : Task). t.sender == n) before (x ∷ after) ∙ ap (λ (b : Bool). earlier ++ cond b (x ∷ sent_by n after) (sent_by n after)) (is_same n n refl) in
    let counted = subst AreNumbered cut (numbered n) in
    let last : x.number ≡ length earlier = counted (length earlier) x (got_middle earlier x (sent_by n after)) in
    let less : All (λ t. t.number < x.number) earlier = λ k d lt. let at = counted k (slice_index_or earlier k d) (got_before earlier x (sent_by n after) k d lt) in omega arith in
    let passing = all_passing (λ (t : Task). t.sender == n) (λ t. t.number < x.number) before less in
    (λ P all. all_middle P before x after all, λ k d lt same. passing k d lt (is_same (slice_index_or before k d).sender n same))
