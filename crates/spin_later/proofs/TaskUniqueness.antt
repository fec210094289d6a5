-- Each task that was sent was taken once, or is left once, as it was sent.
use Rattle.std.proofs.Common.{◌≡◌, ◌≢◌, ◌==◌, ℕ, zero, suc, ◌+◌, ◌<◌, ◌≤◌, Bool, true, false, cond, List, [], ◌∷◌, ◌++◌, length, get_or, true≢false, refl, sym, ap, subst, ◌∙◌, arith, inl, inr}
use Rattle.std.specs.Prelude.{All, Contains, Some, filter, slice_get, count_by, ◌&&◌}
use Rattle.std.specs.List.{sum_by}
use Rattle.std.proofs.lemmas.Bool.{cases_eq}
use Rattle.std.proofs.lemmas.Bool.Decides.{nat_tests}
use Rattle.std.proofs.lemmas.List.Elements.{All-nil, All-cons, All-head, All-tail}
use Rattle.std.proofs.lemmas.List.Sums.{sum_by-cons, sum_by-append}
use Rattle.spin_later.specs.declared.task.Task.{Task}
use Rattle.spin_later.specs.declared.known.Hand.{Hand}
use Rattle.spin_later.specs.History.{Take, sent_by, tasks_of, taken_by, AreNumbered, IsHistory, StandsIn, Happened}
use Rattle.spin_later.specs.Laws.{is_task, times, AreTeam, TakenOrLeftOnce, IsAsSent, TasksAreAsSent}
use Rattle.spin_later.proofs.TaskFilters.{is_same, is_other, all_taken}

-- 1 where it is so, and else 0
abbrev one_if : Bool → ℕ
one_if b = cond b 1 0

module _ {X : Type 0} where
  sum_both : (f g : X → ℕ) (xs : List X) → sum_by (λ x. f x + g x) xs ≡ sum_by f xs + sum_by g xs
  sum_both f g [] = refl
  sum_both f g (x ∷ xs) = omega (arith, sum_by-cons (λ y. f y + g y) x xs, sum_by-cons f x xs, sum_by-cons g x xs, sum_both f g xs)

  sum_zero : (xs : List X) → sum_by (λ (x : X). 0) xs ≡ 0
  sum_zero [] = refl
  sum_zero (x ∷ xs) = omega (arith, sum_by-cons (λ (y : X). 0) x xs, sum_zero xs)

  -- where one of them passes, that one adds its part
  sum_one : (p : X → Bool) (b : Bool) (xs : List X) → count_by p xs ≡ 1 → sum_by (λ x. cond (p x) (one_if b) 0) xs ≡ one_if b
  sum_one p true xs one = one
  sum_one p false xs one = ap (λ f. sum_by f xs) (λ i x. nothing (p x) i) ∙ sum_zero xs where
    nothing : (b : Bool) → cond {A = ℕ} b 0 0 ≡ 0
    nothing true = refl
    nothing false = refl

  -- of those that pass both tests
  count_both : (f g : X → Bool) (xs : List X) → count_by (λ x. f x && g x) xs ≡ count_by g (filter f xs)
  count_both f g [] = refl
  count_both f g (x ∷ xs) = sum_by-cons (λ y. one_if (f y && g y)) x xs ∙ step (f x) (count_both f g xs) where
    step : (b : Bool) → count_by (λ y. f y && g y) xs ≡ count_by g (filter f xs) → one_if (b && g x) + count_by (λ y. f y && g y) xs ≡ count_by g (cond b (x ∷ filter f xs) (filter f xs))
    step true rest = ap (λ n. one_if (g x) + n) rest ∙ sym (sum_by-cons (λ y. one_if (g y)) x (filter f xs))
    step false rest = omega (arith, rest)

  sum_same : (f g : X → ℕ) (xs : List X) → All (λ x. f x ≡ g x) xs → sum_by f xs ≡ sum_by g xs
  sum_same f g [] h = refl
  sum_same f g (x ∷ xs) h = omega (arith, sum_by-cons f x xs, sum_by-cons g x xs, All-head (λ y. f y ≡ g y) x xs h, sum_same f g xs (All-tail (λ y. f y ≡ g y) x xs h))

-- ---- numbers

-- the tasks have the numbers from n on
abbrev AreFrom : ℕ → List Task → Type 0
AreFrom n ts = (j : ℕ) (t : Task) → slice_get ts j ≡ Some t → t.number ≡ n + j

from_rest : (n : ℕ) (t : Task) (ts : List Task) → AreFrom n (t ∷ ts) → AreFrom (n + 1) ts
from_rest n t ts h j u at = let is = h (suc j) u at in omega (arith, is)

none_before : (k n : ℕ) (ts : List Task) → AreFrom n ts → k < n → count_by (λ t. t.number == k) ts ≡ 0
none_before k n [] h lt = refl
none_before k n (t ∷ ts) h lt =
    let is = h 0 t refl in
    let other : (t.number == k) ≡ false = is_other t.number k (λ same. absurd (omega (arith, is, same, lt))) in
    let here : one_if (t.number == k) ≡ 0 = ap one_if other in
    omega (arith, sum_by-cons (λ (u : Task). one_if (u.number == k)) t ts, here, none_before k (n + 1) ts (from_rest n t ts h) (omega (arith, lt)))

one_there : (k n : ℕ) (ts : List Task) → AreFrom n ts → n ≤ k → k < n + length ts → count_by (λ t. t.number == k) ts ≡ 1
one_there k n [] h low high = absurd (omega (arith, low, high))
one_there k n (t ∷ ts) h low high =
    let is = h 0 t refl in
    elim (cases_eq t.number k) [
      | inl same ↦
          let here : one_if (t.number == k) ≡ 1 = ap one_if (is_same t.number k same) in
          omega (arith, sum_by-cons (λ (u : Task). one_if (u.number == k)) t ts, here, none_before k (n + 1) ts (from_rest n t ts h) (omega (arith, is, same)))
      | inr other ↦
          let here : one_if (t.number == k) ≡ 0 = ap one_if (is_other t.number k other) in
          let past : n + 1 ≤ k = past_it is other low in
          omega (arith, sum_by-cons (λ (u : Task). one_if (u.number == k)) t ts, here, one_there k (n + 1) ts (from_rest n t ts h) past (omega (arith, high)))
    ]
  where
    past_it : t.number ≡ n + 0 → t.number ≢ k → n ≤ k → n + 1 ≤ k
    past_it is other low = elim (cases_eq n k) [
      | inl same ↦ absurd (other (is ∙ omega (arith, same)))
      | inr apart ↦ grind (arith, nat_tests, apart, low)
    ]

-- ---- takes

taken_more : (f : Task → Bool) (n : ℕ) (t : Take) (takes : List Take) → count_by f (taken_by n (t ∷ takes)) ≡ cond (t.party == n) (one_if (f t.task)) 0 + count_by f (taken_by n takes)
taken_more f n t takes = go (t.party == n) where
  go : (b : Bool)
      → count_by f (tasks_of (cond b (t ∷ filter (λ (u : Take). u.party == n) takes) (filter (λ (u : Take). u.party == n) takes))) ≡ cond b (one_if (f t.task)) 0 + count_by f (taken_by n takes)
  go true = sum_by-cons (λ (u : Task). one_if (f u)) t.task (taken_by n takes)
  go false = omega arith

-- what all parties took is what was taken
all_took : (parties : ℕ) (hands : List Hand) (f : Task → Bool) → AreTeam parties hands → (takes : List Take) → All (λ t. t.party < parties) takes
    → sum_by (λ own. count_by f (taken_by own.number takes)) hands ≡ count_by f (tasks_of takes)
all_took parties hands f team [] below = sum_zero hands
all_took parties hands f team (t ∷ takes) below =
    let here : count_by (λ (h : Hand). t.party == h.number) hands ≡ 1 = team t.party (All-head (λ (u : Take). u.party < parties) t takes below) in
    let rest = all_took parties hands f team takes (All-tail (λ (u : Take). u.party < parties) t takes below) in
    let split : sum_by (λ (own : Hand). count_by f (taken_by own.number (t ∷ takes))) hands
    ≡ sum_by (λ (own : Hand). cond (t.party == own.number) (one_if (f t.task)) 0 + count_by f (taken_by own.number takes)) hands =
    ap (λ (g : Hand → ℕ). sum_by g hands) (λ i own. taken_more f own.number t takes i) in
    let both = sum_both (λ (own : Hand). cond (t.party == own.number) (one_if (f t.task)) 0) (λ own. count_by f (taken_by own.number takes)) hands in
    let one = sum_one (λ (own : Hand). t.party == own.number) (f t.task) hands here in
    split ∙ both ∙ (λ i. one i + rest i) ∙ sym (sum_by-cons (λ (u : Task). one_if (f u)) t.task (tasks_of takes))

pub taken_or_left : TakenOrLeftOnce
taken_or_left parties hands left team w h there k lt =
    let puts = w.0 in
    let takes = w.1 in
    let history = w.2 in
    let n = h.number in
    let own : StandsIn puts takes h = subst (StandsIn puts takes) there.2 (w.3 there.0 h there.1) in
    let took : sum_by (λ (g : Hand). times n k g.taken) hands ≡ sum_by (λ (g : Hand). times n k (taken_by g.number takes)) hands =
    sum_same (λ (g : Hand). times n k g.taken) (λ g. times n k (taken_by g.number takes)) hands (λ j d at. ap (times n k) (w.3 j d at).taken) in
    let all = all_took parties hands (is_task n k) team takes history.takers in
    let order : times n k puts ≡ times n k (tasks_of takes) + times n k left = ap (times n k) history.order ∙ sum_by-append (λ (t : Task). one_if (is_task n k t)) (tasks_of takes) left in
    let sent = ap length own.sent in
    let once : times n k puts ≡ 1 =
    count_both (λ (t : Task). t.sender == n) (λ t. t.number == k) puts ∙ one_there k 0 (sent_by n puts) (λ j t at. history.numbered n j t at ∙ omega arith) (omega arith) (omega (arith, sent, lt)) in
    omega (arith, took, all, order, once)

-- ---- as it was sent

module _ {X : Type 0} where
  -- what passes a test stands among what passes it
  passes_there : (p : X → Bool) (xs : List X) → All (λ x. p x ≡ true → (i : ℕ) × (slice_get (filter p xs) i ≡ Some x)) xs
  passes_there p [] = All-nil (λ x. p x ≡ true → (i : ℕ) × (slice_get (filter p []) i ≡ Some x))
  passes_there p (x ∷ xs) = go (p x) refl (passes_there p xs) where
    go : (b : Bool) → p x ≡ b → All (λ y. p y ≡ true → (i : ℕ) × (slice_get (filter p xs) i ≡ Some y)) xs
        → All (λ y. p y ≡ true → (i : ℕ) × (slice_get (cond b (x ∷ filter p xs) (filter p xs)) i ≡ Some y)) (x ∷ xs)
    go true is rest =
        All-cons (λ y. p y ≡ true → (i : ℕ) × (slice_get (x ∷ filter p xs) i ≡ Some y)) x xs (λ _. (0, refl)) (λ k d lt yes. let at = rest k d lt yes in (suc at.0, at.1))
    go false is rest =
        All-cons (λ y. p y ≡ true → (i : ℕ) × (slice_get (filter p xs) i ≡ Some y)) x xs (λ yes. absurd (true≢false (sym yes ∙ is))) rest

  front_all : (P : X → Type 0) (xs ys : List X) → All P (xs ++ ys) → All P xs
  front_all P [] ys h = All-nil P
  front_all P (x ∷ xs) ys h = All-cons P x xs (All-head P x (xs ++ ys) h) (front_all P xs ys (All-tail P x (xs ++ ys) h))

  behind_all : (P : X → Type 0) (xs ys : List X) → All P (xs ++ ys) → All P ys
  behind_all P [] ys h = h
  behind_all P (x ∷ xs) ys h = behind_all P xs ys (All-tail P x (xs ++ ys) h)

-- each task that was put stands under its number among those of its sender
put_there : (puts : List Task) → ((n : ℕ) → AreNumbered (sent_by n puts)) → All (λ t. slice_get (sent_by t.sender puts) t.number ≡ Some t) puts
put_there puts numbered k d lt =
    let t = get_or puts k d in
    let at = passes_there (λ (u : Task). u.sender == t.sender) puts k d lt (is_same t.sender t.sender refl) in
    subst (λ i. slice_get (sent_by t.sender puts) i ≡ Some t) (sym (numbered t.sender at.0 t at.1)) at.1

pub as_sent : TasksAreAsSent
as_sent parties hands left w =
    let puts = w.0 in
    let takes = w.1 in
    let history = w.2 in
    let P : Task → Type 0 = λ t. slice_get (sent_by t.sender puts) t.number ≡ Some t in
    let all : All P (tasks_of takes ++ left) = subst (All P) history.order (put_there puts history.numbered) in
    let own : (t : Task) → P t → IsAsSent hands t = λ t is j d lt same. ap (λ l. slice_get l t.number) ((w.3 j d lt).sent ∙ ap (λ n. sent_by n puts) same) ∙ is in
    let took = front_all P (tasks_of takes) left all in
    let of_left = behind_all P (tasks_of takes) left all in (
      λ j d lt. subst (All (IsAsSent hands)) (sym (w.3 j d lt).taken) (λ k e at. own _ (all_taken P (get_or hands j d).number takes took k e at)),
      λ k e at. own _ (of_left k e at),
    )
