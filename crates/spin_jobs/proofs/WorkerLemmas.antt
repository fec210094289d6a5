-- A worker in the middle of its run.
use Rattle.std.proofs.Common.{◌≡◌, ◌∙◌, ℕ, suc, ◌<◌, List, [], ◌∷◌, ◌++◌, All, sym, ap, subst, arith}
use Rattle.std.proofs.lemmas.List.{map-append}
use Rattle.std.proofs.lemmas.List.Elements.{All-nil, All-cons, All-push}
use Rattle.spin_jobs.specs.declared.claim.Claim.{Claim}
use Rattle.spin_jobs.specs.declared.worker.Done.{Done}
use Rattle.spin_jobs.specs.declared.worker.Worker.{Worker}
use Rattle.spin_jobs.specs.Claims.{Took, worker}
use Rattle.spin_jobs.specs.Inner.Numbered.{Outcomes}
use Rattle.spin_jobs.specs.Inner.Workers.{IsRight, StandsForOne, numbers}

-- it has claimed the numbers of what it did, and then this one
pub record Works (may : Outcomes) (count : ℕ) (w : Worker) (number : ℕ) : Type 0 where
  pub seat : StandsForOne w.seat
  pub right : All (IsRight may count) w.done.items
  pub claimed : w.seat.me.0.claimed ≡ numbers w.done.items ++ number ∷ []

-- the numbers of what was done rightly are all of jobs
pub numbers_right : (may : Outcomes) (count : ℕ) (done : List Done) → All (IsRight may count) done → All (λ x. x < count) (numbers done)
numbers_right may count [] h = All-nil (λ x. x < count)
numbers_right may count (d ∷ ds) h = All-cons (λ x. x < count) d.number (numbers ds) ((h 0 d (omega arith)).0) (numbers_right may count ds (λ k e lt. h (suc k) e (omega arith)))

pub numbers_push : (done : List Done) (d : Done) → numbers (done ++ d ∷ []) ≡ numbers done ++ d.number ∷ []
numbers_push done d = map-append (λ e. e.number) done (d ∷ [])

pub last_of_all : (P : ℕ → Type 0) (xs : List ℕ) (n : ℕ) → All P (xs ++ n ∷ []) → P n
last_of_all P [] n h = h 0 n (omega arith)
last_of_all P (x ∷ xs) n h = last_of_all P xs n (λ k d lt. h (suc k) d (omega arith))

-- where its last number is a job's, all its numbers are
pub all_of_jobs : (may : Outcomes) (count : ℕ) (w : Worker) (number : ℕ) → Works may count w number → number < count → All (λ x. x < count) w.seat.me.0.claimed
all_of_jobs may count w number k lt =
    subst (All (λ x. x < count)) (sym k.claimed) (All-push (λ x. x < count) (numbers w.done.items) number (numbers_right may count w.done.items k.right) lt)

-- its next number is greater
pub rises : (may : Outcomes) (count : ℕ) (w : Worker) (number next : ℕ) (after : Claim) → Works may count w number → Took w.seat.me.0 next after → number < next
rises may count w number next after k t = last_of_all (λ x. x < next) (numbers w.done.items) number (subst (All (λ x. x < next)) k.claimed t.1)

-- it has claimed its first number
pub works_first : (may : Outcomes) (count : ℕ) (w w' : Worker) (next : ℕ) → w.seat.me.0 ≡ worker → w.seat.me.1 ≡ [] → w.done.items ≡ []
    → w'.done.items ≡ w.done.items → w'.seat.me.1 ≡ w.seat.me.1 → Took w.seat.me.0 next w'.seat.me.0 → Works may count w' next
works_first may count w w' next new alone none same slots t = record {
  seat = (slots ∙ alone, ap (λ (v : Claim). v.workers) (t.0) ∙ ap (λ (v : Claim). v.workers) new, ap (λ (v : Claim). v.room) (t.0) ∙ ap (λ (v : Claim). v.room) new);
  right = subst (All (IsRight may count)) (sym (same ∙ none)) (All-nil (IsRight may count));
  claimed = ap (λ (v : Claim). v.claimed) (t.0) ∙ ap (λ (v : Claim). v.claimed ++ next ∷ []) new ∙ sym (ap (λ ds. numbers ds ++ next ∷ []) (same ∙ none));
}

-- it has done what it claimed last, and claimed the next number
pub works_on : (may : Outcomes) (count : ℕ) (w w' : Worker) (d : Done) (next : ℕ) → Works may count w d.number → IsRight may count d
    → w'.done.items ≡ w.done.items ++ d ∷ [] → w'.seat.me.1 ≡ w.seat.me.1 → Took w.seat.me.0 next w'.seat.me.0 → Works may count w' next
works_on may count w w' d next k right items slots t = record {
  seat = (slots ∙ k.seat.0, ap (λ (v : Claim). v.workers) (t.0) ∙ k.seat.1, ap (λ (v : Claim). v.room) (t.0) ∙ k.seat.2);
  right = subst (All (IsRight may count)) (sym items) (All-push (IsRight may count) w.done.items d k.right right);
  claimed = ap (λ (v : Claim). v.claimed) (t.0) ∙ ap (λ xs. xs ++ next ∷ []) (k.claimed ∙ sym (numbers_push w.done.items d)) ∙ sym (ap (λ ds. numbers ds ++ next ∷ []) items);
}
