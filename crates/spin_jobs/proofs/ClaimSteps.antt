-- Each step keeps the rule of the claim word.
use Rattle.std.proofs.Common.{◌≡◌, ◌≢◌, ◌==◌, ◌⊎◌, ℕ, zero, suc, ◌+◌, ◌-◌, ◌%◌, ◌^◌, ◌<◌, ◌≤◌, Bool, List, [], ◌∷◌, ◌++◌, set, take, length, All, not}
use Rattle.std.proofs.Common.{if◌then◌else◌, slice_index, slice_set, nat_lt, refl, sym, ap, subst, ◌∙◌, inl, inr, ⊎_elim, arith, length-append, append-nil}
use Rattle.std.proofs.lemmas.Bool.Decides.{nat_tests}
use Rattle.std.proofs.lemmas.List.Elements.{All-nil, All-cons}
use Rattle.std.proofs.lemmas.List.Sums.{sum_by-cons, sum_by-append, sum_by_push}
use Rattle.std.proofs.Math.Nat.{mod-eq_of_lt}
use Rattle.std.proofs.Math.Seq.{take-append_seam}
use Rattle.std.proofs.lemmas.Bool.{cases_lt}
use Rattle.std.proofs.lemmas.List.{length-set}
use mathlib.Core.Option.{some, some-injective, some-ne-none}
use lib.ListN.{get_elem?}
use Rattle.atomic_table.proofs.Lists.{at_set, at_snoc, set_else}
use Rattle.spin_jobs.specs.declared.claim.Claim.{Claim}
use Rattle.spin_jobs.specs.declared.claim.TheConstants.{MAX_WORKERS}
use Rattle.spin_jobs.specs.Claims.{times, once_below, idle, claim, caller, worker, with_less_room, together, spent, Fits, Kept}
use Rattle.spin_jobs.proofs.ViewSums.{total_set, part-le-total, total-le-total, total_alone}

-- numbers alone

abbrev one_if : Bool → ℕ
one_if b = if b then 1 else 0

times_push : (x n : ℕ) (xs : List ℕ) → times x (xs ++ n ∷ []) ≡ times x xs + one_if (n == x)
times_push x n xs = sum_by_push (λ y. one_if (y == x)) xs n

once_more : (x n : ℕ) → once_below x (n + 1) ≡ once_below x n + one_if (n == x)
once_more x n = grind (arith, nat_tests)

idle_push : (jobs n : ℕ) (xs : List ℕ) → idle jobs (xs ++ n ∷ []) ≡ idle jobs xs + one_if (not (nat_lt n jobs))
idle_push jobs n xs = sum_by_push (λ y. one_if (not (nat_lt y jobs))) xs n

idle_one : (jobs n : ℕ) → (one_if (not (nat_lt n jobs)) ≤ 1) × (jobs ≤ n → one_if (not (nat_lt n jobs)) ≡ 1)
idle_one jobs n = (grind (arith, nat_tests), λ h. grind (arith, nat_tests))

idle_none : (jobs : ℕ) (xs : List ℕ) → All (λ x. x < jobs) xs → idle jobs xs ≡ 0
idle_none jobs [] h = refl
idle_none jobs (x ∷ xs) h =
    let here : x < jobs = h 0 x (omega arith) in
    let rest = idle_none jobs xs (λ k d lt. h (suc k) d (omega arith)) in
    let none : one_if (not (nat_lt x jobs)) ≡ 0 = grind (arith, nat_tests) in
    omega (arith, sum_by-cons (λ y. one_if (not (nat_lt y jobs))) x xs)

-- what stands in a list and only below n
all_below : (n : ℕ) (xs : List ℕ) → ((x : ℕ) → 0 < times x xs → x < n) → All (λ x. x < n) xs
all_below n [] h = All-nil (λ x. x < n)
all_below n (x ∷ xs) h =
    let cut = λ (y : ℕ). sum_by-cons (λ z. one_if (z == y)) x xs in
    let self : one_if (x == x) ≡ 1 = grind (arith, nat_tests) in
    All-cons (λ y. y < n) x xs (h x (omega (arith, cut x))) (all_below n xs (λ y there. h y (omega (arith, cut y))))

front_push : (xs : List ℕ) (n : ℕ) → take (length (xs ++ n ∷ []) - 1) (xs ++ n ∷ []) ≡ xs
front_push xs n =
    let long : length (xs ++ n ∷ []) - 1 ≡ length xs = omega (arith, length-append xs (n ∷ [])) in
    rw long (take-append_seam xs (n ∷ []))

one_is_none : (p q : ℕ) → p + q ≡ 1 → (p ≡ 0) ⊎ (q ≡ 0)
one_is_none zero q e = inl refl
one_is_none (suc p) q e = inr (omega arith)

-- one view changes

fits_set : (jobs id : ℕ) (views : List Claim) (w : Claim) → Fits jobs w → ((seat : ℕ) (v : Claim) → get_elem? views seat ≡ some v → Fits jobs v)
    → (seat : ℕ) (v : Claim) → get_elem? (set views id w) seat ≡ some v → Fits jobs v
fits_set jobs id views w f h seat v e =
    ⊎_elim (λ (t : (seat ≡ id) × (w ≡ v)). subst (Fits jobs) t.1 f) (λ (t : (seat ≢ id) × (get_elem? views seat ≡ some v)). h seat v t.1) (at_set views id seat w v e)

fits_worker : (jobs : ℕ) → Fits jobs worker
fits_worker jobs = record { none = λ e. refl; idles = omega arith; last = λ e. All-nil (λ x. x < jobs) }

-- the start

pub opens : (jobs : ℕ) → Kept jobs (0 ∷ []) (caller ∷ [])
opens jobs = record {
  one_word = refl;
  once = λ x. grind (arith, nat_tests);
  bound = omega arith;
  team = refl;
  fits = λ seat v e. let nil : List Claim = [] in ⊎_elim (λ (none : get_elem? nil seat ≡ some v). absurd (some-ne-none v (sym none)))
      (λ (same : caller ≡ v). subst (Fits jobs) same (record { none = λ _. refl; idles = omega arith; last = λ one. absurd (omega arith) })) (at_snoc [] caller v seat e);
}

-- the word is past the number of jobs by at most the number of workers
pub small : (jobs : ℕ) (words : List ℕ) (views : List Claim) → Kept jobs words views → slice_index words 0 ≤ jobs + MAX_WORKERS
small jobs words views k =
    let few = total-le-total (λ v. idle jobs v.claimed) (λ v. v.workers + v.room) views (λ i v e. let f = (k.fits i v e).idles in omega arith) in
    omega (arith, k.bound, k.team)

at_zero : (words : List ℕ) (n : ℕ) → length words ≡ 1 → slice_index (slice_set words 0 n) 0 ≡ n
at_zero [] n e = absurd (omega arith)
at_zero (x ∷ xs) n e = refl

took : ℕ → Claim → Claim
took n v = claim v.workers v.room (v.claimed ++ n ∷ [])

-- what a worker has claimed is below the word
pub below_word : (jobs id : ℕ) (v : Claim) (words : List ℕ) (views : List Claim) → Kept jobs words views → get_elem? views id ≡ some v → All (λ x. x < slice_index words 0) v.claimed
below_word jobs id v words views k at = all_below (slice_index words 0) v.claimed (λ x there.
    let part = part-le-total (λ w. times x w.claimed) views id v at in
    let once = k.once x in
    let under : 0 < once_below x (slice_index words 0) → x < slice_index words 0 = λ h. grind (arith, nat_tests) in
    under (omega arith))

-- a worker whose numbers are all of jobs takes one more
pub claims : (jobs id : ℕ) (v : Claim) → v.workers ≡ 1 → All (λ x. x < jobs) v.claimed → jobs < 2 ^ 32 → (words : List ℕ) (views : List Claim) → Kept jobs words views → get_elem? views id ≡ some v
    → Kept jobs (slice_set words 0 ((slice_index words 0 + 1) % 2 ^ 64)) (slice_set views id (claim v.workers v.room (v.claimed ++ slice_index words 0 ∷ [])))
claims jobs id v one mine few words views k at =
    let n : ℕ = slice_index words 0 in
    let w : Claim = claim v.workers v.room (v.claimed ++ n ∷ []) in
    let low : n ≤ jobs + MAX_WORKERS = small jobs words views k in
    let next : (n + 1) % 2 ^ 64 ≡ n + 1 = mod-eq_of_lt (omega arith) in
    let here : slice_index (slice_set words 0 ((n + 1) % 2 ^ 64)) 0 ≡ n + 1 = at_zero words ((n + 1) % 2 ^ 64) k.one_word ∙ next in
    let idles_none = idle_none jobs v.claimed mine in
    let idles_more = idle_push jobs n v.claimed in
    let idles_one = idle_one jobs n in
    record {
      one_word = simp length-set k.one_word;
      once = λ x. rw here (let t = total_set (λ u. times x u.claimed) views id v w at in let p = times_push x n v.claimed in let o = k.once x in let m = once_more x n in omega arith);
      bound = rw here (let t = total_set (λ u. idle jobs u.claimed) views id v w at in let b = k.bound in
          ⊎_elim (λ (h : n < jobs). omega arith) (λ (h : jobs ≤ n). let i = idles_one.1 h in omega arith) (cases_lt n jobs));
      team = let t = total_set (λ u. u.workers + u.room) views id v w at in omega (arith, k.team);
      fits = fits_set jobs id views w (record {
        none = λ zero_workers. absurd (omega arith);
        idles = omega arith;
        last = λ _. let same : take (length (v.claimed ++ n ∷ []) - 1) (v.claimed ++ n ∷ []) ≡ v.claimed = front_push v.claimed n in rw same mine;
      }) k.fits;
    }

-- a worker is split off where there is room
pub splits : (jobs id : ℕ) (v : Claim) → 0 < v.room → (words : List ℕ) (views : List Claim) → Kept jobs words views → get_elem? views id ≡ some v
    → Kept jobs words (slice_set views id (with_less_room v) ++ worker ∷ [])
splits jobs id v room words views k at =
    let w : Claim = with_less_room v in
    let rest : List Claim = set views id w in
    record {
      one_word = k.one_word;
      once = λ x. let t = total_set (λ u. times x u.claimed) views id v w at in let p = sum_by_push (λ u. times x u.claimed) rest worker in let o = k.once x in omega arith;
      bound = let t = total_set (λ u. idle jobs u.claimed) views id v w at in let p = sum_by_push (λ u. idle jobs u.claimed) rest worker in let b = k.bound in omega arith;
      team = let t = total_set (λ u. u.workers + u.room) views id v w at in let p = sum_by_push (λ u. u.workers + u.room) rest worker in omega (arith, k.team);
      fits = λ seat u e. ⊎_elim
          (λ (old : get_elem? rest seat ≡ some u). let f = k.fits id v at in fits_set jobs id views w (record { none = f.none; idles = f.idles; last = f.last }) k.fits seat u old)
          (λ (same : worker ≡ u). subst (Fits jobs) same (fits_worker jobs))
          (at_snoc rest worker u seat e);
    }

last_of_two : (jobs p q : ℕ) (xs ys : List ℕ) → (p ≡ 0 → xs ≡ []) → (q ≡ 0 → ys ≡ [])
    → (p ≡ 1 → All (λ x. x < jobs) (take (length xs - 1) xs)) → (q ≡ 1 → All (λ x. x < jobs) (take (length ys - 1) ys))
    → p + q ≡ 1 → All (λ x. x < jobs) (take (length (xs ++ ys) - 1) (xs ++ ys))
last_of_two jobs p q xs ys no_p no_q in_p in_q one =
    let Front : List ℕ → Type 0 = λ zs. All (λ x. x < jobs) (take (length zs - 1) zs) in
    ⊎_elim
    (λ (h : p ≡ 0). let e : xs ++ ys ≡ ys = ap (λ (l : List ℕ). l ++ ys) (no_p h) in subst Front (sym e) (in_q (omega arith)))
    (λ (h : q ≡ 0). let e : xs ++ ys ≡ xs = ap (λ (l : List ℕ). xs ++ l) (no_q h) ∙ append-nil xs in subst Front (sym e) (in_p (omega arith)))
    (one_is_none p q one)

fits_together : (jobs : ℕ) (v w : Claim) → Fits jobs v → Fits jobs w → Fits jobs (together v w)
fits_together jobs v w f g = record {
  none = λ e. ap (λ (l : List ℕ). l ++ w.claimed) (f.none (omega arith)) ∙ g.none (omega arith);
  idles = let a = sum_by-append (λ y. one_if (not (nat_lt y jobs))) v.claimed w.claimed in omega (arith, f.idles, g.idles);
  last = last_of_two jobs v.workers w.workers v.claimed w.claimed f.none g.none f.last g.last;
}

-- a worker's numbers go over to the caller
pub joins : (jobs id : ℕ) (v : Claim) (other : ℕ) (w : Claim) (words : List ℕ) (views : List Claim) → Kept jobs words views
    → get_elem? views id ≡ some v → other ≢ id → get_elem? (slice_set views id (together v w)) other ≡ some w
    → Kept jobs words (slice_set (slice_set views id (together v w)) other spent)
joins jobs id v other w words views k at apart there =
    let b : Claim = together v w in
    let mid : List Claim = set views id b in
    let was : get_elem? views other ≡ some w = sym (set_else views id other b apart) ∙ there in
    record {
      one_word = k.one_word;
      once = λ x.
          let t = total_set (λ u. times x u.claimed) views id v b at in let r = total_set (λ u. times x u.claimed) mid other w spent there in
          let a = sum_by-append (λ y. one_if (y == x)) v.claimed w.claimed in let o = k.once x in omega arith;
      bound =
          let t = total_set (λ u. idle jobs u.claimed) views id v b at in let r = total_set (λ u. idle jobs u.claimed) mid other w spent there in
          let a = sum_by-append (λ y. one_if (not (nat_lt y jobs))) v.claimed w.claimed in let o = k.bound in omega arith;
      team =
          let t = total_set (λ u. u.workers + u.room) views id v b at in let r = total_set (λ u. u.workers + u.room) mid other w spent there in
          omega (arith, k.team);
      fits = fits_set jobs other mid spent (record { none = λ _. refl; idles = omega arith; last = λ one. absurd (omega arith) })
          (fits_set jobs id views b (fits_together jobs v w (k.fits id v at) (k.fits other w was)) k.fits);
    }

-- who stands for the whole team knows every number that was claimed
pub learns : (jobs id : ℕ) (v : Claim) → v.workers + v.room ≡ MAX_WORKERS → (words : List ℕ) (views : List Claim)
    → Kept jobs words views → get_elem? views id ≡ some v → (x : ℕ) → times x v.claimed ≡ once_below x (slice_index words 0)
learns jobs id v whole words views k at x =
    sym (total_alone (λ u. times x u.claimed) (λ u. u.workers + u.room) views id v at (λ j w there none. ap (times x) ((k.fits j w there).none (omega arith))) (k.team ∙ sym whole)) ∙ k.once x

pub first_word : (words : List ℕ) (n : ℕ) → get_elem? words 0 ≡ some n → slice_index words 0 ≡ n
first_word [] n e = absurd (some-ne-none n (sym e))
first_word (x ∷ xs) n e = some-injective x n e
