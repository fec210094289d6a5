-- Counts of entries, lane by lane.
use Rattle.std.proofs.Common.{◌≡◌, ◌∙◌, ◌<◌, ◌+◌, ℕ, zero, suc, Bool, true, false, cond, List, [], ◌∷◌, ◌++◌, length, map, refl, sym, ap, arith}
use Rattle.std.specs.Prelude.{◌==◌, All, sum_by, nat_lt}
use Rattle.std.proofs.lemmas.Bool.Decides.{nat_tests}
use Rattle.std.proofs.lemmas.List.{length-append}
use Rattle.std.proofs.lemmas.List.Elements.{All-head, All-tail}
use Rattle.std.proofs.lemmas.List.Sums.{sum_by-cons, sum_by-append}
use Rattle.spin_report.specs.declared.entry.Entry.{Entry}
use Rattle.spin_report.specs.Segments.{of_lane}
use Rattle.spin_run.specs.Summaries.{Counts, counts_in}
use Rattle.spin_gen_law.proofs.EntryCounts.{Tally}
use Rattle.spin_gen_law.proofs.LaneCounts.{tally_in}

-- ---- a sum by lanes

module _ (f : Entry → ℕ) where
  -- the sum of the first lanes
  lanes_sum : ℕ → List Entry → ℕ
  lanes_sum zero entries = 0
  lanes_sum (suc m) entries = lanes_sum m entries + sum_by f (of_lane m entries)

  lane_more : (m : ℕ) (entry : Entry) (entries : List Entry) → sum_by f (of_lane m (entry ∷ entries)) ≡ cond (entry.lane == m) (f entry) 0 + sum_by f (of_lane m entries)
  lane_more m entry entries = go (entry.lane == m)
    where
      go : (b : Bool) → sum_by f (cond b (entry ∷ of_lane m entries) (of_lane m entries)) ≡ cond b (f entry) 0 + sum_by f (of_lane m entries)
      go true = sum_by-cons f entry (of_lane m entries)
      go false = omega arith

  last_lane : (m lane n : ℕ) → cond (nat_lt lane m) n 0 + cond (lane == m) n 0 ≡ cond (nat_lt lane (suc m)) n 0
  last_lane m lane n = grind (arith, nat_tests)

  lanes_more : (m : ℕ) (entry : Entry) (entries : List Entry) → lanes_sum m (entry ∷ entries) ≡ cond (nat_lt entry.lane m) (f entry) 0 + lanes_sum m entries
  unfolding lanes_sum
  lanes_more zero entry entries =
      let none : nat_lt entry.lane 0 ≡ false = grind (arith, nat_tests) in
      let here : cond (nat_lt entry.lane 0) (f entry) 0 ≡ 0 = ap (λ (b : Bool). cond b (f entry) 0) none in
      omega (arith, here)
  lanes_more (suc m) entry entries =
      let before = lanes_more m entry entries in
      let here = lane_more m entry entries in
      let last = last_lane m entry.lane (f entry) in
      omega (arith, before, here, last)

  none_at : (m : ℕ) → lanes_sum m [] ≡ 0
  unfolding lanes_sum
  none_at zero = refl
  none_at (suc m) = let before = none_at m in omega (arith, before)

  sum_is : (m : ℕ) (entries : List Entry) → All (λ entry. entry.lane < m) entries → sum_by f entries ≡ lanes_sum m entries
  sum_is m [] below = sym (none_at m)
  sum_is m (entry ∷ entries) below =
      let lane = All-head (λ (x : Entry). x.lane < m) entry entries below in
      let rest = sum_is m entries (All-tail (λ (x : Entry). x.lane < m) entry entries below) in
      let among : nat_lt entry.lane m ≡ true = grind (arith, nat_tests, lane) in
      let here : cond (nat_lt entry.lane m) (f entry) 0 ≡ f entry = ap (λ (b : Bool). cond b (f entry) 0) among in
      let more = lanes_more m entry entries in
      let sum = sum_by-cons f entry entries in
      omega (arith, rest, here, more, sum)

  same_lanes : (m : ℕ) (xs ys : List Entry) → ((k : ℕ) → k < m → sum_by f (of_lane k xs) ≡ sum_by f (of_lane k ys)) → lanes_sum m xs ≡ lanes_sum m ys
  unfolding lanes_sum
  same_lanes zero xs ys each = refl
  same_lanes (suc m) xs ys each =
      let before = same_lanes m xs ys (λ k below. each k (omega arith)) in
      let last = each m (omega arith) in
      omega (arith, before, last)

  sum_by_lanes : (m : ℕ) (xs ys : List Entry) → All (λ entry. entry.lane < m) xs → All (λ entry. entry.lane < m) ys
      → ((k : ℕ) → k < m → sum_by f (of_lane k xs) ≡ sum_by f (of_lane k ys)) → sum_by f xs ≡ sum_by f ys
  sum_by_lanes m xs ys h g each = sum_is m xs h ∙ same_lanes m xs ys each ∙ sym (sum_is m ys g)

-- ---- all counts

same_counts : (a b : Counts) → a.entries ≡ b.entries → a.accepted ≡ b.accepted → a.refused ≡ b.refused → a.runs ≡ b.runs → a.sends ≡ b.sends → a ≡ b
same_counts a b entries accepted refused runs sends = λ i. record {
  entries = entries i;
  accepted = accepted i;
  refused = refused i;
  runs = runs i;
  sends = sends i;
}

length_is : (xs : List Entry) → length xs ≡ sum_by (λ entry. 1) xs
length_is [] = refl
length_is (x ∷ xs) = let rest = length_is xs in let sum = sum_by-cons (λ (entry : Entry). 1) x xs in omega (arith, rest, sum)

-- so much is counted in both
abbrev pub HaveSameCounts : List Entry → List Entry → Type 0
HaveSameCounts xs ys = counts_in xs ≡ counts_in ys

-- entries of which each lane's count the same
pub counts_by_lanes : (m : ℕ) (xs ys : List Entry) → All (λ entry. entry.lane < m) xs → All (λ entry. entry.lane < m) ys
    → ((k : ℕ) → k < m → HaveSameCounts (of_lane k xs) (of_lane k ys)) → HaveSameCounts xs ys
counts_by_lanes m xs ys h g each =
    let sums = λ (f : Entry → ℕ) (same : (k : ℕ) → k < m → sum_by f (of_lane k xs) ≡ sum_by f (of_lane k ys)). sum_by_lanes f m xs ys h g same in
    same_counts (counts_in xs) (counts_in ys)
    (length_is xs ∙ sums (λ entry. 1) (λ k below. sym (length_is (of_lane k xs)) ∙ ap (λ (c : Counts). c.entries) (each k below) ∙ length_is (of_lane k ys)) ∙ sym (length_is ys))
    (sums _ (λ k below. ap (λ (c : Counts). c.accepted) (each k below)))
    (sums _ (λ k below. ap (λ (c : Counts). c.refused) (each k below)))
    (sums _ (λ k below. ap (λ (c : Counts). c.runs) (each k below)))
    (sums _ (λ k below. ap (λ (c : Counts). c.sends) (each k below)))

-- entries behind entries
pub counts_joined : (xs xs' ys ys' : List Entry) → HaveSameCounts xs ys → HaveSameCounts xs' ys' → HaveSameCounts (xs ++ xs') (ys ++ ys')
counts_joined xs xs' ys ys' h g =
    same_counts (counts_in (xs ++ xs')) (counts_in (ys ++ ys'))
    (length-append xs xs' ∙ (λ i. (h i).entries + (g i).entries) ∙ sym (length-append ys ys'))
    (sum_by-append _ xs xs' ∙ (λ i. (h i).accepted + (g i).accepted) ∙ sym (sum_by-append _ ys ys'))
    (sum_by-append _ xs xs' ∙ (λ i. (h i).refused + (g i).refused) ∙ sym (sum_by-append _ ys ys'))
    (sum_by-append _ xs xs' ∙ (λ i. (h i).runs + (g i).runs) ∙ sym (sum_by-append _ ys ys'))
    (sum_by-append _ xs xs' ∙ (λ i. (h i).sends + (g i).sends) ∙ sym (sum_by-append _ ys ys'))

sum_mapped : {A B : Type 0} (f : B → ℕ) (g : A → B) (xs : List A) → sum_by f (map g xs) ≡ sum_by (λ x. f (g x)) xs
sum_mapped f g [] = refl
sum_mapped f g (x ∷ xs) =
    let rest = sum_mapped f g xs in
    let one = sum_by-cons f (g x) (map g xs) in
    let two = sum_by-cons (λ y. f (g y)) x xs in
    omega (arith, rest, one, two)

-- counts hang on what is counted of each entry in turn
pub counts_of_tallies : (xs ys : List Entry) → map tally_in xs ≡ map tally_in ys → HaveSameCounts xs ys
counts_of_tallies xs ys same =
    let sums = λ (f : Tally → ℕ). sym (sum_mapped f tally_in xs) ∙ ap (sum_by f) same ∙ sum_mapped f tally_in ys in
    same_counts (counts_in xs) (counts_in ys)
    (length_is xs ∙ sums (λ t. 1) ∙ sym (length_is ys))
    (sums (λ t. t.accepted))
    (sums (λ t. t.refused))
    (sums (λ t. t.runs))
    (sums (λ t. t.sends))
