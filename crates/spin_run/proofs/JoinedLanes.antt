-- The lists of all lanes as one: joined, and then sorted by a stable sort.
use Rattle.std.proofs.Common.{◌≡◌, ◌==◌, ℕ, zero, suc, ◌+◌, ◌<◌, ◌≤◌, Bool, true, false, cond, List, [], ◌∷◌, ◌++◌, length, get_or, refl, sym, ap, ◌∙◌, subst, arith}
use Rattle.std.specs.Prelude.{All, filter}
use Rattle.std.specs.Cmp.{IsStrictWeakOrder}
use Rattle.std.specs.List.{flat_map}
use Rattle.std.specs.List.Sorted.{IsSortedBy, IsStableBy, IsPermutation, ties}
use Rattle.std.proofs.lemmas.Bool.{ne_eqb, eq-eqb}
use Rattle.std.proofs.lemmas.List.{append-nil}
use Rattle.std.proofs.lemmas.List.Sorted.{All-permutation}
use Rattle.std.proofs.lemmas.List.Elements.{All-head, All-tail, All-weaker, All-nil, All-append, filter-append}
use Rattle.spin_run.specs.Inner.Weaves.{AreOfTheirLanes, IsInterleaving}
use Rattle.spin_run.proofs.SortedLists.{Rising-filter, rising_from_sorted, same_in_order, filter_swap}

filter_all : {X : Type 0} (p : X → Bool) (xs : List X) → All (λ x. p x ≡ true) xs → filter p xs ≡ xs
filter_all p [] all = refl
filter_all p (x ∷ xs) all =
    ap (λ b. cond b (x ∷ filter p xs) (filter p xs)) (All-head (λ x. p x ≡ true) x xs all) ∙ ap (λ l. x ∷ l) (filter_all p xs (All-tail (λ x. p x ≡ true) x xs all))

filter_nothing : {X : Type 0} (p : X → Bool) (xs : List X) → All (λ x. p x ≡ false) xs → filter p xs ≡ []
filter_nothing p [] all = refl
filter_nothing p (x ∷ xs) all =
    ap (λ b. cond b (x ∷ filter p xs) (filter p xs)) (All-head (λ x. p x ≡ false) x xs all) ∙ filter_nothing p xs (All-tail (λ x. p x ≡ false) x xs all)

module _ {X : Type 0} (lane : X → ℕ) where
  -- the lists of the lanes from this one on
  abbrev AreFrom : ℕ → List (List X) → Type 0
  AreFrom first lists = (k : ℕ) (d : List X) → k < length lists → All (λ x. lane x ≡ first + k) (get_or lists k d)

  later_lanes : (first : ℕ) (t : List X) (ts : List (List X)) → AreFrom first (t ∷ ts) → AreFrom (first + 1) ts
  later_lanes first t ts are k d lt = All-weaker (λ x. lane x ≡ first + suc k) (λ x. lane x ≡ first + 1 + k) (λ x same. omega arith) (get_or ts k d) (are (suc k) d (omega arith))

  first_lane : (first : ℕ) (t : List X) (ts : List (List X)) → AreFrom first (t ∷ ts) → All (λ x. lane x ≡ first) t
  first_lane first t ts are = All-weaker (λ x. lane x ≡ first + 0) (λ x. lane x ≡ first) (λ x same. omega arith) t (are 0 [] (omega arith))

  lanes_joined : (first : ℕ) (lists : List (List X)) → AreFrom first lists → All (λ x. (first ≤ lane x) × (lane x < first + length lists)) (flat_map (λ t. t) lists)
  lanes_joined first [] are = All-nil (λ x. (first ≤ lane x) × (lane x < first + 0))
  lanes_joined first (t ∷ ts) are =
      All-append (λ x. (first ≤ lane x) × (lane x < first + length (t ∷ ts))) t (flat_map (λ t. t) ts)
      (All-weaker (λ x. lane x ≡ first) (λ x. (first ≤ lane x) × (lane x < first + length (t ∷ ts))) (λ x same. (omega arith, omega arith)) t (first_lane first t ts are))
      (All-weaker (λ x. (first + 1 ≤ lane x) × (lane x < first + 1 + length ts)) (λ x. (first ≤ lane x) × (lane x < first + length (t ∷ ts)))
      (λ x both. (omega (arith, both.0), omega (arith, both.1))) (flat_map (λ t. t) ts) (lanes_joined (first + 1) ts (later_lanes first t ts are)))

  -- each list stands whole and in its order among all
  lane_joined : (first : ℕ) (lists : List (List X)) → AreFrom first lists → (k : ℕ) (d : List X) → k < length lists → filter (λ x. lane x == (first + k)) (flat_map (λ t. t) lists) ≡ get_or lists k d
  lane_joined first [] are k d lt = absurd (omega arith)
  lane_joined first (t ∷ ts) are zero d lt =
      filter-append (λ x. lane x == (first + 0)) t (flat_map (λ t. t) ts)
      ∙ ap (λ l. l ++ filter (λ x. lane x == (first + 0)) (flat_map (λ t. t) ts)) (filter_all (λ x. lane x == (first + 0)) t
      (All-weaker (λ x. lane x ≡ first) (λ x. (lane x == (first + 0)) ≡ true) (λ x same. eq-eqb (lane x) (first + 0) (omega arith)) t (first_lane first t ts are)))
      ∙ ap (λ l. t ++ l) (filter_nothing (λ x. lane x == (first + 0)) (flat_map (λ t. t) ts)
      (All-weaker (λ x. (first + 1 ≤ lane x) × (lane x < first + 1 + length ts)) (λ x. (lane x == (first + 0)) ≡ false)
      (λ x both. ne_eqb (lane x) (first + 0) (λ same. absurd (omega (arith, both.0)))) (flat_map (λ t. t) ts) (lanes_joined (first + 1) ts (later_lanes first t ts are))))
      ∙ append-nil t
  lane_joined first (t ∷ ts) are (suc k) d lt =
      filter-append (λ x. lane x == (first + suc k)) t (flat_map (λ t. t) ts)
      ∙ ap (λ l. l ++ filter (λ x. lane x == (first + suc k)) (flat_map (λ t. t) ts)) (filter_nothing (λ x. lane x == (first + suc k)) t
      (All-weaker (λ x. lane x ≡ first) (λ x. (lane x == (first + suc k)) ≡ false) (λ x same. ne_eqb (lane x) (first + suc k) (λ other. absurd (omega arith))) t (first_lane first t ts are)))
      ∙ ap (λ (n : ℕ). filter (λ x. lane x == n) (flat_map (λ t. t) ts)) (shift k)
      ∙ lane_joined (first + 1) ts (later_lanes first t ts are) k d (omega arith)
    where
      shift : (k : ℕ) → first + suc k ≡ first + 1 + k
      shift k = omega arith

  -- a stable sort of the lists, one after another, has each in its own order, where each is in order
  pub sorted_interleaving : (lt : X → X → Bool) → IsStrictWeakOrder lt → (lists : List (List X)) (all sorted : List X) → all ≡ flat_map (λ t. t) lists
      → AreOfTheirLanes lane lists → All (IsSortedBy lt) lists → IsPermutation all sorted → IsSortedBy lt sorted → IsStableBy lt all sorted → IsInterleaving lane lists sorted
  sorted_interleaving lt o lists all sorted is are each moved up stable = record {
    each = λ k d in'.
        let joined : filter (λ x. lane x == k) all ≡ get_or lists k d =
        ap (filter (λ x. lane x == k)) is ∙ ap (λ (n : ℕ). filter (λ x. lane x == n) (flat_map (λ t. t) lists)) (plus k) ∙ lane_joined 0 lists own k d in' in
        same_in_order lt o (filter (λ x. lane x == k) sorted) (get_or lists k d)
        (Rising-filter lt (λ x. lane x == k) sorted (rising_from_sorted lt o sorted up))
        (rising_from_sorted lt o (get_or lists k d) (each k d in'))
        (λ x. filter_swap (ties lt x) (λ x. lane x == k) sorted ∙ ap (filter (λ x. lane x == k)) (stable x) ∙ filter_swap (λ x. lane x == k) (ties lt x) all ∙ ap (filter (ties lt x)) joined);
    lanes_are =
        All-permutation (λ x. lane x < length lists) all sorted moved
        (subst (All (λ x. lane x < length lists)) (sym is)
        (All-weaker (λ x. (0 ≤ lane x) × (lane x < 0 + length lists)) (λ x. lane x < length lists) (λ x both. omega (arith, both.1)) (flat_map (λ t. t) lists) (lanes_joined 0 lists own)));
  }
    where
      plus : (k : ℕ) → k ≡ 0 + k
      plus k = omega arith

      own : AreFrom 0 lists
      own k d in' = All-weaker (λ x. lane x ≡ k) (λ x. lane x ≡ 0 + k) (λ x same. omega arith) (get_or lists k d) (are k d in')
