-- The entries of all lanes, from those that each has given.
use Rattle.std.proofs.Common.{◌≡◌, ℕ, zero, suc, ◌<◌, List, [], ◌∷◌, ◌++◌, length, take, drop, get_or, refl, sym, ap, ◌∙◌, subst, arith}
use Rattle.std.proofs.lemmas.List.{append-nil, drop_all, take_all}
use Rattle.spin_table.specs.Setups.{SetupData}
use Rattle.spin_report.specs.declared.entry.Entry.{Entry}
use Rattle.spin_report.specs.Asked.{Numbered}
use Rattle.spin_run.specs.declared.lane.Lane.{Lane}
use Rattle.spin_run.specs.Lanes.{HasRunLane}
use Rattle.spin_run.specs.Segments.{HaveRun}
use Rattle.spin_run.proofs.SegmentLemmas.{get_or_same}

-- Where there is something for each number below n, there is a list of these.
choose : {Y : Type 0} (d : Y) (n : ℕ) (P : ℕ → Y → Type 0) → ((k : ℕ) → k < n → (y : Y) × P k y) → (ys : List Y) × (length ys ≡ n) × ((k : ℕ) → k < n → P k (get_or ys k d))
choose d zero P h = ([], refl, λ k lt. absurd (omega (arith, lt)))
choose {Y} d (suc n) P h =
    let first = h zero (omega arith) in
    let more = choose d n (λ k. P (suc k)) (λ k lt. h (suc k) (omega (arith, lt))) in
    (first.0 ∷ more.0, ap suc more.1, at first.0 first.1 more.0 more.2)
  where
    at : (y : Y) → P zero y → (ys : List Y) → ((k : ℕ) → k < n → P (suc k) (get_or ys k d)) → (k : ℕ) → k < suc n → P k (get_or (y ∷ ys) k d)
    at y here ys more zero lt = here
    at y here ys more (suc k) lt = more k (omega (arith, lt))

-- all lanes have run where each has
all_have_run : (d : SetupData) (asked : List Numbered) (before after : List Lane) → length after ≡ length before
    → ((k : ℕ) (lane : Lane) → k < length before → (entries : List Entry) × HasRunLane d asked (get_or before k lane) (get_or after k lane) entries)
    → (given : List (List Entry)) × HaveRun d asked before after given
all_have_run d asked [] after count each = ([], record { count = count; given_count = refl; each = λ k lane lt. absurd (omega (arith, lt)) })
all_have_run d asked (l ∷ before) after count each =
    let lanes = l ∷ before in
    let all = choose [] (length lanes) (λ k entries. HasRunLane d asked (get_or lanes k l) (get_or after k l) entries) (λ k lt. each k l lt) in (
      all.0,
      record {
        count = count;
        given_count = all.1;
        each = λ k lane lt. subst (λ (x : Lane × Lane). HasRunLane d asked x.0 x.1 (get_or all.0 k []))
            (λ i. (get_or_same lanes k l lane lt i, get_or_same after k l lane (omega (arith, lt, count)) i)) (all.2 k lt);
      },
    )

-- and so they have in the list that the threads leave
pub threads_have_run : (d : SetupData) (asked : List Numbered) (before items after : List Lane) (len : ℕ) → items ≡ before → len ≡ length items → length after ≡ length items
    → ((k : ℕ) (lane : Lane) → k < length items → (entries : List Entry) × HasRunLane d asked (get_or items k lane) (get_or after k lane) entries)
    → (given : List (List Entry)) × HaveRun d asked before (take len (after ++ drop (length after) items)) given
threads_have_run d asked before items after len same whole long each =
    let none : drop (length after) items ≡ [] = drop_all (length after) items (omega (arith, long)) in
    let all : take len (after ++ drop (length after) items) ≡ after = ap (λ (l : List Lane). take len (after ++ l)) none ∙ ap (take len) (append-nil after)
    ∙ take_all len after (omega (arith, whole, long)) in
    subst (λ (x : List Lane × List Lane). (given : List (List Entry)) × HaveRun d asked x.0 x.1 given) (λ i. (same i, sym all i)) (all_have_run d asked items after long each)
