-- What each lane answers in its order, all lanes answer once.
use Rattle.std.proofs.Common.{◌≡◌, ◌<◌, ℕ, zero, suc, Bool, true, false, cond, List, [], ◌∷◌, ◌++◌, map, refl, sym, ap, subst, ◌∙◌, arith}
use Rattle.std.specs.Prelude.{◌==◌, not, All, filter, IsPermutation}
use Rattle.std.proofs.lemmas.Bool.Decides.{nat_tests}
use Rattle.std.proofs.lemmas.List.Elements.{All-head, All-filter, All-map, filter_passes}
use Rattle.std.proofs.lemmas.List.Sorted.{IsPermutation-refl, IsPermutation-sym, IsPermutation-trans, IsPermutation-append_right, IsPermutation-filter_both}
use Rattle.spin_report.specs.declared.entry.Entry.{Entry}
use Rattle.spin_report.specs.Asked.{Numbered, asked_of}
use Rattle.spin_report.specs.Laws.{LanesAnswer}

abbrev is_of : ℕ → Numbered → Bool
is_of lane n = n.lane == lane

abbrev is_of_another : ℕ → Numbered → Bool
is_of_another lane n = not (n.lane == lane)

-- those of one lane aren't among those of another
filter_kept : (k lane : ℕ) → k < lane → (ns : List Numbered) → filter (is_of k) (filter (is_of_another lane) ns) ≡ filter (is_of k) ns
filter_kept k lane lt [] = refl
filter_kept k lane lt (n ∷ ns) = go (n.lane == lane) refl (filter_kept k lane lt ns) where
  go : (b : Bool) → (n.lane == lane) ≡ b → filter (is_of k) (filter (is_of_another lane) ns) ≡ filter (is_of k) ns
      → filter (is_of k) (cond (not b) (n ∷ filter (is_of_another lane) ns) (filter (is_of_another lane) ns)) ≡ filter (is_of k) (n ∷ ns)
  go true e rest =
      let other : (n.lane == k) ≡ false = grind (arith, nat_tests, e, lt) in
      rw other rest
  go false e rest = ap (λ (xs : List Numbered). cond (n.lane == k) (n ∷ xs) xs) rest

left_below : (lane : ℕ) (ns : List Numbered) → All (λ n. n.lane < suc lane) ns → All (λ (n : Numbered). n.lane < lane) (filter (is_of_another lane) ns)
left_below lane ns h = λ i d lt.
    let below = All-filter (is_of_another lane) (λ (n : Numbered). n.lane < suc lane) ns h i d lt in
    let other = filter_passes (is_of_another lane) ns i d lt in
    smaller _ below other
  where
    smaller : (m : ℕ) → m < suc lane → not (m == lane) ≡ true → m < lane
    smaller m lt other = grind (arith, nat_tests, lt, other)

same_by_lanes : (lanes : ℕ) (ms ns : List Numbered) → All (λ n. n.lane < lanes) ms → All (λ n. n.lane < lanes) ns
    → ((k : ℕ) → k < lanes → filter (is_of k) ms ≡ filter (is_of k) ns) → IsPermutation ms ns
same_by_lanes zero [] [] h g each = IsPermutation-refl []
same_by_lanes zero [] (n ∷ ns) h g each = absurd (let lt = All-head (λ (n : Numbered). n.lane < 0) n ns g in omega arith)
same_by_lanes zero (m ∷ ms) ns h g each = absurd (let lt = All-head (λ (n : Numbered). n.lane < 0) m ms h in omega arith)
same_by_lanes (suc lane) ms ns h g each =
    let left_of = λ (xs : List Numbered). filter (is_of_another lane) xs in
    let rest : IsPermutation (left_of ms) (left_of ns) = same_by_lanes lane (left_of ms) (left_of ns) (left_below lane ms h) (left_below lane ns g)
    (λ k lt. filter_kept k lane lt ms ∙ each k (omega arith) ∙ sym (filter_kept k lane lt ns)) in
    let first = IsPermutation-filter_both (is_of lane) (is_of_another lane) (λ n. refl) ms in
    let last = IsPermutation-sym ns (filter (is_of lane) ns ++ left_of ns) (IsPermutation-filter_both (is_of lane) (is_of_another lane) (λ n. refl) ns) in
    let middle : IsPermutation (filter (is_of lane) ms ++ left_of ms) (filter (is_of lane) ns ++ left_of ns) =
    subst (λ (xs : List Numbered). IsPermutation (filter (is_of lane) ms ++ left_of ms) (xs ++ left_of ns))
    (each lane (omega arith)) (IsPermutation-append_right (filter (is_of lane) ms) (left_of ms) (left_of ns) rest) in
    IsPermutation-trans ms (filter (is_of lane) ms ++ left_of ms) ns first (IsPermutation-trans (filter (is_of lane) ms ++ left_of ms) (filter (is_of lane) ns ++ left_of ns) ns middle last)

-- what the entries of a lane answer is what of all that entries answer is that lane's
pub filter_asked : (k : ℕ) (entries : List Entry) → filter (is_of k) (map asked_of entries) ≡ map asked_of (filter (λ (e : Entry). e.lane == k) entries)
filter_asked k [] = refl
filter_asked k (e ∷ entries) = go (e.lane == k) (filter_asked k entries) where
  go : (b : Bool) → filter (is_of k) (map asked_of entries) ≡ map asked_of (filter (λ (x : Entry). x.lane == k) entries) → cond b (asked_of e ∷ filter (is_of k) (map asked_of entries))
      (filter (is_of k) (map asked_of entries)) ≡ map asked_of (cond b (e ∷ filter (λ (x : Entry). x.lane == k) entries) (filter (λ (x : Entry). x.lane == k) entries))
  go true rest = ap (λ (xs : List Numbered). asked_of e ∷ xs) rest
  go false rest = rest

lanes_asked : (lanes : ℕ) (entries : List Entry) → All (λ (e : Entry). e.lane < lanes) entries → All (λ (n : Numbered). n.lane < lanes) (map asked_of entries)
lanes_asked lanes entries h = All-map (λ (n : Numbered). n.lane < lanes) asked_of entries h

pub answered_by_lanes : LanesAnswer
answered_by_lanes lanes asked entries of_asked of_entries each =
    same_by_lanes lanes (map asked_of entries) asked (lanes_asked lanes entries of_entries) of_asked (λ k lt. filter_asked k entries ∙ each k lt)
