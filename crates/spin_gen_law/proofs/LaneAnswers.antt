-- Two answers of one segment: what is asked of a lane, it answers in both.
use Rattle.std.proofs.Common.{◌≡◌, ◌∙◌, ◌<◌, ◌≤◌, ℕ, Bool, true, false, cond, List, [], ◌∷◌, map, refl, sym, ap, subst, arith, inl, inr}
use Rattle.std.specs.Prelude.{◌==◌, All}
use Rattle.std.specs.List.{AllByRecursion}
use Rattle.std.proofs.lemmas.Bool.{eq-eqb, eqb-true, cases_lt}
use Rattle.std.proofs.lemmas.List.Elements.{All-filter, All-same, recursion_from_All}
use Rattle.spin_word.specs.declared.work.Work.{Work}
use Rattle.spin_table.specs.Setups.{SetupData}
use Rattle.spin_table.specs.States.{State}
use Rattle.spin_report.specs.declared.entry.Entry.{Entry}
use Rattle.spin_report.specs.Asked.{Numbered, asked_of}
use Rattle.spin_report.specs.Legal.{IsLegal}
use Rattle.spin_report.specs.Segments.{of_lane, asked_of_lane}
use Rattle.spin_gen_law.proofs.LaneCounts.{work_by}

-- These entries are legal from one state to another, and each of so many lanes has answered what is asked of it, in
-- order.
pub record IsAnswered (d : SetupData) (lanes : ℕ) (asked : List Numbered) (s t : State) (entries : List Entry) : Type 0 where
  pub legal : IsLegal d s entries t
  pub once : (k : ℕ) → k < lanes → map asked_of (of_lane k entries) ≡ asked_of_lane k asked
  pub lanes_are : All (λ entry. entry.lane < lanes) entries

-- ---- what holds of all that is asked holds of all entries

from_lanes : (P : Numbered → Type 0) (m : ℕ) (entries : List Entry) → AllByRecursion (λ entry. entry.lane < m) entries
    → ((k : ℕ) → k < m → AllByRecursion P (map asked_of (of_lane k entries))) → AllByRecursion (λ entry. P (asked_of entry)) entries
from_lanes P m [] below each = tt
from_lanes P m (entry ∷ entries) below each =
    let own : entry.lane == entry.lane ≡ true = eq-eqb entry.lane entry.lane refl in
    let first = subst (λ (b : Bool). AllByRecursion P (map asked_of (cond b (entry ∷ of_lane entry.lane entries) (of_lane entry.lane entries)))) own (each entry.lane below.0) in
    (first.0, from_lanes P m entries below.1 (λ k lt. rest k (entry.lane == k) (each k lt)))
  where
    rest : (k : ℕ) (b : Bool) → AllByRecursion P (map asked_of (cond b (entry ∷ of_lane k entries) (of_lane k entries))) → AllByRecursion P (map asked_of (of_lane k entries))
    rest k true h = h.1
    rest k false h = h

module _ (d : SetupData) (lanes : ℕ) (asked : List Numbered) (s t : State) (entries : List Entry) (woven : IsAnswered d lanes asked s t entries) where
  pub woven_all : (P : Numbered → Type 0) → All P asked → AllByRecursion (λ entry. P (asked_of entry)) entries
  woven_all P all =
      from_lanes P lanes entries (recursion_from_All (λ (entry : Entry). entry.lane < lanes) entries woven.lanes_are)
      (λ k below. recursion_from_All P (map asked_of (of_lane k entries))
      (All-same P (map asked_of (of_lane k entries)) (asked_of_lane k asked) (woven.once k below) (All-filter (λ (n : Numbered). n.lane == k) P asked all)))

-- ---- what a lane asks

works_of : (entries : List Entry) → map work_by entries ≡ map (λ n. n.asked) (map asked_of entries)
works_of [] = refl
works_of (entry ∷ entries) = ap (λ (ws : List Work). work_by entry ∷ ws) (works_of entries)

none_above : (m k : ℕ) (entries : List Entry) → m ≤ k → AllByRecursion (λ entry. entry.lane < m) entries → of_lane k entries ≡ []
none_above m k [] above below = refl
none_above m k (entry ∷ entries) above below = go (entry.lane == k) refl (none_above m k entries above below.1)
  where
    go : (b : Bool) → (entry.lane == k) ≡ b → of_lane k entries ≡ [] → cond b (entry ∷ of_lane k entries) (of_lane k entries) ≡ []
    go true is rest = absurd (let same = eqb-true entry.lane k is in let lane = below.0 in omega (arith, same, lane, above))
    go false is rest = rest

module _ (d : SetupData) (lanes : ℕ) (asked : List Numbered) (s t s' t' : State) (xs ys : List Entry)
    (woven : IsAnswered d lanes asked s t xs) (woven' : IsAnswered d lanes asked s' t' ys) where
  -- each lane asks the same in both
  pub same_works : (k : ℕ) → map work_by (of_lane k xs) ≡ map work_by (of_lane k ys)
  same_works k =
      elim (cases_lt k lanes) [
        | inl among ↦
            works_of (of_lane k xs)
            ∙ ap (map (λ (n : Numbered). n.asked)) (woven.once k among ∙ sym (woven'.once k among))
            ∙ sym (works_of (of_lane k ys))
        | inr above ↦
            let is_lane = λ (entry : Entry). entry.lane < lanes in
            ap (map work_by) (none_above lanes k xs above (recursion_from_All is_lane xs woven.lanes_are) ∙ sym (none_above lanes k ys above (recursion_from_All is_lane ys woven'.lanes_are)))
      ]
