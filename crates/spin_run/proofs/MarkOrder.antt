-- The order of marks is that of their entries.
use Rattle.std.proofs.Common.{◌≡◌, ℕ, ◌<◌, Bool, false, List, [], ◌∷◌, map, length, refl, sym, subst}
use Rattle.std.specs.Prelude.{All}
use Rattle.std.specs.Cmp.{IsStrictWeakOrder}
use Rattle.std.specs.List.{AllZip}
use Rattle.std.specs.Ordering.{is_lt}
use Rattle.std.proofs.lemmas.List.Elements.{All-map, All-nil, All-cons, All-head, All-tail}
use Rattle.std.proofs.lemmas.List.Sorted.{ranks_by}
use Rattle.spin_seat.proofs.SeatInvariants.{all_unmap}
use Rattle.spin_report.specs.declared.entry.Entry.{Entry}
use Rattle.spin_report.specs.Segments.{moment, moment_cmp, IsInOrder}
use Rattle.spin_run.specs.declared.trail.EntryIndex.{EntryIndex}
use Rattle.spin_run.specs.declared.trail.Trail.{Trail}
use Rattle.spin_run.specs.Trails.{mark_moment, IsMarkOf, trail_of, AreMarksOf}
use Rattle.spin_run.specs.Inner.Marks.{IsInTrails}
use Rattle.spin_run.specs.Inner.Weaves.{AreMarksInOrder}
use Rattle.spin_run.proofs.SortedLists.{Rising, rising_from_sorted, sorted_from_rising}
use Rattle.spin_run.proofs.EntryOrder.{moment_total, earlier, earlier_weak}
use Rattle.spin_run.proofs.KeptMarks.{marks_lie}

abbrev pub mark_sooner : EntryIndex → EntryIndex → Bool
mark_sooner m n = is_lt (moment_cmp (mark_moment m) (mark_moment n))

pub mark_sooner_weak : IsStrictWeakOrder mark_sooner
mark_sooner_weak = ranks_by moment_total mark_moment

-- what rises by its keys
rising_keys : {X K : Type 0} (lt : K → K → Bool) (key : X → K) (xs : List X) → Rising (λ x y. lt (key x) (key y)) xs → Rising lt (map key xs)
rising_keys lt key [] up = tt
rising_keys lt key (x ∷ xs) up = (All-map (λ k. lt k (key x) ≡ false) key xs up.0, rising_keys lt key xs up.1)

rising_by_keys : {X K : Type 0} (lt : K → K → Bool) (key : X → K) (xs : List X) → Rising lt (map key xs) → Rising (λ x y. lt (key x) (key y)) xs
rising_by_keys lt key [] up = tt
rising_by_keys lt key (x ∷ xs) up = (all_unmap (λ k. lt k (key x) ≡ false) key xs up.0, rising_by_keys lt key xs up.1)

module _ (R : EntryIndex → Entry → Type 0) (same : (m : EntryIndex) (e : Entry) → R m e → mark_moment m ≡ moment e) where
  moments_are : (marks : List EntryIndex) (entries : List Entry) → AllZip R marks entries → map mark_moment marks ≡ map moment entries
  moments_are [] [] h = refl
  moments_are [] (e ∷ entries) h = absurd h
  moments_are (m ∷ marks) [] h = absurd h
  moments_are (m ∷ marks) (e ∷ entries) h = λ i. same m e h.0 i ∷ moments_are marks entries h.1 i

  -- the marks of entries in order are in order, and the other way round
  pub marks_in_order : (marks : List EntryIndex) (entries : List Entry) → AllZip R marks entries → IsInOrder entries → AreMarksInOrder marks
  marks_in_order marks entries h up =
      sorted_from_rising mark_sooner marks (rising_by_keys (λ a b. is_lt (moment_cmp a b)) mark_moment marks
      (subst (Rising (λ a b. is_lt (moment_cmp a b))) (sym (moments_are marks entries h))
      (rising_keys (λ a b. is_lt (moment_cmp a b)) moment entries (rising_from_sorted earlier earlier_weak entries up))))

  pub entries_in_order : (marks : List EntryIndex) (entries : List Entry) → AllZip R marks entries → AreMarksInOrder marks → IsInOrder entries
  entries_in_order marks entries h up =
      sorted_from_rising earlier entries (rising_by_keys (λ a b. is_lt (moment_cmp a b)) moment entries
      (subst (Rising (λ a b. is_lt (moment_cmp a b))) (moments_are marks entries h)
      (rising_keys (λ a b. is_lt (moment_cmp a b)) mark_moment marks (rising_from_sorted mark_sooner mark_sooner_weak marks up))))

module _ (R : EntryIndex → Entry → Type 0) (same : (m : EntryIndex) (e : Entry) → R m e → m.lane ≡ e.lane) where
  -- what holds of the lanes of entries holds of those of their marks, and the other way round
  pub lanes_of_marks : (P : ℕ → Type 0) (marks : List EntryIndex) (entries : List Entry) → AllZip R marks entries → All (λ (e : Entry). P e.lane) entries → All (λ (m : EntryIndex). P m.lane) marks
  lanes_of_marks P [] entries h all = All-nil (λ (m : EntryIndex). P m.lane)
  lanes_of_marks P (m ∷ marks) [] h all = absurd h
  lanes_of_marks P (m ∷ marks) (e ∷ entries) h all =
      All-cons (λ (m : EntryIndex). P m.lane) m marks (subst P (sym (same m e h.0)) (All-head (λ (e : Entry). P e.lane) e entries all))
      (lanes_of_marks P marks entries h.1 (All-tail (λ (e : Entry). P e.lane) e entries all))

  pub lanes_of_entries : (P : ℕ → Type 0) (marks : List EntryIndex) (entries : List Entry) → AllZip R marks entries → All (λ (m : EntryIndex). P m.lane) marks → All (λ (e : Entry). P e.lane) entries
  lanes_of_entries P [] [] h all = All-nil (λ (e : Entry). P e.lane)
  lanes_of_entries P [] (e ∷ entries) h all = absurd h
  lanes_of_entries P (m ∷ marks) [] h all = absurd h
  lanes_of_entries P (m ∷ marks) (e ∷ entries) h all =
      All-cons (λ (e : Entry). P e.lane) e entries (subst P (same m e h.0) (All-head (λ (m : EntryIndex). P m.lane) m marks all))
      (lanes_of_entries P marks entries h.1 (All-tail (λ (m : EntryIndex). P m.lane) m marks all))

-- the marks of entries of so many lanes lie in their trails
pub woven_lie : (n : ℕ) (trails : List Trail) (marks : List EntryIndex) (entries : List Entry) → length trails ≡ n → AreMarksOf trails marks entries
    → All (λ (e : Entry). e.lane < n) entries → All (IsInTrails trails) marks
woven_lie n trails marks entries count are under =
    marks_lie trails marks entries
    (subst (λ (k : ℕ). All (λ (m : EntryIndex). m.lane < k) marks) (sym count)
    (lanes_of_marks (λ m e. IsMarkOf (trail_of trails m.lane) m e) (λ m e is. is.lane) (λ k. k < n) marks entries are under)) are
