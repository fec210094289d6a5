-- A report tells which entries each segment has.
use Rattle.std.proofs.Common.{◌≡◌, ℕ, ◌+◌, Bool, true, false, eqb, List, [], ◌∷◌, ◌++◌, map, length, take, drop, refl, sym, ap, ◌∙◌, append_assoc, arith}
use Rattle.std.specs.Prelude.{filter}
use Rattle.std.specs.List.{AllByRecursion, slice_split, flat_map, enumerate_from}
use Rattle.std.proofs.Math.Seq.{take-append_seam, drop-append_seam}
use Rattle.std.proofs.lemmas.Bool.Decides.{nat_tests}
use Rattle.std.proofs.lemmas.List.{append-nil, length-map}
use Rattle.std.proofs.lemmas.List.Elements.{filter-append, All-from_recursion}
use Rattle.std.proofs.lemmas.List.Splits.{slice_split_at, slice_split_none}
use Rattle.spin_report.specs.Lines.{entry_line, job_line}
use Rattle.spin_report.specs.Histories.{SegmentSeen, HistorySeen, first_line, retire_line, segment_line, lost_line, losses, lost_lines, end_line, report_lines, entries_of}
use Rattle.spin_text.specs.Digits.{begins_with_digit}
use Rattle.spin_report.specs.Laws.{segment_entries}
use Rattle.spin_report.proofs.PlainWords.{each_append, each_map}
use Rattle.spin_report.proofs.ReportLines.{lines_at, none_pass, all_pass, entry_begins}

-- ---- a segment's line is the only one that begins with an s

abbrev is_segment : List ℕ → Bool
is_segment [] = false
is_segment (b ∷ bs) = eqb b 115

abbrev IsOther : List ℕ → Type 0
IsOther line = is_segment line ≡ false

digit_is_other : (line : List ℕ) → begins_with_digit line ≡ true → IsOther line
digit_is_other [] h = refl
digit_is_other (b ∷ bs) h = go (eqb b 115) refl where
  go : (x : Bool) → eqb b 115 ≡ x → x ≡ false
  go false e = refl
  go true e = absurd (grind (arith, nat_tests, h, e))

abbrev after_segment : SegmentSeen → List (List ℕ)
after_segment s = map entry_line s.entries ++ map job_line s.jobs ++ lost_lines s.lost

abbrev retires : SegmentSeen → List (List ℕ)
retires s = map retire_line s.retired

others_retire : (s : SegmentSeen) → AllByRecursion IsOther (retires s)
others_retire s = each_map IsOther retire_line (λ r. refl) s.retired

others_after : (s : SegmentSeen) → AllByRecursion IsOther (after_segment s)
others_after s =
    let entries = each_map IsOther entry_line (λ e. digit_is_other (entry_line e) (entry_begins e)) s.entries in
    let jobs = each_append IsOther (map entry_line s.entries) (map job_line s.jobs) entries (each_map IsOther job_line (λ j. refl) s.jobs) in
    each_append IsOther (map entry_line s.entries ++ map job_line s.jobs) (lost_lines s.lost) jobs (each_map IsOther lost_line (λ l. refl) (losses s.lost))

-- the lines of a segment are its retirements, its own line, and what follows
lines_around : (n : ℕ) (s : SegmentSeen) → lines_at (n, s) ≡ retires s ++ segment_line n s.start ∷ after_segment s
lines_around n s =
    ap (λ x. x ++ lost_lines s.lost) (append_assoc (retires s ++ segment_line n s.start ∷ []) (map entry_line s.entries) (map job_line s.jobs))
    ∙ append_assoc (retires s ++ segment_line n s.start ∷ []) (map entry_line s.entries ++ map job_line s.jobs) (lost_lines s.lost)
    ∙ append_assoc (retires s) (segment_line n s.start ∷ []) (after_segment s)

digits_after : (s : SegmentSeen) → filter begins_with_digit (after_segment s) ≡ map entry_line s.entries
digits_after s =
    filter-append begins_with_digit (map entry_line s.entries ++ map job_line s.jobs) (lost_lines s.lost)
    ∙ (λ i. filter-append begins_with_digit (map entry_line s.entries) (map job_line s.jobs) i ++ none_pass begins_with_digit lost_line (λ l. refl) (losses s.lost) i)
    ∙ append-nil _
    ∙ (λ i. all_pass begins_with_digit entry_line entry_begins s.entries i ++ none_pass begins_with_digit job_line (λ j. refl) s.jobs i)
    ∙ append-nil _

-- ---- the report, cut at the lines of segments

abbrev cuts : List (List ℕ) → List (List (List ℕ))
cuts lines = map (filter begins_with_digit) (slice_split is_segment lines)

abbrev entry_lines : SegmentSeen → List (List ℕ)
entry_lines s = map entry_line s.entries

cut_segments : (front tail : List (List ℕ)) (n : ℕ) (ss : List SegmentSeen) → AllByRecursion IsOther front → AllByRecursion IsOther tail
    → filter begins_with_digit tail ≡ [] → cuts (front ++ (flat_map lines_at (enumerate_from n ss) ++ tail)) ≡ filter begins_with_digit front ∷ map entry_lines ss
cut_segments front tail n [] of_front of_tail none =
    ap (map (filter begins_with_digit)) (slice_split_none is_segment (front ++ tail) (All-from_recursion IsOther (front ++ tail) (each_append IsOther front tail of_front of_tail)))
    ∙ ap (λ x. x ∷ []) (filter-append begins_with_digit front tail ∙ ap (λ x. filter begins_with_digit front ++ x) none ∙ append-nil _)
cut_segments front tail n (s ∷ ss) of_front of_tail none =
    let more = flat_map lines_at (enumerate_from (n + 1) ss) in
    let line = segment_line n s.start in
    let lines_are : front ++ (lines_at (n, s) ++ more ++ tail) ≡ (front ++ retires s) ++ line ∷ (after_segment s ++ (more ++ tail)) =
    ap (λ x. front ++ (x ++ more ++ tail)) (lines_around n s)
    ∙ ap (λ x. front ++ x) (append_assoc (retires s ++ line ∷ after_segment s) more tail ∙ append_assoc (retires s) (line ∷ after_segment s) (more ++ tail))
    ∙ sym (append_assoc front (retires s) (line ∷ (after_segment s ++ (more ++ tail)))) in
    let before = each_append IsOther front (retires s) of_front (others_retire s) in
    let cut = slice_split_at is_segment (front ++ retires s) line (after_segment s ++ (more ++ tail)) (All-from_recursion IsOther (front ++ retires s) before) refl in
    let first : filter begins_with_digit (front ++ retires s) ≡ filter begins_with_digit front =
    filter-append begins_with_digit front (retires s) ∙ ap (λ x. filter begins_with_digit front ++ x) (none_pass begins_with_digit retire_line (λ r. refl) s.retired) ∙ append-nil _ in
    let rest = cut_segments (after_segment s) tail (n + 1) ss (others_after s) of_tail none in
    ap cuts lines_are
    ∙ ap (map (filter begins_with_digit)) cut
    ∙ (λ i. first i ∷ rest i)
    ∙ ap (λ x. filter begins_with_digit front ∷ x ∷ map entry_lines ss) (digits_after s)

report_cuts : (h : HistorySeen) → cuts (report_lines h) ≡ [] ∷ map entry_lines h.segments
report_cuts h = cut_segments (first_line ∷ []) (end_line h.end h.capture ∷ []) 0 h.segments (refl, tt) (refl, tt) refl

-- ---- lists of one row, cut at the same places

same_parts : {X Y : Type 0} (f : X → Y) (xs ys : List (List X)) → flat_map (λ x. x) xs ≡ flat_map (λ x. x) ys → map (map f) xs ≡ map (map f) ys → xs ≡ ys
same_parts f [] [] row cut = refl
same_parts f [] (y ∷ ys) row cut = absurd (cc (cut))
same_parts f (x ∷ xs) [] row cut = absurd (cc (cut))
same_parts f (x ∷ xs) (y ∷ ys) row cut =
    let one : map f x ≡ map f y = cc (cut) in
    let others : map (map f) xs ≡ map (map f) ys = cc (cut) in
    let long : length x ≡ length y = sym (length-map x f) ∙ ap length one ∙ length-map y f in
    let first : x ≡ y = sym (take-append_seam x (flat_map (λ z. z) xs)) ∙ (λ i. take (long i) (row i)) ∙ take-append_seam y (flat_map (λ z. z) ys) in
    let rest : flat_map (λ z. z) xs ≡ flat_map (λ z. z) ys = sym (drop-append_seam x (flat_map (λ z. z) xs)) ∙ (λ i. drop (long i) (row i)) ∙ drop-append_seam y (flat_map (λ z. z) ys) in
    let more = same_parts f xs ys rest others in
    λ i. first i ∷ more i

flat : (ss : List SegmentSeen) → flat_map (λ x. x) (map (λ s. s.entries) ss) ≡ flat_map (λ s. s.entries) ss
flat [] = refl
flat (s ∷ ss) = ap (λ x. s.entries ++ x) (flat ss)

lined : (ss : List SegmentSeen) → map (map entry_line) (map (λ s. s.entries) ss) ≡ map entry_lines ss
lined [] = refl
lined (s ∷ ss) = ap (λ x. entry_lines s ∷ x) (lined ss)

-- where the lines are the same, and all entries in a row are, each segment has the same
pub same_segments : (h k : HistorySeen) → report_lines h ≡ report_lines k → entries_of h ≡ entries_of k → segment_entries h ≡ segment_entries k
same_segments h k lines row =
    let cut : [] ∷ map entry_lines h.segments ≡ [] ∷ map entry_lines k.segments = sym (report_cuts h) ∙ ap cuts lines ∙ report_cuts k in
    let segments : map entry_lines h.segments ≡ map entry_lines k.segments = ap tail cut in
    same_parts entry_line (segment_entries h) (segment_entries k) (flat h.segments ∙ row ∙ sym (flat k.segments)) (lined h.segments ∙ segments ∙ sym (lined k.segments))
  where
    tail : List (List (List ℕ)) → List (List (List ℕ))
    tail [] = []
    tail (x ∷ xs) = xs
