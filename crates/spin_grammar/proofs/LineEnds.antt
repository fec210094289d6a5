-- Texts and their lines.
use Rattle.std.proofs.Common.{◌≡◌, ℕ, suc, ◌+◌, ◌<◌, ◌≤◌, Bool, true, false, cond, eqb, List, [], ◌∷◌, length, get_or, take, drop, refl, sym, ap, ◌∙◌, arith}
use Rattle.std.specs.List.{filter, slice_split}
use Rattle.std.specs.Str.Lines.{lines, lines_of_parts, strip_carriage_return}
use Rattle.std.proofs.lemmas.Bool.Decides.{nat_tests}
use Rattle.std.proofs.lemmas.List.{take_all, get_or_default, length-drop, drop-drop}
use Rattle.std.proofs.lemmas.List.Splits.{slice_split_first, slice_split_none, length-slice_split}
use Rattle.std.proofs.lemmas.List.Sums.{position_or_len_is, count_by-le-length}
use Rattle.spin_grammar.specs.Words.{is_blank, is_some_word, words}

abbrev pub is_lf : ℕ → Bool
is_lf b = eqb b 10

pub record IsLineEnd (xs : List ℕ) (i : ℕ) : Type 0 where
  pub within : i ≤ length xs
  pub before : (k : ℕ) → k < i → is_lf (get_or xs k 0) ≡ false
  pub found : i < length xs → is_lf (get_or xs i 0) ≡ true

lines_cons : (p : List ℕ) (ps : List (List ℕ)) → 0 < length ps → lines_of_parts (p ∷ ps) ≡ strip_carriage_return p ∷ lines_of_parts ps
lines_cons p [] h = absurd (omega arith)
lines_cons p (q ∷ ps) h = refl

pub lines_more : (xs : List ℕ) (i : ℕ) → IsLineEnd xs i → i < length xs → lines xs ≡ strip_carriage_return (take i xs) ∷ lines (drop (i + 1) xs)
lines_more xs i e lt =
    let at = position_or_len_is is_lf xs i 0 e.within e.before e.found in
    let cut : slice_split is_lf xs ≡ take i xs ∷ slice_split is_lf (drop (i + 1) xs) = rw at at (slice_split_first is_lf xs 0 (omega arith)) in
    rw cut (lines_cons (take i xs) (slice_split is_lf (drop (i + 1) xs)) (omega (arith, length-slice_split is_lf (drop (i + 1) xs))))

one_part : (xs : List ℕ) → 0 < length xs → lines_of_parts (xs ∷ []) ≡ xs ∷ []
one_part xs h = let t : eqb (length xs) 0 ≡ false = grind (arith, nat_tests) in rw t refl

pub lines_last : (xs : List ℕ) (i : ℕ) → IsLineEnd xs i → length xs ≤ i → 0 < length xs → lines xs ≡ xs ∷ []
lines_last xs i e le h =
    let whole : slice_split is_lf xs ≡ xs ∷ [] = slice_split_none is_lf xs (λ k d lt. rw (get_or_default xs k d 0 lt) (e.before k (omega arith))) in
    rw whole (one_part xs h)

pub lines_empty : (xs : List ℕ) → length xs ≡ 0 → lines xs ≡ []
lines_empty [] h = refl
lines_empty (x ∷ xs) h = absurd (omega arith)

parts_le : (ps : List (List ℕ)) → length (lines_of_parts ps) ≤ length ps
parts_le [] = omega arith
parts_le (p ∷ []) = one (eqb (length p) 0)
  where
    one : (b : Bool) → length (cond b [] (p ∷ [])) ≤ 1
    one true = omega arith
    one false = omega arith
parts_le (p ∷ q ∷ ps) = omega (arith, parts_le (q ∷ ps))

count_le : (p : ℕ → Bool) (xs : List ℕ) → length (slice_split p xs) ≤ length xs + 1
count_le p xs = omega (arith, length-slice_split p xs, count_by-le-length p xs)

filter_le : (ps : List (List ℕ)) → length (filter is_some_word ps) ≤ length ps
filter_le [] = omega arith
filter_le (p ∷ ps) = one (is_some_word p) (filter_le ps)
  where
    one : (b : Bool) → length (filter is_some_word ps) ≤ length ps → length (cond b (p ∷ filter is_some_word ps) (filter is_some_word ps)) ≤ suc (length ps)
    one true h = omega (arith, h)
    one false h = omega (arith, h)

pub lines_count : (xs : List ℕ) → length (lines xs) ≤ length xs + 1
lines_count xs = omega (arith, parts_le (slice_split is_lf xs), count_le is_lf xs)

pub words_count : (xs : List ℕ) → length (words xs) ≤ length xs + 1
unfolding words
words_count xs = omega (arith, filter_le (slice_split is_blank xs), count_le is_blank xs)

-- the last line, with no end
pub last_line : (xs : List ℕ) (i : ℕ) (rest : List ℕ) → IsLineEnd xs i → 0 < length xs → rest ≡ drop i xs → length rest ≡ 0 → lines xs ≡ take i xs ∷ lines rest
last_line xs i rest e h same none =
    let le : length xs ≤ i = omega (arith, length-drop i xs, ap length same) in
    rw (take_all i xs le, lines_empty rest none) (lines_last xs i e le h)

-- a line that has an end
pub line_ended : (xs : List ℕ) (i b : ℕ) (rest after : List ℕ) → IsLineEnd xs i → rest ≡ drop i xs → rest ≡ b ∷ after → lines xs ≡ strip_carriage_return (take i xs) ∷ lines after
line_ended xs i b rest after e same some =
    let lt : i < length xs = omega (arith, length-drop i xs, ap length same, ap length some) in
    let tail : drop (i + 1) xs ≡ after = sym (drop-drop 1 i xs) ∙ ap (λ (x : List ℕ). drop 1 x) (sym same ∙ some) in
    rw (← tail) (lines_more xs i e lt)
