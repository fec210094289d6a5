-- Lines and their words.
use Rattle.std.proofs.Common.{◌≡◌, ℕ, zero, suc, ◌+◌, ◌<◌, ◌≤◌, true, false, List, [], ◌∷◌, length, get_or, take, drop, refl, arith, inl, inr, drop-cons, add-one}
use Rattle.std.specs.List.{filter, slice_split, position_or_len}
use Rattle.std.proofs.lemmas.Bool.{cases_lt}
use Rattle.std.proofs.lemmas.Bool.Decides.{nat_tests}
use Rattle.std.proofs.lemmas.List.{length-take, take_all, drop_all, get_or_default}
use Rattle.std.proofs.lemmas.List.Splits.{slice_split-cons_yes, slice_split_first, slice_split_none}
use Rattle.std.proofs.lemmas.List.Sums.{position_or_len_is}
use Rattle.spin_grammar.specs.Words.{is_blank, is_some_word, words}

pub words_blank : (c : ℕ) (cs : List ℕ) → is_blank c ≡ true → words (c ∷ cs) ≡ words cs
unfolding words
words_blank c cs h = rw (slice_split-cons_yes is_blank c cs h) refl

pub words_empty : (xs : List ℕ) → length xs ≡ 0 → words xs ≡ []
unfolding words
words_empty [] h = refl
words_empty (c ∷ cs) h = absurd (omega arith)

-- a part that isn't empty is a word
pub some_word : (w : List ℕ) (ws : List (List ℕ)) → 0 < length w → filter is_some_word (w ∷ ws) ≡ w ∷ filter is_some_word ws
some_word w ws h =
    let t : is_some_word w ≡ true = grind (arith, nat_tests) in
    rw t refl

pub record IsWordEnd (xs : List ℕ) (i : ℕ) : Type 0 where
  pub within : i ≤ length xs
  pub before : (k : ℕ) → k < i → is_blank (get_or xs k 0) ≡ false
  pub found : i < length xs → is_blank (get_or xs i 0) ≡ true

some : (xs : List ℕ) (i : ℕ) → is_blank (get_or xs i 0) ≡ true → is_blank (get_or xs 0 0) ≡ false → 0 < i
some xs zero blank nb = absurd cc
some xs (suc i) blank nb = omega arith

ends : (xs : List ℕ) (i : ℕ) → is_blank (get_or xs i 0) ≡ true → i < length xs → 0 < i → position_or_len is_blank xs ≡ i → words xs ≡ take i xs ∷ words (drop i xs)
unfolding words
ends xs i blank lt pos at =
    let cut : slice_split is_blank xs ≡ take i xs ∷ slice_split is_blank (drop (i + 1) xs) = rw at at (slice_split_first is_blank xs 0 (omega arith)) in
    let long : 0 < length (take i xs) = omega (arith, length-take i xs) in
    let tail : drop i xs ≡ get_or xs i 0 ∷ drop (i + 1) xs = rw (add-one, drop-cons xs i 0) refl in
    rw (cut, some_word (take i xs) (slice_split is_blank (drop (i + 1) xs)) long, tail, words_blank (get_or xs i 0) (drop (i + 1) xs) blank) refl

none : (xs : List ℕ) (i : ℕ) → IsWordEnd xs i → length xs ≤ i → 0 < length xs → words xs ≡ take i xs ∷ words (drop i xs)
unfolding words
none xs i e le h =
    let whole : slice_split is_blank xs ≡ xs ∷ [] = slice_split_none is_blank xs (λ k d lt. rw (get_or_default xs k d 0 lt) (e.before k (omega arith))) in
    rw (whole, some_word xs [] h, take_all i xs le, drop_all i xs le) refl

-- a line that begins with a word
pub words_first : (xs : List ℕ) (i : ℕ) → IsWordEnd xs i → 0 < length xs → is_blank (get_or xs 0 0) ≡ false → words xs ≡ take i xs ∷ words (drop i xs)
words_first xs i e h nb =
    elim (cases_lt i (length xs)) [
      | inl lt ↦ ends xs i (e.found lt) lt (some xs i (e.found lt) nb) (position_or_len_is is_blank xs i 0 e.within e.before e.found)
      | inr le ↦ none xs i e le h
    ]
