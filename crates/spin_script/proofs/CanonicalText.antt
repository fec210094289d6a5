-- The canonical text has just the canonical lines, and each of these its words.
use Rattle.std.proofs.Common.{◌≡◌, ℕ, zero, suc, ◌-◌, ◌<◌, Bool, true, false, eqb, List, [], ◌∷◌, ◌++◌, length, get_or, refl, ap, ◌∙◌, append_assoc, arith}
use Rattle.std.specs.List.{list_all, slice_split, flat_map, AllByRecursion}
use Rattle.std.specs.Str.Lines.{lines, lines_of_parts, strip_carriage_return}
use Rattle.std.proofs.lemmas.Bool.Decides.{nat_tests}
use Rattle.std.proofs.lemmas.List.Elements.{All-from_recursion}
use Rattle.std.proofs.lemmas.List.Folds.{list_all-append}
use Rattle.std.proofs.lemmas.List.Splits.{slice_split_at, length-slice_split}
use Rattle.spin_text.specs.Words.{line_of}
use Rattle.spin_grammar.proofs.CanonicalSpelling.{is_printed, both, second}
use Rattle.spin_grammar.proofs.CanonicalWords.{IsWord, printed_bytes}
use Rattle.spin_script.specs.Language.{is_allowed}

-- ---- bytes of lines

printed_allowed : (w : List ℕ) → list_all is_printed w ≡ true → list_all is_allowed w ≡ true
printed_allowed [] h = refl
printed_allowed (b ∷ bs) h =
    let this : is_printed b ≡ true = both (is_printed b) (list_all is_printed bs) h in
    let well : is_allowed b ≡ true = grind (arith, nat_tests, this) in
    rw well (printed_allowed bs (second (is_printed b) (list_all is_printed bs) h))

spaced_allowed : (ws : List (List ℕ)) → AllByRecursion IsWord ws → list_all is_allowed (flat_map (λ (x : List ℕ). 32 ∷ x) ws) ≡ true
spaced_allowed [] h = refl
spaced_allowed (w ∷ ws) h = list_all-append is_allowed (32 ∷ w) (flat_map (λ (x : List ℕ). 32 ∷ x) ws) ∙ rw (printed_allowed w (printed_bytes w h.0), spaced_allowed ws h.1) refl

pub line_allowed : (ws : List (List ℕ)) → AllByRecursion IsWord ws → list_all is_allowed (line_of ws) ≡ true
line_allowed [] h = refl
line_allowed (w ∷ ws) h = list_all-append is_allowed w (flat_map (λ (x : List ℕ). 32 ∷ x) ws) ∙ rw (printed_allowed w (printed_bytes w h.0), spaced_allowed ws h.1) refl

-- ---- lines

abbrev is_lf : ℕ → Bool
is_lf b = eqb b 10

no_lf : (l : List ℕ) → list_all is_allowed l ≡ true → AllByRecursion (λ b. is_lf b ≡ false) l
no_lf [] h = tt
no_lf (b ∷ bs) h =
    let this : is_allowed b ≡ true = both (is_allowed b) (list_all is_allowed bs) h in
    let other : eqb b 10 ≡ false = grind (arith, nat_tests, this) in
    (other, no_lf bs (second (is_allowed b) (list_all is_allowed bs) h))

no_return : (l : List ℕ) (k : ℕ) → list_all is_allowed l ≡ true → eqb (get_or l k 0) 13 ≡ false
no_return [] zero h = refl
no_return [] (suc k) h = refl
no_return (b ∷ bs) zero h =
    let this : is_allowed b ≡ true = both (is_allowed b) (list_all is_allowed bs) h in
    grind (arith, nat_tests, this)
no_return (b ∷ bs) (suc k) h = no_return bs k (second (is_allowed b) (list_all is_allowed bs) h)

not_stripped : (l : List ℕ) → list_all is_allowed l ≡ true → strip_carriage_return l ≡ l
not_stripped l h = rw (no_return l (length l - 1) h) refl

some_parts : (p : List ℕ) (ps : List (List ℕ)) → 0 < length ps → lines_of_parts (p ∷ ps) ≡ strip_carriage_return p ∷ lines_of_parts ps
some_parts p [] h = absurd (omega (arith, h))
some_parts p (q ∷ ps) h = refl

-- a line that is ended, and what follows
pub line_first : (l rest : List ℕ) → list_all is_allowed l ≡ true → lines (l ++ 10 ∷ rest) ≡ l ∷ lines rest
line_first l rest h =
    let cut : slice_split is_lf (l ++ 10 ∷ rest) ≡ l ∷ slice_split is_lf rest = slice_split_at is_lf l 10 rest (All-from_recursion (λ b. is_lf b ≡ false) l (no_lf l h)) refl in
    rw cut (some_parts l (slice_split is_lf rest) (omega (arith, length-slice_split is_lf rest)) ∙ ap (λ (x : List ℕ). x ∷ lines rest) (not_stripped l h))

abbrev pub IsPlain : List ℕ → Type 0
IsPlain l = list_all is_allowed l ≡ true

-- the lines of lines that are ended
pub lines_back : (ls : List (List ℕ)) → AllByRecursion IsPlain ls → lines (flat_map (λ (l : List ℕ). l ++ 10 ∷ []) ls) ≡ ls
lines_back [] h = refl
lines_back (l ∷ ls) h =
    let rest : List ℕ = flat_map (λ (x : List ℕ). x ++ 10 ∷ []) ls in
    ap lines (append_assoc l (10 ∷ []) rest) ∙ line_first l rest h.0 ∙ ap (λ (x : List (List ℕ)). l ∷ x) (lines_back ls h.1)
