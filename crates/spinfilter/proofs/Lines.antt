-- Lines that are appended one after another.
use Rattle.std.proofs.Common.{◌≡◌, ◌<◌, ◌≤◌, ◌+◌, ℕ, zero, suc, List, [], ◌∷◌, ◌++◌, length, take, map, get_or, refl, sym, ap, subst, ◌∙◌, arith, append_assoc}
use Rattle.std.proofs.lemmas.List.{append-nil, map-append, take_all}
use Rattle.std.proofs.lemmas.Grind.{flat_map-append, take_at_read}
use Rattle.spin_text.specs.Words.{spaced, ended, text_of}
use Rattle.spin_filter.specs.declared.counts.Counts.{Counts}
use Rattle.spinfilter.specs.Told.{send_line, send_lines_from}

-- one line more
pub line-more : (old out new : List ℕ) (lines : List (List ℕ)) (line : List ℕ) → out ≡ old ++ text_of lines → new ≡ out ++ ended line → new ≡ old ++ text_of (lines ++ line ∷ [])
line-more old out new lines line is added =
    added ∙ ap (λ xs. xs ++ ended line) is ∙ append_assoc old (text_of lines) (ended line)
    ∙ ap (λ xs. old ++ xs) (ap (λ xs. text_of lines ++ xs) (sym (append-nil (ended line))) ∙ sym (flat_map-append ended lines (line ∷ [])))

pub no-line : (old : List ℕ) → old ≡ old ++ []
no-line old = sym (append-nil old)

-- one line more, of the lines of items
pub lines-more : {X : Type 0} (f : X → List ℕ) (items : List X) (i : ℕ) (other : X) (old out new : List ℕ) → i < length items → out ≡ old ++ text_of (map f (take i items))
    → new ≡ out ++ ended (f (get_or items i other)) → new ≡ old ++ text_of (map f (take (i + 1) items))
lines-more f items i other old out new lt is added =
    line-more old out new (map f (take i items)) (f (get_or items i other)) is added
    ∙ ap (λ ls. old ++ text_of ls) (sym (map-append f (take i items) (get_or items i other ∷ [])) ∙ ap (λ xs. map f xs) (sym ((take_at_read items i other lt).1)))

-- the lines of all items
pub lines-all : {X : Type 0} (f : X → List ℕ) (items : List X) (i : ℕ) (old out : List ℕ) → length items ≤ i → out ≡ old ++ text_of (map f (take i items)) → out ≡ old ++ text_of (map f items)
lines-all f items i old out le is = is ∙ ap (λ xs. old ++ text_of (map f xs)) (take_all i items le)

-- a word more on a line
pub word-more : (old out out' first : List ℕ) (words : List (List ℕ)) (word own : List ℕ) → out ≡ old ++ (first ++ spaced words) → out' ≡ out ++ spaced (own ∷ []) → own ≡ word
    → out' ≡ old ++ (first ++ spaced (words ++ word ∷ []))
word-more old out out' first words word own is added same =
    added ∙ ap (λ xs. xs ++ spaced (own ∷ [])) is ∙ ap (λ w. (old ++ (first ++ spaced words)) ++ spaced (w ∷ [])) same ∙ append_assoc old (first ++ spaced words) (spaced (word ∷ []))
    ∙ ap (λ xs. old ++ xs) (append_assoc first (spaced words) (spaced (word ∷ []))
    ∙ ap (λ xs. first ++ xs) (sym (flat_map-append (λ (w : List ℕ). 32 ∷ w) words (word ∷ []))))

-- the lines of sends, one more
pub sends-more : (first : ℕ) (names : List (List ℕ)) (c : Counts) (i : ℕ) (name : List ℕ) → i < length names → name ≡ get_or names i name
    → send_lines_from first (take i names) c ++ send_line (first + i) name c ∷ [] ≡ send_lines_from first (take (i + 1) names) c
sends-more first [] c i name lt is = absurd (omega (arith, lt))
sends-more first (x ∷ names) c zero name lt is =
    let same : first + 0 ≡ first = omega arith in
    ap (λ n. send_line n name c ∷ []) same ∙ ap (λ y. send_line first y c ∷ []) is
sends-more first (x ∷ names) c (suc i) name lt is =
    ap (λ n. send_line first x c ∷ (send_lines_from (suc first) (take i names) c ++ send_line n name c ∷ [])) next
    ∙ ap (λ xs. send_line first x c ∷ xs) (sends-more (suc first) names c i name (omega (arith, lt)) is)
    ∙ ap (λ n. send_lines_from first (take n (x ∷ names)) c) later where
      next : first + suc i ≡ suc first + i
      next = omega arith

      later : suc (i + 1) ≡ suc i + 1
      later = omega arith

pub sends-next : (names : List (List ℕ)) (c : Counts) (i : ℕ) (name : List ℕ) → i < length names → name ≡ get_or names i name
    → send_lines_from 0 (take i names) c ++ send_line i name c ∷ [] ≡ send_lines_from 0 (take (i + 1) names) c
sends-next names c i name lt is =
    ap (λ n. send_lines_from 0 (take i names) c ++ send_line n name c ∷ []) first ∙ sends-more 0 names c i name lt is where
      first : i ≡ 0 + i
      first = omega arith

pub all-sends : (names : List (List ℕ)) (c : Counts) (i : ℕ) → length names ≤ i → send_lines_from 0 (take i names) c ≡ send_lines_from 0 names c
all-sends names c i le = ap (λ ns. send_lines_from 0 ns c) (take_all i names le)
