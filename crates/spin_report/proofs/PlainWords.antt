-- Each word of a report is plain: it has no space and no line feed. So words are found again in their line, and lines
-- in their text.
use Rattle.std.proofs.Common.{◌≡◌, ◌≤◌, ◌<◌, ℕ, zero, suc, ◌+◌, ◌/◌, ◌%◌, Bool, true, false, eqb, cond, List, [], ◌∷◌, ◌++◌, length, refl, sym, ap, ◌∙◌, append_assoc, arith}
use Rattle.std.specs.Prelude.{not, ◌&&◌, ◌==◌, nat_lt, map, decimal}
use Rattle.std.specs.Fmt.{digits, digits_onto, digit_glyph}
use Rattle.std.specs.List.{list_all, slice_split, AllByRecursion, flat_map}
use Rattle.std.proofs.lemmas.Bool.Decides.{nat_tests}
use Rattle.std.proofs.lemmas.List.{append-nil, append_cancel_right}
use Rattle.std.proofs.lemmas.List.Splits.{slice_split_at, slice_split_none}
use Rattle.std.proofs.lemmas.List.Elements.{All-from_recursion}
use Rattle.spin_text.specs.Words.{Word, spaced, line_of, text_of}

-- neither a space nor a line feed
abbrev pub is_plain : ℕ → Bool
is_plain b = not (b == 32) && not (b == 10)

abbrev pub IsWord : Word → Type 0
IsWord w = list_all is_plain w ≡ true

abbrev pub AreWords : List Word → Type 0
AreWords ws = AllByRecursion IsWord ws

-- a digit's code
abbrev pub IsDigit : ℕ → Type 0
IsDigit b = (48 ≤ b) × (b ≤ 57)

-- ---- what holds of each item

pub each_append : {X : Type 0} (P : X → Type 0) (xs ys : List X) → AllByRecursion P xs → AllByRecursion P ys → AllByRecursion P (xs ++ ys)
each_append P [] ys h k = k
each_append P (x ∷ xs) ys h k = (h.0, each_append P xs ys h.1 k)

pub each_map : {A X : Type 0} (P : X → Type 0) (f : A → X) → ((a : A) → P (f a)) → (ss : List A) → AllByRecursion P (map f ss)
each_map P f all [] = tt
each_map P f all (a ∷ ss) = (all a, each_map P f all ss)

pub each_flat_map : {A X : Type 0} (P : X → Type 0) (f : A → List X) → ((a : A) → AllByRecursion P (f a)) → (ss : List A) → AllByRecursion P (flat_map f ss)
each_flat_map P f all [] = tt
each_flat_map P f all (a ∷ ss) = each_append P (f a) (flat_map f ss) (all a) (each_flat_map P f all ss)

pub each_so : {X : Type 0} (P Q : X → Type 0) → ((x : X) → P x → Q x) → (xs : List X) → AllByRecursion P xs → AllByRecursion Q xs
each_so P Q so [] h = tt
each_so P Q so (x ∷ xs) h = (so x h.0, each_so P Q so xs h.1)

-- ---- numbers

small_digit : (d : ℕ) → d < 10 → IsDigit (digit_glyph false d)
small_digit d lt = go (nat_lt d 10) refl where
  go : (b : Bool) → nat_lt d 10 ≡ b → IsDigit (cond b (48 + d) (87 + d))
  go true e = (omega arith, omega arith)
  go false e = absurd (grind (arith, nat_tests, lt, e))

digits_onto_are : (k n : ℕ) (acc : List ℕ) → AllByRecursion IsDigit acc → AllByRecursion IsDigit (digits_onto k 10 false n acc)
digits_onto_are zero n acc h = h
digits_onto_are (suc k) n acc h =
    let first : IsDigit (digit_glyph false (n % 10)) = small_digit (n % 10) (omega arith) in
    either (n / 10 == 0) _ _ (first, h) (digits_onto_are k (n / 10) (digit_glyph false (n % 10) ∷ acc) (first, h))
  where
    either : (b : Bool) (xs ys : List ℕ) → AllByRecursion IsDigit xs → AllByRecursion IsDigit ys → AllByRecursion IsDigit (cond b xs ys)
    either true xs ys p q = p
    either false xs ys p q = q

-- a number is written in digits
pub decimal_digits : (n : ℕ) → AllByRecursion IsDigit (decimal n)
unfolding digits
decimal_digits n = digits_onto_are 64 n [] tt

some_of : (b : Bool) (xs ys : List ℕ) → 0 < length xs → 0 < length ys → 0 < length (cond b xs ys)
some_of true xs ys p q = p
some_of false xs ys p q = q

some_onto : (k n : ℕ) (acc : List ℕ) → 0 < length acc → 0 < length (digits_onto k 10 false n acc)
some_onto zero n acc h = h
some_onto (suc k) n acc h =
    some_of (n / 10 == 0) (digit_glyph false (n % 10) ∷ acc) _ (omega arith) (some_onto k (n / 10) (digit_glyph false (n % 10) ∷ acc) (omega arith))

some_at_once : (k n : ℕ) → 0 < length (digits_onto (suc k) 10 false n [])
some_at_once k n =
    some_of (n / 10 == 0) (digit_glyph false (n % 10) ∷ []) _ (omega arith) (some_onto k (n / 10) (digit_glyph false (n % 10) ∷ []) (omega arith))

-- in at least one
pub decimal_some : (n : ℕ) → 0 < length (decimal n)
unfolding digits
decimal_some n = some_at_once 63 n

pub digit_plain : (b : ℕ) → IsDigit b → is_plain b ≡ true
digit_plain b h = go (eqb b 32) refl (eqb b 10) refl where
  go : (x : Bool) → eqb b 32 ≡ x → (y : Bool) → eqb b 10 ≡ y → (not x && not y) ≡ true
  go false e false f = refl
  go false e true f = absurd (grind (arith, nat_tests, h.0, h.1, f))
  go true e y f = absurd (grind (arith, nat_tests, h.0, h.1, e))

all_plain : (w : List ℕ) → AllByRecursion (λ b. is_plain b ≡ true) w → IsWord w
all_plain [] h = refl
all_plain (b ∷ bs) h = rw h.0 (all_plain bs h.1)

pub decimal_word : (n : ℕ) → IsWord (decimal n)
decimal_word n = all_plain (decimal n) (each_so IsDigit (λ b. is_plain b ≡ true) digit_plain (decimal n) (decimal_digits n))

IsWord-append : (v w : Word) → IsWord v → IsWord w → IsWord (v ++ w)
IsWord-append [] w h k = k
IsWord-append (b ∷ bs) w h k = both (is_plain b) (list_all is_plain bs) (list_all is_plain (bs ++ w)) h (λ rest. IsWord-append bs w rest k)
  where
    both : (x y z : Bool) → (x && y) ≡ true → (y ≡ true → z ≡ true) → (x && z) ≡ true
    both true y z e so = so e
    both false y z e so = absurd (cc)

pub dotted_word : (m n : ℕ) → IsWord (decimal m ++ 46 ∷ decimal n)
dotted_word m n = IsWord-append (decimal m) (46 ∷ decimal n) (decimal_word m) (decimal_word n)

-- ---- words of a line

parts : (x y z : Bool) → ((not x && not y) && z) ≡ true → (x ≡ false) × (y ≡ false) × (z ≡ true)
parts false false z h = (refl, refl, h)
parts true y z h = absurd (cc)
parts false true z h = absurd (cc)

no_space : (w : List ℕ) → IsWord w → AllByRecursion (λ b. eqb b 32 ≡ false) w
no_space [] h = tt
no_space (b ∷ bs) h = let p = parts (eqb b 32) (eqb b 10) (list_all is_plain bs) h in (p.0, no_space bs p.2)

-- a line without a line feed
abbrev pub IsLine : List ℕ → Type 0
IsLine line = AllByRecursion (λ b. eqb b 10 ≡ false) line

no_feed : (w : List ℕ) → IsWord w → IsLine w
no_feed [] h = tt
no_feed (b ∷ bs) h = let p = parts (eqb b 32) (eqb b 10) (list_all is_plain bs) h in (p.1, no_feed bs p.2)

no_feed-spaced : (ws : List Word) → AreWords ws → IsLine (spaced ws)
no_feed-spaced [] h = tt
no_feed-spaced (w ∷ ws) h =
    each_append (λ b. eqb b 10 ≡ false) (32 ∷ w) (spaced ws) (refl, no_feed w h.0) (no_feed-spaced ws h.1)

-- words make a line without a line feed
pub words_line : (ws : List Word) → AreWords ws → IsLine (line_of ws)
words_line [] h = tt
words_line (w ∷ ws) h = each_append (λ b. eqb b 10 ≡ false) w (spaced ws) (no_feed w h.0) (no_feed-spaced ws h.1)

-- the words of a line stand between its spaces
pub words_back : (w : Word) (ws : List Word) → AreWords (w ∷ ws) → slice_split (λ b. eqb b 32) (line_of (w ∷ ws)) ≡ w ∷ ws
words_back w [] h = rw append-nil (slice_split_none (λ b. eqb b 32) w (All-from_recursion _ w (no_space w h.0)))
words_back w (v ∷ vs) h =
    slice_split_at (λ b. eqb b 32) w 32 (v ++ spaced vs) (All-from_recursion _ w (no_space w h.0)) refl
    ∙ ap (λ (x : List Word). w ∷ x) (words_back v vs h.1)

-- two lines of one text have the same words
pub same_words : (w v : Word) (ws vs : List Word) → AreWords (w ∷ ws) → AreWords (v ∷ vs) → line_of (w ∷ ws) ≡ line_of (v ∷ vs) → w ∷ ws ≡ v ∷ vs
same_words w v ws vs h k e = sym (words_back w ws h) ∙ ap (slice_split (λ b. eqb b 32)) e ∙ words_back v vs k

-- ---- lines of a text

lines_back : (ls : List (List ℕ)) → AllByRecursion IsLine ls → slice_split (λ b. eqb b 10) (text_of ls) ≡ ls ++ [] ∷ []
lines_back [] h = refl
lines_back (l ∷ ls) h =
    ap (slice_split (λ b. eqb b 10)) (append_assoc l (10 ∷ []) (text_of ls))
    ∙ slice_split_at (λ b. eqb b 10) l 10 (text_of ls) (All-from_recursion _ l h.0) refl
    ∙ ap (λ (x : List (List ℕ)). l ∷ x) (lines_back ls h.1)

-- two lists of lines that make one text are the same
pub same_lines : (ls ms : List (List ℕ)) → AllByRecursion IsLine ls → AllByRecursion IsLine ms → text_of ls ≡ text_of ms → ls ≡ ms
same_lines ls ms h k e =
    append_cancel_right ls ms ([] ∷ []) (sym (lines_back ls h) ∙ ap (slice_split (λ b. eqb b 10)) e ∙ lines_back ms k)
