-- The sum as it is made, word by word, and the one sum of all words.
use Rattle.std.proofs.Common.{◌≡◌, ℕ, zero, suc, ◌+◌, ◌-◌, ◌*◌, ◌%◌, ◌<◌, ◌≤◌, List, [], ◌∷◌, ◌++◌, length, get_or, drop, refl, sym, ap, ◌∙◌, inl, inr, arith}
use Rattle.std.proofs.lemmas.Bool.{cases_lt}
use Rattle.std.proofs.lemmas.Bool.Decides.{nat_tests}
use Rattle.std.proofs.lemmas.List.Sums.{sum_by-cons}
use Rattle.spin_headers.specs.Sums.{sum_words, word_total, folded, word_sum}
use Rattle.byteorder.specs.Endian.{big_number}

pub folded_positive : (n : ℕ) → 0 < n → folded n ≡ (n - 1) % 65535 + 1
folded_positive n h = grind (arith, nat_tests)

-- what folding keeps
pub folded_keeps : (n m : ℕ) → folded n ≡ m → (m ≤ 65535) × (m % 65535 ≡ n % 65535) × (m ≤ n) × (0 < n → 0 < m)
folded_keeps zero m e = (omega arith, omega arith, omega arith, λ h. omega arith)
folded_keeps (suc n) m e = let f = folded_positive (suc n) (omega arith) in (omega arith, omega arith, omega arith, λ h. omega arith)

-- and that nothing else does
pub folded_only : (n m : ℕ) → m ≤ 65535 → m % 65535 ≡ n % 65535 → m ≤ n → (0 < n → 0 < m) → folded n ≡ m
folded_only zero m small same below positive = omega arith
folded_only (suc n) m small same below positive =
    let f = folded_positive (suc n) (omega arith) in
    let p : 0 < m = positive (omega arith) in
    omega arith

pub folded_small : (n : ℕ) → n ≤ 65535 → folded n ≡ n
folded_small n h = folded_only n n h refl (omega arith) (λ p. p)

-- a sum may be folded as it goes
pub folded_again : (n m : ℕ) → folded (folded n + m) ≡ folded (n + m)
folded_again n m =
    let k = folded_keeps n (folded n) refl in
    let r = folded_keeps (n + m) (folded (n + m)) refl in
    let p = r.3 in
    let q = k.3 in
    folded_only (folded n + m) (folded (n + m)) (omega arith) (omega arith) (grind arith) (grind arith)

two_bytes : (a b : ℕ) → a * 256 + (b * 1 + 0) ≡ 256 * a + b
two_bytes a b = omega arith

-- the words from the front
pub first_word : (bytes : List ℕ) → 2 ≤ length bytes → word_total bytes ≡ big_number 2 bytes + word_total (drop 2 bytes)
first_word [] h = absurd (omega arith)
first_word (a ∷ []) h = absurd (omega arith)
first_word (a ∷ (b ∷ rest)) h =
    let number : big_number 2 (a ∷ (b ∷ rest)) ≡ 256 * a + b = two_bytes a b in
    sum_by-cons (λ x. x) (256 * a + b) (sum_words rest) ∙ ap (λ n. n + word_total rest) (sym number)

pub last_word : (bytes : List ℕ) → length bytes ≡ 1 → word_total bytes ≡ 256 * get_or bytes 0 0
last_word [] h = absurd (omega arith)
last_word (a ∷ []) h = omega arith
last_word (a ∷ (b ∷ rest)) h = absurd (omega arith)

pub no_word : (bytes : List ℕ) → length bytes ≡ 0 → word_total bytes ≡ 0
no_word [] h = refl
no_word (a ∷ rest) h = absurd (omega arith)

-- one word more
pub step : (total next all : ℕ) (bytes after : List ℕ) → 2 ≤ length bytes → next ≡ folded (total + big_number 2 bytes)
    → folded (total + word_total bytes) ≡ all → after ≡ drop 2 bytes → folded (next + word_total after) ≡ all
step total next all bytes after h e known is =
    ap (λ bs. folded (next + word_total bs)) is
    ∙ ap (λ n. folded (n + word_total (drop 2 bytes))) e
    ∙ folded_again (total + big_number 2 bytes) (word_total (drop 2 bytes))
    ∙ ap folded (let w = first_word bytes h in omega arith)
    ∙ known

pub ends_even : (total all : ℕ) (bytes : List ℕ) → length bytes ≡ 0 → total ≤ 65535 → folded (total + word_total bytes) ≡ all → total ≡ all
ends_even total all bytes h small known =
    sym (folded_small total small) ∙ ap folded (let w = no_word bytes h in omega arith) ∙ known

pub ends_odd : (total last next all : ℕ) (bytes : List ℕ) → length bytes ≡ 1 → last ≡ get_or bytes 0 0 * 256 → next ≡ folded (total + last) → folded (total + word_total bytes) ≡ all → next ≡ all
ends_odd total last next all bytes h l e known =
    e ∙ ap folded (let w = last_word bytes h in omega arith) ∙ known

-- the words of bytes that follow whole words
pub total-append : (xs ys : List ℕ) → length xs % 2 ≡ 0 → word_total (xs ++ ys) ≡ word_total xs + word_total ys
total-append [] ys h = omega arith
total-append (a ∷ []) ys h = absurd (omega arith)
total-append (a ∷ (b ∷ xs)) ys h =
    let both = sum_by-cons (λ x. x) (256 * a + b) (sum_words (xs ++ ys)) in
    let one = sum_by-cons (λ x. x) (256 * a + b) (sum_words xs) in
    let rest = total-append xs ys (omega arith) in
    omega arith

-- a sum over two lists in turn is that of both
pub sum_joined : (xs ys : List ℕ) (first both : ℕ) → length xs % 2 ≡ 0 → first ≡ folded (0 + word_total xs) → both ≡ folded (first + word_total ys) → both ≡ word_sum (xs ++ ys)
sum_joined xs ys first both h f b =
    b
    ∙ ap (λ n. folded (n + word_total ys)) f
    ∙ folded_again (0 + word_total xs) (word_total ys)
    ∙ ap folded (let t = total-append xs ys h in omega arith)

-- sums that are congruent are folded to one number, unless one alone is 0
pub folded_same : (n m : ℕ) → n % 65535 ≡ m % 65535 → (0 < n → 0 < m) → (0 < m → 0 < n) → folded n ≡ folded m
folded_same zero m same forth back =
    elim (cases_lt 0 m) [
      | inl p ↦ absurd (omega (arith, back p))
      | inr none ↦ let e : 0 ≡ m = omega arith in ap folded e
    ]
folded_same (suc n) m same forth back =
    let k = folded_keeps m (folded m) refl in
    let p : 0 < folded m = k.3 (forth (omega arith)) in
    folded_only (suc n) (folded m) (omega arith) (omega arith) (omega arith) (λ h. p)

four_bytes : (a b c d : ℕ) → a * 16777216 + (b * 65536 + (c * 256 + (d * 1 + 0))) ≡ 65536 * (256 * a + b) + (256 * c + d)
four_bytes a b c d = omega arith

-- two words from the front
first_pair : (bytes : List ℕ) → 4 ≤ length bytes
    → (high : ℕ) × (low : ℕ) × (word_total bytes ≡ high + low + word_total (drop 4 bytes)) × (big_number 4 bytes ≡ 65536 * high + low)
first_pair [] h = absurd (omega arith)
first_pair (a ∷ []) h = absurd (omega arith)
first_pair (a ∷ (b ∷ [])) h = absurd (omega arith)
first_pair (a ∷ (b ∷ (c ∷ []))) h = absurd (omega arith)
first_pair (a ∷ (b ∷ (c ∷ (d ∷ rest)))) h =
    let one = sum_by-cons (λ x. x) (256 * a + b) (sum_words (c ∷ (d ∷ rest))) in
    let two = sum_by-cons (λ x. x) (256 * c + d) (sum_words rest) in
    (256 * a + b, 256 * c + d, omega arith, four_bytes a b c d)

-- two words more
pub pair_step : (total next all : ℕ) (bytes after : List ℕ) → 4 ≤ length bytes → next % 65535 ≡ (total + big_number 4 bytes) % 65535 → (0 < total + big_number 4 bytes → 0 < next)
    → next ≤ total + big_number 4 bytes
    → folded (total + word_total bytes) ≡ all → after ≡ drop 4 bytes → folded (next + word_total after) ≡ all
pair_step total next all bytes after h same some few known is =
    let pair = first_pair bytes h in
    let words = pair.2 in
    let number = pair.3 in
    let back : 0 < total + word_total bytes → 0 < next + word_total (drop 4 bytes) = λ p. elim (cases_lt 0 (total + big_number 4 bytes)) [
      | inl q ↦ omega (arith, some q)
      | inr none ↦ omega arith
    ] in
    ap (λ bs. folded (next + word_total bs)) is
    ∙ folded_same (next + word_total (drop 4 bytes)) (total + word_total bytes) (omega arith) (λ p. omega arith) back
    ∙ known
