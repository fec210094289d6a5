-- Reading a number digit by digit.
use Rattle.std.proofs.Common.{◌≡◌, ℕ, ◌+◌, ◌*◌, ◌<◌, ◌≤◌, Bool, true, false, cond, ltb, leb, List, [], ◌∷◌, length, drop, get_or, Option, Some, None, refl, ◌∙◌, arith, add-one, drop-cons}
use Rattle.std.specs.List.{list_all}
use Rattle.std.specs.Char.{digit_value}
use Rattle.std.specs.Str.Parse.{digits_value_after}
use Rattle.std.proofs.lemmas.Bool.Decides.{nat_tests}
use Rattle.std.proofs.lemmas.Bool.{lt-ltb, le-ltb}
use Rattle.std.proofs.lemmas.List.{drop_all}
use Rattle.spin_grammar.specs.Spelling.{is_digit, numeral, within, greatest}

-- the number that digits write behind those of n
abbrev pub goes : ℕ → ℕ → List ℕ → Option ℕ
goes radix n ds = within 0 greatest (cond (list_all (is_digit radix) ds) (Some (digits_value_after radix n ds)) None)

pub begins : (radix : ℕ) (ds : List ℕ) → 0 < length ds → goes radix 0 ds ≡ within 0 greatest (numeral radix ds)
begins radix [] h = absurd (omega arith)
begins radix (c ∷ cs) h =
    let t : ltb 0 (length (c ∷ cs)) ≡ true = grind (arith, nat_tests) in
    rw t refl

too_large : (n : ℕ) → greatest < n → within 0 greatest (Some n) ≡ None
too_large n h =
    let t : leb n greatest ≡ false = grind (arith, nat_tests) in
    let z : leb 0 n ≡ true = grind (arith, nat_tests) in
    rw (t, z) refl

pub fits : (n : ℕ) → n ≤ greatest → within 0 greatest (Some n) ≡ Some n
fits n h =
    let t : leb n greatest ≡ true = grind (arith, nat_tests) in
    let z : leb 0 n ≡ true = grind (arith, nat_tests) in
    rw (t, z) refl

grows : (radix n d : ℕ) → 1 ≤ radix → greatest < n → greatest < n * radix + d
grows radix n d low h = grind arith

exceeds_or : (radix n c : ℕ) (cs : List ℕ) (b : Bool) → is_digit radix c ≡ b → goes radix (n * radix + digit_value c) cs ≡ None → goes radix n (c ∷ cs) ≡ None
exceeds_or radix n c cs true e rest = rw e rest
exceeds_or radix n c cs false e rest = rw e refl

pub exceeds : (radix n : ℕ) (ds : List ℕ) → 1 ≤ radix → greatest < n → goes radix n ds ≡ None
exceeds radix n [] low h = too_large n h
exceeds radix n (c ∷ cs) low h = exceeds_or radix n c cs (is_digit radix c) refl (exceeds radix (n * radix + digit_value c) cs low (grows radix n (digit_value c) low h))

at_digit : (radix n c : ℕ) (cs : List ℕ) → digit_value c < radix → goes radix n (c ∷ cs) ≡ goes radix (n * radix + digit_value c) cs
at_digit radix n c cs h = let t : is_digit radix c ≡ true = lt-ltb _ _ h in rw t refl

at_other : (radix n c : ℕ) (cs : List ℕ) → radix ≤ digit_value c → goes radix n (c ∷ cs) ≡ None
at_other radix n c cs h = let t : is_digit radix c ≡ false = le-ltb _ _ h in rw t refl

next : (ds : List ℕ) (i c : ℕ) → i < length ds → c ≡ get_or ds i 0 → drop i ds ≡ c ∷ drop (i + 1) ds
next ds i c h e = rw (add-one, drop-cons ds i 0, e) refl

pub goes_on : (radix n : ℕ) (ds : List ℕ) (i c : ℕ) → i < length ds → c ≡ get_or ds i 0 → digit_value c < radix → goes radix n (drop i ds) ≡ goes radix (n * radix + digit_value c) (drop (i + 1) ds)
goes_on radix n ds i c h e d = rw (next ds i c h e) (at_digit radix n c (drop (i + 1) ds) d)

pub stops_at : (radix n : ℕ) (ds : List ℕ) (i c : ℕ) → i < length ds → c ≡ get_or ds i 0 → radix ≤ digit_value c → goes radix n (drop i ds) ≡ None
stops_at radix n ds i c h e d = rw (next ds i c h e) (at_other radix n c (drop (i + 1) ds) d)

pub too_many : (radix n : ℕ) (ds : List ℕ) (i c : ℕ) → 1 ≤ radix → i < length ds → c ≡ get_or ds i 0 → digit_value c < radix → greatest < n * radix + digit_value c → goes radix n (drop i ds) ≡ None
too_many radix n ds i c low h e d large = goes_on radix n ds i c h e d ∙ exceeds radix (n * radix + digit_value c) (drop (i + 1) ds) low large

pub finished : (radix n : ℕ) (ds : List ℕ) (i : ℕ) → length ds ≤ i → n ≤ greatest → goes radix n (drop i ds) ≡ Some n
finished radix n ds i h small = rw drop_all (fits n small)
