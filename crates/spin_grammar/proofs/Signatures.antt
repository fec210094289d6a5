-- Signatures and bytes that are spelled canonically are those that they were.
use Rattle.std.proofs.Common.{◌≡◌, ℕ, zero, suc, ◌+◌, ◌-◌, ◌*◌, ◌/◌, ◌%◌, ◌<◌, ◌≤◌, ◌&&◌, ◌⊎◌, inl, inr, Bool, true, false, cond, eqb, leb, ltb}
use Rattle.std.proofs.Common.{List, [], ◌∷◌, ◌++◌, length, take, drop, map, Option, Some, None, codes, bytes_eq, refl, ap, ◌∙◌, arith, length-append}
use Rattle.std.specs.List.{list_all}
use Rattle.std.specs.Option.{option_map}
use Rattle.std.specs.Char.{digit_value, digit_char}
use Rattle.std.proofs.lemmas.Str.{digit_value-digit_char}
use Rattle.std.proofs.lemmas.Bool.Decides.{nat_tests}
use Rattle.std.proofs.lemmas.Bool.{lt-ltb}
use Rattle.spin_values.specs.declared.types.Kind.{Kind}
use Rattle.spin_values.specs.declared.types.Kind.TheVariants as kind
use Rattle.spin_values.specs.declared.types.Param.{Param}
use Rattle.spin_values.specs.declared.types.EventType.{EventType}
use Rattle.spin_grammar.specs.Spelling.{is_digit, is_letter, param_of, params_of, says_result, as_type, signature, guard_signature, hex_bytes}
use Rattle.spin_text.specs.Digits.{hex_digits}
use Rattle.spin_grammar.specs.Canonical.{letter, letters, params_word, signature_word}

-- ---- letters

as_long : {A B : Type 0} (f : A → B) (xs : List A) → length (map f xs) ≡ length xs
as_long f [] = refl
as_long f (x ∷ xs) = ap suc (as_long f xs)

is_a_letter : (k : Kind) (v : Bool) → is_letter (letter k v) ≡ true
is_a_letter kind.Word false = refl
is_a_letter kind.Word true = refl
is_a_letter kind.Bytes false = refl
is_a_letter kind.Bytes true = refl

no_dash : (k : Kind) (v : Bool) (more : List ℕ) → bytes_eq (letter k v ∷ more) (codes "-") ≡ false
no_dash kind.Word false more = refl
no_dash kind.Word true more = refl
no_dash kind.Bytes false more = refl
no_dash kind.Bytes true more = refl

no_native : (k : Kind) (v : Bool) (more : List ℕ) → bytes_eq (letter k v ∷ more) (codes "native") ≡ false
no_native kind.Word false more = refl
no_native kind.Word true more = refl
no_native kind.Bytes false more = refl
no_native kind.Bytes true more = refl

all_letters : (ps : List Param) → list_all is_letter (letters ps) ≡ true
all_letters [] = refl
all_letters (p ∷ ps) = rw (is_a_letter p.kind p.var) (all_letters ps)

-- the marks matter, or there are none
abbrev pub IsMarked : Bool → List Param → Type 0
IsMarked true ps = Unit {0}
IsMarked false [] = Unit {0}
IsMarked false (p ∷ ps) = (p.var ≡ false) × IsMarked false ps

param_back : (k : Kind) (v : Bool) → param_of true (letter k v) ≡ record { kind = k; var = v }
param_back kind.Word false = refl
param_back kind.Word true = refl
param_back kind.Bytes false = refl
param_back kind.Bytes true = refl

plain_back : (k : Kind) (v : Bool) → v ≡ false → param_of false (letter k v) ≡ record { kind = k; var = v }
plain_back kind.Word false e = refl
plain_back kind.Word true e = absurd cc
plain_back kind.Bytes false e = refl
plain_back kind.Bytes true e = absurd cc

params_back : (marks : Bool) (ps : List Param) → IsMarked marks ps → map (param_of marks) (letters ps) ≡ ps
params_back true [] h = refl
params_back false [] h = refl
params_back true (p ∷ ps) h = ap (λ (x : Param). x ∷ map (param_of true) (letters ps)) (param_back p.kind p.var) ∙ ap (λ (xs : List Param). p ∷ xs) (params_back true ps tt)
params_back false (p ∷ ps) h = ap (λ (x : Param). x ∷ map (param_of false) (letters ps)) (plain_back p.kind p.var h.0) ∙ ap (λ (xs : List Param). p ∷ xs) (params_back false ps h.1)

pub params_again : (marks : Bool) (ps : List Param) → IsMarked marks ps → length ps ≤ 8 → params_of marks (params_word ps) ≡ Some ps
params_again marks [] h n = refl
params_again marks (p ∷ ps) h n =
    let size : length (letters (p ∷ ps)) ≡ length (p ∷ ps) = as_long (λ (q : Param). letter q.kind q.var) (p ∷ ps) in
    let low : leb 1 (length (letters (p ∷ ps))) ≡ true = grind (arith, nat_tests, size) in
    let high : leb (length (letters (p ∷ ps))) 8 ≡ true = grind (arith, nat_tests, size, n) in
    rw (no_dash p.kind p.var (letters ps), low, high, all_letters (p ∷ ps), params_back marks (p ∷ ps) h) refl

-- ---- the end :w

no_end : (c d : ℕ) → eqb c 58 ≡ false → bytes_eq (c ∷ d ∷ []) (codes ":w") ≡ false
no_end c d h = rw h refl

no_colon : (k : Kind) (v : Bool) → eqb (letter k v) 58 ≡ false
no_colon kind.Word false = refl
no_colon kind.Word true = refl
no_colon kind.Bytes false = refl
no_colon kind.Bytes true = refl

-- letters don't end with :w
ends : (ps : List Param) (k : ℕ) → bytes_eq (drop k (letters ps)) (codes ":w") ≡ false
ends [] zero = refl
ends [] (suc k) = refl
ends (p ∷ ps) zero = rw (no_colon p.kind p.var) refl
ends (p ∷ ps) (suc k) = ends ps k

and_false : (b : Bool) → (b && false) ≡ false
and_false true = refl
and_false false = refl

pub no_result : (ps : List Param) → says_result (params_word ps) ≡ false
no_result [] = refl
no_result (p ∷ ps) = rw (ends (p ∷ ps) (length (letters (p ∷ ps)) - 2)) (and_false (leb 2 (length (letters (p ∷ ps)))))

front : (xs ys : List ℕ) (n : ℕ) → n ≡ length xs → take n (xs ++ ys) ≡ xs
front [] ys n e = rw e refl
front (x ∷ xs) ys zero e = absurd (omega (arith, e))
front (x ∷ xs) ys (suc n) e = ap (λ (zs : List ℕ). x ∷ zs) (front xs ys n (omega (arith, e)))

back : (xs ys : List ℕ) (n : ℕ) → n ≡ length xs → drop n (xs ++ ys) ≡ ys
back [] ys n e = rw e refl
back (x ∷ xs) ys zero e = absurd (omega (arith, e))
back (x ∷ xs) ys (suc n) e = back xs ys n (omega (arith, e))

at_end : (xs : List ℕ) → length (xs ++ codes ":w") - 2 ≡ length xs
at_end xs = omega (arith, length-append xs (codes ":w"))

some_result : (xs : List ℕ) → says_result (xs ++ codes ":w") ≡ true
some_result xs =
    let size : leb 2 (length (xs ++ codes ":w")) ≡ true = grind (arith, nat_tests, length-append xs (codes ":w")) in
    rw (size, back xs (codes ":w") (length (xs ++ codes ":w") - 2) (at_end xs)) refl

-- ---- signatures

pub one_of : {A : Type 0} (b : Bool) (x y : A) (z : A) → cond b x y ≡ z → ((b ≡ true) × (x ≡ z)) ⊎ ((b ≡ false) × (y ≡ z))
one_of true x y z e = inl (refl, e)
one_of false x y z e = inr (refl, e)

marked : (m : Bool) (xs : List ℕ) → IsMarked m (map (param_of m) xs)
marked true xs = tt
marked false [] = tt
marked false (x ∷ xs) = (refl, marked false xs)

unmarked : (m : Bool) → IsMarked m []
unmarked true = tt
unmarked false = tt

some_same : {A : Type 0} (x y : A) → Some x ≡ Some y → x ≡ y
some_same x y e = cc

of_letters : (marks : Bool) (w : List ℕ) (ps : List Param) → (leb 1 (length w) && leb (length w) 8 && list_all is_letter w) ≡ true → map (param_of marks) w ≡ ps → IsMarked marks ps × (length ps ≤ 8)
of_letters marks w ps t same =
    let short : length w ≤ 8 = grind (arith, nat_tests, t) in
    rw (← same) (marked marks w, omega (arith, as_long (param_of marks) w, short))

-- what the letters of a word stand for
params_of_word : (marks : Bool) (w : List ℕ) (ps : List Param) → params_of marks w ≡ Some ps → IsMarked marks ps × (length ps ≤ 8)
params_of_word marks w ps e =
    elim (one_of (bytes_eq w (codes "-")) (Some []) (cond (leb 1 (length w) && leb (length w) 8 && list_all is_letter w) (Some (map (param_of marks) w)) None) (Some ps) e) [
      | inl h ↦ let same : [] ≡ ps = some_same [] ps h.1 in rw (← same) (unmarked marks, omega arith)
      | inr h ↦ elim (one_of (leb 1 (length w) && leb (length w) 8 && list_all is_letter w) (Some (map (param_of marks) w)) None (Some ps) h.1) [
        | inl k ↦ of_letters marks w ps k.0 (some_same (map (param_of marks) w) ps k.1)
        | inr k ↦ absurd (let bad : None ≡ Some ps = k.1 in cc)
      ]
    ]

typed : (gives : Bool) (o : Option (List Param)) (sig : EventType) → as_type gives o ≡ Some sig → (ps : List Param) × (o ≡ Some ps) × (record { params = ps; gives = gives } ≡ sig)
typed gives None sig e = absurd cc
typed gives (Some ps) sig e = (ps, refl, some_same (record { params = ps; gives = gives }) sig e)

with_result : (ps : List Param) → length ps ≤ 8 → signature (params_word ps ++ codes ":w") ≡ Some (record { params = ps; gives = true })
unfolding signature
with_result ps n = rw (some_result (params_word ps), front (params_word ps) (codes ":w") (length (params_word ps ++ codes ":w") - 2) (at_end (params_word ps)), params_again true ps tt n) refl

without_result : (ps : List Param) → length ps ≤ 8 → signature (params_word ps) ≡ Some (record { params = ps; gives = false })
unfolding signature
without_result ps n = rw (no_result ps, params_again true ps tt n) refl

spelled : (ps : List Param) (gives : Bool) → length ps ≤ 8 → signature (signature_word (record { params = ps; gives = gives })) ≡ Some (record { params = ps; gives = gives })
spelled ps true n = with_result ps n
spelled ps false n = without_result ps n

few : (gives : Bool) (w : List ℕ) (sig : EventType) → as_type gives (params_of true w) ≡ Some sig → length sig.params ≤ 8
few gives w sig e =
    let t = typed gives (params_of true w) sig e in
    let h = params_of_word true w t.0 t.1 in
    rw (← t.2) h.1

few_params : (w : List ℕ) (sig : EventType) → signature w ≡ Some sig → length sig.params ≤ 8
unfolding signature
few_params w sig e =
    elim (one_of (says_result w) (as_type true (params_of true (take (length w - 2) w))) (as_type false (params_of true w)) (Some sig) e) [
      | inl h ↦ few true (take (length w - 2) w) sig h.1
      | inr h ↦ few false w sig h.1
    ]

pub signature_again : (w : List ℕ) (sig : EventType) → signature w ≡ Some sig → signature (signature_word sig) ≡ Some sig
signature_again w sig e = spelled sig.params sig.gives (few_params w sig e)

plain : (ps : List Param) → IsMarked false ps → length ps ≤ 8 → guard_signature (params_word ps) ≡ Some (record { params = ps; gives = false })
unfolding guard_signature
plain ps m n = rw (no_result ps, params_again false ps m n) refl

guard_typed : (w : List ℕ) (sig : EventType) → guard_signature w ≡ Some sig → as_type false (params_of false w) ≡ Some sig
unfolding guard_signature
guard_typed w sig e =
    elim (one_of (says_result w) None (as_type false (params_of false w)) (Some sig) e) [
      | inl h ↦ absurd (let bad : None ≡ Some sig = h.1 in cc)
      | inr h ↦ h.1
    ]

-- the parameters of a guard are by value, and it gives no result
pub plain_signature : (w : List ℕ) (sig : EventType) → guard_signature w ≡ Some sig → (sig.gives ≡ false) × IsMarked false sig.params
plain_signature w sig e =
    let t = typed false (params_of false w) sig (guard_typed w sig e) in
    let h = params_of_word false w t.0 t.1 in
    rw (← t.2) (refl, h.0)

pub guard_signature_again : (w : List ℕ) (sig : EventType) → guard_signature w ≡ Some sig → guard_signature (signature_word sig) ≡ Some sig
guard_signature_again w sig e =
    let t = typed false (params_of false w) sig (guard_typed w sig e) in
    let h = params_of_word false w t.0 t.1 in
    rw (← t.2) (plain t.0 h.0 h.1)

-- a signature isn't the word `native`
pub not_native : (sig : EventType) → bytes_eq (signature_word sig) (codes "native") ≡ false
not_native sig = by_params sig.params sig.gives
  where
    by_params : (ps : List Param) (gives : Bool) → bytes_eq (signature_word (record { params = ps; gives = gives })) (codes "native") ≡ false
    by_params [] true = refl
    by_params [] false = refl
    by_params (p ∷ ps) true = no_native p.kind p.var (letters ps ++ codes ":w")
    by_params (p ∷ ps) false = no_native p.kind p.var (letters ps)

-- ---- bytes

hex_pair : (b : ℕ) (more : List ℕ) → b < 256 → hex_bytes (digit_char (b / 16) ∷ (digit_char (b % 16) ∷ more)) ≡ option_map (λ (bs : List ℕ). b ∷ bs) (hex_bytes more)
hex_pair b more h =
    let high : digit_value (digit_char (b / 16)) ≡ b / 16 = digit_value-digit_char (b / 16) (omega arith) in
    let low : digit_value (digit_char (b % 16)) ≡ b % 16 = digit_value-digit_char (b % 16) (omega arith) in
    let is_high : ltb (b / 16) 16 ≡ true = lt-ltb (b / 16) 16 (omega arith) in
    let is_low : ltb (b % 16) 16 ≡ true = lt-ltb (b % 16) 16 (omega arith) in
    let same : 16 * (b / 16) + b % 16 ≡ b = omega arith in
    rw (high, low, is_high, is_low, same) refl

-- each is a byte
abbrev pub AreBytes : List ℕ → Type 0
AreBytes [] = Unit {0}
AreBytes (b ∷ bs) = (b < 256) × AreBytes bs

hex_back : (bs : List ℕ) → AreBytes bs → hex_bytes (hex_digits bs) ≡ Some bs
hex_back [] h = refl
hex_back (b ∷ bs) h = rw (hex_pair b (hex_digits bs) h.0, hex_back bs h.1) refl

read_pair : (b d : Bool) (n : ℕ) (o : Option (List ℕ)) (bs : List ℕ) → cond (b && d) (option_map (λ (xs : List ℕ). n ∷ xs) o) None ≡ Some bs
    → (b ≡ true) × (d ≡ true) × (more : List ℕ) × (o ≡ Some more) × (n ∷ more ≡ bs)
read_pair true true n (Some more) bs e = (refl, refl, more, refl, some_same (n ∷ more) bs e)
read_pair true true n None bs e = absurd cc
read_pair true false n o bs e = absurd cc
read_pair false d n o bs e = absurd cc

pub are_bytes : (ds bs : List ℕ) → hex_bytes ds ≡ Some bs → AreBytes bs
are_bytes [] bs e = let same : [] ≡ bs = some_same [] bs e in rw (← same) tt
are_bytes (a ∷ []) bs e = absurd cc
are_bytes (a ∷ (b ∷ more)) bs e =
    let p = read_pair (is_digit 16 a) (is_digit 16 b) (16 * digit_value a + digit_value b) (hex_bytes more) bs e in
    let high : digit_value a < 16 = grind (arith, nat_tests, p.0) in
    let low : digit_value b < 16 = grind (arith, nat_tests, p.1) in
    rw (← p.4) (omega arith, are_bytes more p.2 p.3)

pub bytes_again : (ds bs : List ℕ) → hex_bytes ds ≡ Some bs → hex_bytes (hex_digits bs) ≡ Some bs
bytes_again ds bs e = hex_back bs (are_bytes ds bs e)
