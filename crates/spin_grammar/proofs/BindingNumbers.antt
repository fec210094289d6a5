-- Numbers of bindings that rise are those of a command.
use Rattle.std.proofs.Common.{◌≡◌, ℕ, ◌+◌, ◌<◌, ◌≤◌, true, leb, ltb, IsTrue, List, [], ◌∷◌, ◌++◌, length, refl, arith}
use Rattle.std.proofs.lemmas.Bool.{lt-ltb}
use Rattle.std.proofs.lemmas.Bool.Decides.{nat_tests}
use Rattle.spin_word.specs.Commands.{bindings_or_none}
use Rattle.spin_grammar.specs.Forms.{padded}

-- the numbers rise and stay below the limit
abbrev pub IsRising : List ℕ → ℕ → Type 0
IsRising [] low = Unit {0}
IsRising (n ∷ []) low = n < low
IsRising (n ∷ (m ∷ ns)) low = (n < m) × IsRising (m ∷ ns) low

pub rising_more : (ns : List ℕ) (low n : ℕ) → IsRising ns low → low ≤ n → IsRising (ns ++ n ∷ []) (n + 1)
rising_more [] low n h l = omega arith
rising_more (a ∷ []) low n h l = (omega arith, omega arith)
rising_more (a ∷ (b ∷ ns)) low n h l = (h.0, rising_more (b ∷ ns) low n h.1 l)

at_most : (n : ℕ) → n ≤ 4096 → leb n 4096 ≡ true
at_most n h = grind (arith, nat_tests)

less : (n m : ℕ) → n < m → ltb n m ≡ true
less n m h = lt-ltb n m h

pub rising_bindings : (ns : List ℕ) (low : ℕ) → IsRising ns low → low ≤ 4097 → length ns ≤ 4 → IsTrue (bindings_or_none (padded ns))
rising_bindings [] low h l n = refl
rising_bindings (a ∷ []) low h l n =
    let a1 : leb a 4096 ≡ true = at_most a (omega arith) in
    let a2 : ltb a 65535 ≡ true = less a 65535 (omega arith) in
    rw (a1, a2) refl
rising_bindings (a ∷ (b ∷ [])) low h l n =
    let a1 : leb a 4096 ≡ true = at_most a (omega arith) in
    let b1 : leb b 4096 ≡ true = at_most b (omega arith) in
    let ab : ltb a b ≡ true = less a b h.0 in
    let b2 : ltb b 65535 ≡ true = less b 65535 (omega arith) in
    rw (a1, b1, ab, b2) refl
rising_bindings (a ∷ (b ∷ (d ∷ []))) low h l n =
    let a1 : leb a 4096 ≡ true = at_most a (omega arith) in
    let b1 : leb b 4096 ≡ true = at_most b (omega arith) in
    let d1 : leb d 4096 ≡ true = at_most d (omega arith) in
    let ab : ltb a b ≡ true = less a b h.0 in
    let bd : ltb b d ≡ true = less b d h.1.0 in
    let d2 : ltb d 65535 ≡ true = less d 65535 (omega arith) in
    rw (a1, b1, d1, ab, bd, d2) refl
rising_bindings (a ∷ (b ∷ (d ∷ (e ∷ [])))) low h l n =
    let a1 : leb a 4096 ≡ true = at_most a (omega arith) in
    let b1 : leb b 4096 ≡ true = at_most b (omega arith) in
    let d1 : leb d 4096 ≡ true = at_most d (omega arith) in
    let e1 : leb e 4096 ≡ true = at_most e (omega arith) in
    let ab : ltb a b ≡ true = less a b h.0 in
    let bd : ltb b d ≡ true = less b d h.1.0 in
    let de : ltb d e ≡ true = less d e h.1.1.0 in
    rw (a1, b1, d1, e1, ab, bd, de) refl
rising_bindings (a ∷ (b ∷ (d ∷ (e ∷ (f ∷ more))))) low h l n = absurd (omega (arith, n))
