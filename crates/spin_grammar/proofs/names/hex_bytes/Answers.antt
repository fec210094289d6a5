use Rattle.std.proofs.Common.{◌≡◌, ℕ, ◌+◌, ◌*◌, ◌<◌, ◌++◌, List, [], ◌∷◌, Option, Some, None, refl, sym, ap, ◌∙◌, append_assoc, arith}
use Rattle.std.specs.Option.{option_map}
use Rattle.std.specs.Char.{digit_value}
use Rattle.std.proofs.lemmas.Bool.{lt-ltb}
use Rattle.spin_grammar.specs.Spelling.{hex_bytes}
use Rattle.spin_grammar.proofs.names.hex_bytes.Goals as goal

pushed : (xs : List ℕ) (n : ℕ) (o : Option (List ℕ))
    → option_map (λ (bytes : List ℕ). (xs ++ n ∷ []) ++ bytes) o ≡ option_map (λ (bytes : List ℕ). xs ++ bytes) (option_map (λ (bytes : List ℕ). n ∷ bytes) o)
pushed xs n None = refl
pushed xs n (Some bytes) = ap (λ (x : List ℕ). Some x) (append_assoc xs (n ∷ []) bytes)

step : (a b : ℕ) (more : List ℕ) → digit_value a < 16 → digit_value b < 16 → hex_bytes (a ∷ b ∷ more) ≡ option_map (λ (bytes : List ℕ). (16 * digit_value a + digit_value b) ∷ bytes) (hex_bytes more)
step a b more h l = rw (lt-ltb (digit_value a) 16 h, lt-ltb (digit_value b) 16 l) refl

kept : (xs rest after digits : List ℕ) (a b h l : ℕ) → rest ≡ a ∷ b ∷ after → h ≡ digit_value a → l ≡ digit_value b
    → h < 16 → l < 16 → option_map (λ (bytes : List ℕ). xs ++ bytes) (hex_bytes rest) ≡ hex_bytes digits
    → option_map (λ (bytes : List ℕ). (xs ++ (16 * h + l) ∷ []) ++ bytes) (hex_bytes after) ≡ hex_bytes digits
kept xs rest after digits a b h l e hd ld hs ls inv =
    let first : digit_value a < 16 = omega (arith, hd, hs) in
    let second : digit_value b < 16 = omega (arith, ld, ls) in
    let so_far : option_map (λ (bytes : List ℕ). xs ++ bytes) (hex_bytes (a ∷ b ∷ after)) ≡ hex_bytes digits = rw e at inv in
    rw (hd, ld)
    (pushed xs (16 * digit_value a + digit_value b) (hex_bytes after) ∙ ap (λ (o : Option (List ℕ)). option_map (λ (bytes : List ℕ). xs ++ bytes) o) (sym (step a b after first second)) ∙ so_far)

pub loop-first-preserved : goal.loop-first-preserved
loop-first-preserved c =
    rw c.in_ok-push.ensures.ok
    (kept c.loop-first.bytes c.loop-first.rest.now c.in-Some-split_first.after.now c.args.digits.now c.in-Some.first.now c.in-Some-split_first.second.now c.digit-high.result c.digit-low.result
    (c.in-Some.ensures.cases.0 ∙ ap (λ (r : List ℕ). c.in-Some.first.now ∷ r) c.in-Some-split_first.ensures.cases.0) c.digit-high.ensures c.digit-low.ensures
    (omega arith) (omega arith) c.loop-first.invariant)
