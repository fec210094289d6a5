-- What stood in front of bytes still does, where they only grew.
use Rattle.std.proofs.Common.{◌≡◌, ℕ, List, ◌++◌, length, take, refl, sym, ap, ◌∙◌, arith}
use Rattle.std.specs.Prelude.{Result, Ok, Err, OnErr}
use Rattle.std.proofs.lemmas.List.{take-take, take_at, take_all, length-append}

pub kept_same : (a b : List ℕ) → b ≡ a → take (length a) b ≡ a
kept_same a b e = take_all (length a) b (omega (arith, ap length e)) ∙ e

pub kept_more : (a b c w : List ℕ) → b ≡ a ++ w → take (length b) c ≡ b → take (length a) c ≡ a
kept_more a b c w e h =
    sym (take-take (length a) (length b) c (omega (arith, ap length e, length-append a w)))
    ∙ ap (take (length a)) (h ∙ e)
    ∙ take_at a w (length a) refl

pub kept_on : {T E : Type 0} (r : Result T E) (a b c w : List ℕ) → b ≡ a ++ w → OnErr r (take (length b) c ≡ b) → OnErr r (take (length a) c ≡ a)
kept_on (Ok x) a b c w e h = h
kept_on (Err x) a b c w e h = kept_more a b c w e h
