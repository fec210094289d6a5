-- Bytes that are cut into pieces of known lengths, and one piece more.
use Rattle.std.proofs.Common.{◌≡◌, ◌≤◌, ◌+◌, ℕ, List, [], ◌∷◌, ◌++◌, length, take, drop, refl, ap, ◌∙◌, arith}
use Rattle.std.proofs.lemmas.List.{take-append-le, drop-append-le, length-drop, take_all}
use Rattle.spin_endpoint.specs.Inner.Cutting.{total, cut}

pub total_more : (lens : List ℕ) (len : ℕ) → total (lens ++ len ∷ []) ≡ total lens + len
total_more [] len = omega arith
total_more (n ∷ ns) len = ap (λ m. n + m) (total_more ns len) ∙ omega arith

empty : (bytes : List ℕ) → 0 ≡ length bytes → bytes ≡ []
empty [] none = refl
empty (b ∷ bs) none = absurd (omega (arith, none))

pub cut_more : (lens bytes piece : List ℕ) → total lens ≡ length bytes → cut (lens ++ length piece ∷ []) (bytes ++ piece) ≡ cut lens bytes ++ piece ∷ []
cut_more [] bytes piece whole =
    ap (λ bs. cut (length piece ∷ []) (bs ++ piece)) (empty bytes whole) ∙ ap (λ p. p ∷ []) (take_all (length piece) piece (omega arith))
cut_more (n ∷ ns) bytes piece whole =
    let within : n ≤ length bytes = omega (arith, whole) in
    ap (λ p. p ∷ cut (ns ++ length piece ∷ []) (drop n (bytes ++ piece))) (take-append-le n bytes piece within)
    ∙ ap (λ bs. take n bytes ∷ cut (ns ++ length piece ∷ []) bs) (drop-append-le n bytes piece within)
    ∙ ap (λ ps. take n bytes ∷ ps) (cut_more ns (drop n bytes) piece (omega (arith, whole, length-drop n bytes)))
