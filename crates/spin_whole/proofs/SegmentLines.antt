-- What holds of all lines and retirements holds of those of one segment.
use Rattle.std.proofs.Common.{◌≡◌, ℕ, zero, suc, ◌<◌, List, [], ◌∷◌, ◌++◌, length, get_or, subst, arith}
use Rattle.std.specs.Prelude.{All, AllPairs}
use Rattle.std.specs.List.{flat_map}
use Rattle.std.proofs.Math.Seq.{take-append_seam}
use Rattle.std.proofs.lemmas.List.Elements.{All-head, All-tail, All-cons}
use Rattle.spin_place.proofs.NumberLists.{AllPairs-tail, AllPairs-take}

front_all : {A : Type 0} (P : A → Type 0) (xs ys : List A) → All P (xs ++ ys) → All P xs
front_all P [] ys h = λ k d lt. absurd (omega (arith, lt))
front_all P (x ∷ xs) ys h = All-cons P x xs (All-head P x (xs ++ ys) h) (front_all P xs ys (All-tail P x (xs ++ ys) h))

behind_all : {A : Type 0} (P : A → Type 0) (xs ys : List A) → All P (xs ++ ys) → All P ys
behind_all P [] ys h = h
behind_all P (x ∷ xs) ys h = behind_all P xs ys (All-tail P x (xs ++ ys) h)

pub all_here : {S A : Type 0} (P : A → Type 0) (f : S → List A) (segments : List S) (number : ℕ) (segment : S) → number < length segments → get_or segments number segment ≡ segment
    → All P (flat_map f segments) → All P (f segment)
all_here P f [] number segment lt is h = absurd (omega (arith, lt))
all_here P f (s ∷ segments) zero segment lt is h = subst (λ t. All P (f t)) is (front_all P (f s) (flat_map f segments) h)
all_here P f (s ∷ segments) (suc number) segment lt is h = all_here P f segments number segment (omega (arith, lt)) is (behind_all P (f s) (flat_map f segments) h)

behind_pairs : {A : Type 0} (R : A → A → Type 0) (xs ys : List A) → AllPairs R (xs ++ ys) → AllPairs R ys
behind_pairs R [] ys h = h
behind_pairs R (x ∷ xs) ys h = behind_pairs R xs ys (AllPairs-tail R x (xs ++ ys) h)

pub pairs_here : {S A : Type 0} (R : A → A → Type 0) (f : S → List A) (segments : List S) (number : ℕ) (segment : S) → number < length segments → get_or segments number segment ≡ segment
    → AllPairs R (flat_map f segments) → AllPairs R (f segment)
pairs_here R f [] number segment lt is h = absurd (omega (arith, lt))
pairs_here R f (s ∷ segments) zero segment lt is h =
    subst (λ t. AllPairs R (f t)) is (subst (AllPairs R) (take-append_seam (f s) (flat_map f segments)) (AllPairs-take R (length (f s)) (f s ++ flat_map f segments) h))
pairs_here R f (s ∷ segments) (suc number) segment lt is h = pairs_here R f segments number segment (omega (arith, lt)) is (behind_pairs R (f s) (flat_map f segments) h)
