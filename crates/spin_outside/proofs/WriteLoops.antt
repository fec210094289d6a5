-- A loop that writes a list of bytes in pieces.
use Rattle.std.proofs.Common.{◌≡◌, ℕ, ◌+◌, ◌-◌, ◌≤◌, ◌<◌, List, [], ◌++◌, length, take, drop, Option, Some, None, refl, sym, ap, subst, ◌∙◌, arith, append_assoc}
use Rattle.std.proofs.lemmas.List.{append-nil, take-append-drop, take-take, drop-take, drop-drop, take_rest, take_all, length-drop}
use Rattle.std.specs.Io.KnownBytes.{Appends, Keeps}

-- a front of the bytes was appended, and the rest is still to come
pub record IsPartlyWritten (before now : Option (List ℕ)) (bytes rest : List ℕ) : Type 0 where
  pub count : ℕ
  pub within : count ≤ length bytes
  pub rest_is : rest ≡ drop count bytes
  pub taken : Appends before now (take count bytes)

-- a front, and then a front of what follows it
pub take-add : (n m : ℕ) (xs : List ℕ) → take n xs ++ take m (drop n xs) ≡ take (n + m) xs
take-add n m xs =
    ap (λ ys. take n xs ++ ys) (sym (drop-take n m xs)) ∙ ap (λ ys. ys ++ drop n (take (n + m) xs)) (sym (take-take n (n + m) xs (omega arith))) ∙ take-append-drop n (take (n + m) xs)

pub Appends-append : (a b c : Option (List ℕ)) (xs ys : List ℕ) → Appends a b xs → Appends b c ys → Appends a c (xs ++ ys)
Appends-append None b c xs ys h k = tt
Appends-append (Some a) None c xs ys h k = absurd h
Appends-append (Some a) (Some b) None xs ys h k = absurd k
Appends-append (Some a) (Some b) (Some c) xs ys h k = k ∙ ap (λ zs. zs ++ ys) h ∙ append_assoc a xs ys

-- nothing appended
pub Appends-none : (a : Option (List ℕ)) → Appends a a []
Appends-none None = tt
Appends-none (Some a) = sym (append-nil a)

-- the bytes begin to be written
pub written_at_first : (a : Option (List ℕ)) (bytes : List ℕ) → IsPartlyWritten a a bytes bytes
written_at_first a bytes = record { count = 0; within = omega arith; rest_is = refl; taken = Appends-none a }

-- one more piece
pub written_more : (a b c : Option (List ℕ)) (bytes rest : List ℕ) (n : ℕ) → IsPartlyWritten a b bytes rest
    → n ≤ length rest → Appends b c (take n rest) → IsPartlyWritten a c bytes (take (length rest - n) (drop n rest))
written_more a b c bytes rest n w le more =
    let len : length rest ≡ length bytes - w.count = ap length w.rest_is ∙ length-drop w.count bytes in
    record {
      count = w.count + n;
      within = omega (arith, w.within);
      rest_is = take_rest rest n ∙ ap (λ ys. drop n ys) w.rest_is ∙ drop-drop n w.count bytes;
      taken = subst (λ (xs : List ℕ). Appends a c xs) (ap (λ (ys : List ℕ). take w.count bytes ++ take n ys) w.rest_is ∙ take-add w.count n bytes) (Appends-append a b c _ _ w.taken more);
    }

-- nothing is left to write
pub written_all : (a b : Option (List ℕ)) (bytes rest : List ℕ) → IsPartlyWritten a b bytes rest → length rest ≡ 0 → Appends a b bytes
written_all a b bytes rest w none =
    let len : length rest ≡ length bytes - w.count = ap length w.rest_is ∙ length-drop w.count bytes in
    subst (λ (xs : List ℕ). Appends a b xs) (take_all w.count bytes (omega arith)) w.taken

-- what a call that keeps the known bytes leaves
pub Appends-keeps : (a b c : Option (List ℕ)) (xs : List ℕ) → Appends a b xs → Keeps b c → Appends a c xs
Appends-keeps None b c xs h k = tt
Appends-keeps (Some a) None c xs h k = absurd h
Appends-keeps (Some a) (Some b) None xs h k = absurd k
Appends-keeps (Some a) (Some b) (Some c) xs h k = k ∙ h

-- the sink failed at a piece that isn't empty
pub written_partly : (a b c : Option (List ℕ)) (bytes rest : List ℕ) → IsPartlyWritten a b bytes rest → 0 < length rest → Keeps b c → (n : ℕ) × (n < length bytes) × Appends a c (take n bytes)
written_partly a b c bytes rest w some keeps =
    let len : length rest ≡ length bytes - w.count = ap length w.rest_is ∙ length-drop w.count bytes in
    (w.count, omega arith, Appends-keeps a b c _ w.taken keeps)
