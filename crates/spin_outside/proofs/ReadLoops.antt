-- A loop that takes what is left in pieces.
use Rattle.std.proofs.Common.{◌≡◌, ℕ, ◌+◌, ◌≤◌, ◌<◌, List, [], ◌++◌, length, take, Option, Some, None, refl, sym, ap, subst, ◌∙◌, arith, append_assoc, IfSome}
use Rattle.std.proofs.lemmas.List.{append-nil, length-append, length-take-le}
use Rattle.std.specs.Io.KnownBytes.{Consumes, Keeps, IsAtEnd}
use Rattle.spin_outside.specs.Counts.{raised_by}
use Rattle.spin_outside.specs.Files.{File, TakesAll, OthersKeep, AllKeep, ReadsMore}
use Rattle.spin_outside.specs.Seen.{ShelfSeen, TakesFront}

pub Consumes-none : (a : Option (List ℕ)) → Consumes a a []
Consumes-none None = tt
Consumes-none (Some a) = refl

pub Consumes-append : (a b c : Option (List ℕ)) (xs ys : List ℕ) → Consumes a b xs → Consumes b c ys → Consumes a c (xs ++ ys)
Consumes-append None b c xs ys h k = tt
Consumes-append (Some a) None c xs ys h k = absurd h
Consumes-append (Some a) (Some b) None xs ys h k = absurd k
Consumes-append (Some a) (Some b) (Some c) xs ys h k = h ∙ ap (λ zs. xs ++ zs) k ∙ sym (append_assoc xs ys c)

-- what a failed read leaves
pub Consumes-keeps : (a b c : Option (List ℕ)) (xs : List ℕ) → Consumes a b xs → Keeps b c → Consumes a c xs
Consumes-keeps None b c xs h k = tt
Consumes-keeps (Some a) None c xs h k = absurd h
Consumes-keeps (Some a) (Some b) None xs h k = absurd k
Consumes-keeps (Some a) (Some b) (Some c) xs h k = h ∙ ap (λ zs. xs ++ zs) (sym k)

-- a read of nothing, at the end
pub TakesAll-at_end : (a b c : Option (List ℕ)) (xs ys : List ℕ) → Consumes a b xs → Consumes b c ys → ys ≡ [] → IsAtEnd c → TakesAll a c xs
TakesAll-at_end None b c xs ys h k none end = tt
TakesAll-at_end (Some a) None c xs ys h k none end = absurd h
TakesAll-at_end (Some a) (Some b) None xs ys h k none end = absurd k
TakesAll-at_end (Some a) (Some b) (Some c) xs ys h k none end =
    (sym (append-nil xs) ∙ ap (λ zs. xs ++ zs) (sym (k ∙ ap (λ zs. zs ++ c) none ∙ end)) ∙ sym h, ap Some end)

-- More was left than the limit.
pub too_large : (a b c : Option (List ℕ)) (xs ys : List ℕ) (limit : ℕ) → Consumes a b xs → Consumes b c ys → limit < length xs + length ys → IfSome a (λ bytes. limit < length bytes)
too_large None b c xs ys limit h k large = tt
too_large (Some a) None c xs ys limit h k large = absurd h
too_large (Some a) (Some b) None xs ys limit h k large = absurd k
too_large (Some a) (Some b) (Some c) xs ys limit h k large =
    omega (arith, ap length h, ap length k, length-append xs b, length-append ys c)

pub OthersKeep-more : {T : Type 0} (a b c : ℕ → T) (file : ℕ) → OthersKeep a b file → OthersKeep b c file → OthersKeep a c file
OthersKeep-more a b c file h k = λ other apart. k other apart ∙ h other apart

raised_twice : (x n m : ℕ) → raised_by (raised_by x n) m ≡ raised_by x (n + m)
raised_twice x n m = omega arith

pub ReadsMore-more : (a b c : List ℕ → ℕ) (name : Option (List ℕ)) (n m : ℕ) → ReadsMore a b name n → ReadsMore b c name m → ReadsMore a c name (n + m)
ReadsMore-more a b c None n m h k = λ other. k other ∙ h other
ReadsMore-more a b c (Some name) n m h k = (k.0 ∙ ap (λ r. raised_by r m) h.0 ∙ raised_twice (a name) n m, λ other apart. k.1 other apart ∙ h.1 other apart)

where_told : {A B C D : Type 0} (files : Option (List File)) → IfSome files (λ _. A) → IfSome files (λ _. B) → IfSome files (λ _. C) → (A → B → C → D) → IfSome files (λ _. D)
where_told None a b c f = tt
where_told (Some files) a b c f = f a b c

-- what two calls in a row read under the name of a number
under_more : (before mid now : ShelfSeen) (file n m : ℕ) → mid.files ≡ before.files → IfSome before.files (λ _. AllKeep before.found_as mid.found_as)
    → IfSome before.files (λ _. ReadsMore before.reads mid.reads (before.found_as file) n) → IfSome mid.files (λ _. ReadsMore mid.reads now.reads (mid.found_as file) m)
    → IfSome before.files (λ _. ReadsMore before.reads now.reads (before.found_as file) (n + m))
under_more before mid now file n m files named h k =
    where_told before.files named h (subst (λ (fs : Option (List File)). IfSome fs (λ _. ReadsMore mid.reads now.reads (mid.found_as file) m)) files k) (λ same first then_.
    ReadsMore-more before.reads mid.reads now.reads (before.found_as file) n m first (subst (λ (name : Option (List ℕ)). ReadsMore mid.reads now.reads name m) (same file) then_))

-- a front that was taken in pieces, and one piece more
pub front_more : (before mid now : ShelfSeen) (file : ℕ) (bytes buf : List ℕ) (count most : ℕ) → count ≤ length buf → length bytes + count ≤ most
    → Consumes (before.left file) (mid.left file) bytes → Consumes (mid.left file) (now.left file) (take count buf) → mid.files ≡ before.files
    → IfSome before.files (λ _. AllKeep before.found_as mid.found_as) → IfSome before.files (λ _. ReadsMore before.reads mid.reads (before.found_as file) (length bytes))
    → IfSome mid.files (λ _. ReadsMore mid.reads now.reads (mid.found_as file) count) → TakesFront before now file most
front_more before mid now file bytes buf count most le within h k files named first then_ =
    let len : length (bytes ++ take count buf) ≡ length bytes + count = length-append bytes (take count buf) ∙ ap (λ n. length bytes + n) (length-take-le count buf le) in
    record {
      bytes = bytes ++ take count buf;
      few = subst (λ (n : ℕ). n ≤ most) (sym len) within;
      taken = Consumes-append _ _ _ _ _ h k;
      under =
          subst (λ (n : ℕ). IfSome before.files (λ _. ReadsMore before.reads now.reads (before.found_as file) n))
          (sym len) (under_more before mid now file (length bytes) count files named first then_);
    }
