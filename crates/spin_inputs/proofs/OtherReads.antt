-- Nothing was read of any file but the one that was found.
use Rattle.std.proofs.Common.{◌≡◌, ◌≢◌, ℕ, Bool, true, false, Option, Some, None, List, refl, sym, ap, ◌∙◌, subst, IfSome}
use Rattle.std.specs.Prelude.{bytes_eq, cond}
use Rattle.std.proofs.lemmas.Slice.Eq.{bytes_eq-Decides}
use Rattle.spin_outside.specs.Files.{AllKeep, OthersKeep}
use Rattle.spin_outside.specs.Seen.{ShelfSeen}
use Rattle.spin_outside.specs.Sources.{file_seen, kept_reads, reads_beside}
use Rattle.spin_inputs.specs.Shelves.{ReadsOnly, ShelfStood}
use Rattle.spin_inputs.proofs.ShelfLemmas.{if_some}

none_not_some : {X : Type 0} (x : X) → None ≡ Some x → ⊥
none_not_some x same = cc

some_is : {X : Type 0} (x y : X) → Some x ≡ Some y → x ≡ y
some_is x y same = cc

-- the bytes that are kept under a name are those that were read under it
kept_is : (own : Option (List ℕ)) (reads : List ℕ → ℕ) (other : List ℕ) (count : ℕ) → reads_beside own reads other ≡ Some count → reads other ≡ count
kept_is None reads other count kept = some_is (reads other) count kept
kept_is (Some own) reads other count kept = go (bytes_eq own other) kept
  where
    go : (b : Bool) → cond b None (Some (reads other)) ≡ Some count → reads other ≡ count
    go true kept = absurd (none_not_some count kept)
    go false kept = some_is (reads other) count kept

-- those under another name are kept
kept_beside : (name other : List ℕ) (reads : List ℕ → ℕ) → other ≢ name → reads_beside (Some name) reads other ≡ Some (reads other)
kept_beside name other reads differs = go (bytes_eq name other) refl
  where
    go : (b : Bool) → bytes_eq name other ≡ b → cond b None (Some (reads other)) ≡ Some (reads other)
    go true same = absurd (differs (sym ((bytes_eq-Decides name other).0 same)))
    go false same = refl

pub reads_one : (before found after : ShelfSeen) (name : List ℕ) (file file' ref ref' : ℕ)
    → IfSome before.files (λ _. (found.found_as file ≡ Some name) × OthersKeep before.found_as found.found_as file)
    → IfSome before.files (λ _. AllKeep before.reads found.reads)
    → ShelfStood before found
    → (file_seen after file' ref').keep ≡ (file_seen found file ref).keep
    → ReadsOnly before after name
reads_one before found after name file file' ref ref' named under stood kept =
    if_some before.files (λ _. OthersKeep before.reads after.reads name) (λ held told. λ other differs.
    let as_name = (subst (λ f. IfSome f (λ _. (found.found_as file ≡ Some name) × OthersKeep before.found_as found.found_as file)) told named).0 in
    let same = subst (λ f. IfSome f (λ _. AllKeep before.reads found.reads)) told under in
    let files : found.files ≡ Some held = stood.files ∙ told in
    let files' : after.files ≡ Some held = ap (λ k. k.files) kept ∙ files in
    let found_is : kept_reads found.files (found.found_as file) found.reads other ≡ Some (found.reads other) =
    ap (λ f. kept_reads f (found.found_as file) found.reads other) files ∙ ap (λ o. reads_beside o found.reads other) as_name ∙ kept_beside name other found.reads differs in
    let after_is : reads_beside (after.found_as file') after.reads other ≡ Some (found.reads other) =
    ap (λ f. kept_reads f (after.found_as file') after.reads other) (sym files') ∙ ap (λ k. k.reads other) kept ∙ found_is in
    kept_is (after.found_as file') after.reads other (found.reads other) after_is ∙ same other)
