-- What is known of a capture that was found and whose header was read.
use Rattle.std.proofs.Common.{◌≡◌, ◌+◌, ℕ, Bool, true, false, Option, Some, None, List, length, drop, refl, sym, ap, subst, ◌∙◌, IfSome}
use Rattle.std.specs.Prelude.{bytes_eq, cond, Ok}
use Rattle.std.proofs.lemmas.Slice.Eq.{bytes_eq-Decides}
use Rattle.spin_outside.specs.Files.{File, IsWholeFile, AllKeep, OthersKeep}
use Rattle.spin_outside.specs.Seen.{ShelfSeen}
use Rattle.spin_outside.specs.Sources.{file_seen, kept_reads, reads_beside, taken_more, told_reads}
use Rattle.spin_pcap.specs.Captures.{header_of}
use Rattle.spin_pcap.specs.Passing.{ReaderState, IsFresh, left_for}
use Rattle.spin_inputs.specs.Captures.{IsBehindHeader, IsOpened}
use Rattle.spin_inputs.specs.Shelves.{ShelfStood}
use Rattle.spin_inputs.proofs.ShelfLemmas.{if_some}

same_name : (own name : List ℕ) → bytes_eq own name ≡ true → own ≡ name
same_name own name same = (bytes_eq-Decides own name).0 same

some_not_none : {X : Type 0} (x : X) → Some x ≡ None → ⊥
some_not_none x same = cc

own_is : (own : Option (List ℕ)) (reads : List ℕ → ℕ) (name : List ℕ) → reads_beside own reads name ≡ None → own ≡ Some name
own_is None reads name none = absurd (some_not_none (reads name) none)
own_is (Some own) reads name none = go (bytes_eq own name) refl none
  where
    go : (b : Bool) → bytes_eq own name ≡ b → cond b None (Some (reads name)) ≡ None → Some own ≡ Some name
    go true same none = ap Some (same_name own name same)
    go false same none = absurd (some_not_none (reads name) none)

-- the bytes that were read under the file's own name aren't kept, so the file goes by the same name
pub still_named : (before after : ShelfSeen) (held : List File) (name : List ℕ) (file ref ref' : ℕ) → before.files ≡ Some held
    → before.found_as file ≡ Some name → (file_seen after file ref').keep ≡ (file_seen before file ref).keep → after.found_as file ≡ Some name
still_named before after held name file ref ref' told named kept =
    let files : after.files ≡ Some held = ap (λ k. k.files) kept ∙ told in
    let reads = ap (λ k. k.reads name) kept in
    let before_is : kept_reads before.files (before.found_as file) before.reads name ≡ None = ap (λ f. kept_reads f (before.found_as file) before.reads name) told
    ∙ ap (λ o. reads_beside o before.reads name) named ∙ ap (λ b. cond b None (Some (before.reads name))) ((bytes_eq-Decides name name).1 refl) in
    let after_is : reads_beside (after.found_as file) after.reads name ≡ None = ap (λ f. kept_reads f (after.found_as file) after.reads name) (sym files) ∙ reads ∙ before_is in
    own_is (after.found_as file) after.reads name after_is

some_is : {X : Type 0} (x y : X) → Some x ≡ Some y → x ≡ y
some_is x y same = cc

opened_at : (before found after : ShelfSeen) (name : List ℕ) (file ref ref' : ℕ) (reader : ReaderState)
    → IsWholeFile before.files name (found.left file)
    → IfSome before.files (λ _. (found.found_as file ≡ Some name) × OthersKeep before.found_as found.found_as file)
    → IfSome before.files (λ _. AllKeep before.reads found.reads)
    → ShelfStood before found
    → IfSome (found.left file) (λ bytes. (header_of bytes ≡ Ok reader.order) × (left_for reader.held (after.left file) ≡ Some (drop 24 bytes)))
    → IsFresh reader
    → (file_seen after file ref').taken ≡ taken_more (file_seen found file ref).taken (24 + length reader.held)
    → (file_seen after file ref').keep ≡ (file_seen found file ref).keep
    → after.faults ≡ found.faults
    → IsOpened before after name file reader
opened_at before found after name file ref ref' reader whole named under stood header fresh taken kept faults =
    record {
      stood = record { files = ap (λ k. k.files) kept ∙ stood.files; faults = faults ∙ stood.faults; absences = ap (λ k. k.absences) kept ∙ stood.absences };
      fresh = fresh;
      behind = if_some before.files (λ held. IsBehindHeader held before after name file reader) (λ held told.
          let at_held = subst (λ f. IsWholeFile f name (found.left file)) told whole in
          let as_name = (subst (λ f. IfSome f (λ _. (found.found_as file ≡ Some name) × OthersKeep before.found_as found.found_as file)) told named).0 in
          let reads = subst (λ f. IfSome f (λ _. AllKeep before.reads found.reads)) told under in
          let parts = subst (λ o. IfSome o (λ bytes. (header_of bytes ≡ Ok reader.order) × (left_for reader.held (after.left file) ≡ Some (drop 24 bytes)))) at_held.2 header in
          let now_named = still_named found after held name file ref ref' (stood.files ∙ told) as_name kept in
          let after_is : told_reads after.files (after.found_as file) after.reads ≡ Some (after.reads name) =
          ap (λ f. told_reads f (after.found_as file) after.reads) (ap (λ k. k.files) kept ∙ stood.files ∙ told) ∙ ap (λ o. told_reads (Some held) o after.reads) now_named in
          let found_is : told_reads found.files (found.found_as file) found.reads ≡ Some (before.reads name) =
          ap (λ f. told_reads f (found.found_as file) found.reads) (stood.files ∙ told) ∙ ap (λ o. told_reads (Some held) o found.reads) as_name ∙ ap Some (reads name) in
          record {
            bytes = at_held.0;
            found = at_held.1;
            header = parts.0;
            left = parts.1;
            named = now_named;
            under = some_is _ _ (sym after_is ∙ taken ∙ ap (λ o. taken_more o (24 + length reader.held)) found_is);
          });
    }

-- the same of the file that the source has then, which is the same one
pub opened : (before found after : ShelfSeen) (name : List ℕ) (file file' ref ref' : ℕ) (reader : ReaderState)
    → IsWholeFile before.files name (found.left file)
    → IfSome before.files (λ _. (found.found_as file ≡ Some name) × OthersKeep before.found_as found.found_as file)
    → IfSome before.files (λ _. AllKeep before.reads found.reads)
    → ShelfStood before found
    → IfSome (found.left file) (λ bytes. (header_of bytes ≡ Ok reader.order) × (left_for reader.held (after.left file') ≡ Some (drop 24 bytes)))
    → IsFresh reader
    → (file_seen after file' ref').taken ≡ taken_more (file_seen found file ref).taken (24 + length reader.held)
    → (file_seen after file' ref').keep ≡ (file_seen found file ref).keep
    → after.faults ≡ found.faults
    → IsOpened before after name file reader
opened before found after name file file' ref ref' reader whole named under stood header fresh taken kept faults =
    let same : file' ≡ file = ap (λ k. k.file) kept in
    opened_at before found after name file ref ref' reader whole named under stood
    (subst (λ f. IfSome (found.left file) (λ bytes. (header_of bytes ≡ Ok reader.order) × (left_for reader.held (after.left f) ≡ Some (drop 24 bytes)))) same header)
    fresh
    (subst (λ f. (file_seen after f ref').taken ≡ taken_more (file_seen found file ref).taken (24 + length reader.held)) same taken)
    (subst (λ f. (file_seen after f ref').keep ≡ (file_seen found file ref).keep) same kept)
    faults
