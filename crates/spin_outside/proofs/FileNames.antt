-- Files of a shelf in memory by their names, no two of which are the same.
use Rattle.std.proofs.Common.{◌≡◌, ◌≢◌, ◌<◌, ℕ, zero, suc, Bool, true, false, cond, Option, Some, None, List, [], ◌∷◌, ◌++◌, length, set, get_or, map, refl, sym, ap, subst, ◌∙◌, arith}
use Rattle.std.specs.Prelude.{bytes_eq, if◌then◌else◌}
use Rattle.std.specs.List.{AllPairs}
use Rattle.std.proofs.lemmas.List.Quantifiers.{all_pairs_push}
use Rattle.std.proofs.lemmas.Slice.Eq.{slice_eq-Decides}
use Rattle.std.proofs.lemmas.Bool.Decides.{Decides-eqb}
use Rattle.spin_outside.specs.Counts.{raised_by}
use Rattle.spin_outside.specs.Files.{content, ReadsMore}
use Rattle.spin_outside.specs.Shelves.{held, fresh, refilled, with_file, name_of, reads_under}
use Rattle.spin_outside.specs.Inner.Apart.{AreNamedApart}
use Rattle.spin_outside.specs.declared.mem_file.MemFile.{MemFile}

is_false : (b : Bool) → (b ≡ true → ⊥) → b ≡ false
is_false true never = absurd (never refl)
is_false false never = refl

pub differs : (a b : List ℕ) → a ≢ b → bytes_eq a b ≡ false
differs a b apart = is_false (bytes_eq a b) (λ yes. apart ((slice_eq-Decides Decides-eqb a b (bytes_eq a b) refl).0 yes))

pub agrees : (a b : List ℕ) → a ≡ b → bytes_eq a b ≡ true
agrees a b same = (slice_eq-Decides Decides-eqb a b (bytes_eq a b) refl).1 same

abbrev names : List MemFile → List (List ℕ)
names files = map (λ file. file.name) (held files)

length-names : (files : List MemFile) → length (names files) ≡ length files
length-names [] = refl
length-names (f ∷ fs) = ap suc (length-names fs)

name_at_place : (files : List MemFile) (at : ℕ) (none : List ℕ) (file : MemFile) → at < length files → get_or (names files) at none ≡ (get_or files at file).name
name_at_place [] at none file lt = absurd (omega arith)
name_at_place (f ∷ fs) zero none file lt = refl
name_at_place (f ∷ fs) (suc at) none file lt = name_at_place fs at none file (omega arith)

names-set : (files : List MemFile) (at : ℕ) (file d : MemFile) → file.name ≡ (get_or files at d).name → names (set files at file) ≡ names files
names-set [] at file d same = refl
names-set (f ∷ fs) zero file d same = ap (λ n. n ∷ names fs) same
names-set (f ∷ fs) (suc at) file d same = ap (λ ns. f.name ∷ ns) (names-set fs at file d same)

pub apart-set : (files : List MemFile) (at : ℕ) (file d : MemFile) → AreNamedApart (held files) → file.name ≡ (get_or files at d).name → AreNamedApart (held (set files at file))
apart-set files at file d apart same = subst (λ (ns : List (List ℕ)). AllPairs (λ a b. a ≢ b) ns) (sym (names-set files at file d same)) apart

apart_tail : (file : MemFile) (files : List MemFile) → AreNamedApart (held (file ∷ files)) → AreNamedApart (held files)
apart_tail file files apart = λ i j d lt within. apart (suc i) (suc j) d (omega arith) (omega arith)

apart_head : (file : MemFile) (files : List MemFile) (at : ℕ) (d : MemFile) → AreNamedApart (held (file ∷ files)) → at < length files → file.name ≢ (get_or files at d).name
apart_head file files at d apart lt = λ e. apart 0 (suc at) [] (omega arith) (rw (length-names files) (omega arith)) (e ∙ sym (name_at_place files at [] d lt))

-- the file at a place gets other bytes
pub with_file-at : (files : List MemFile) (at : ℕ) (d : MemFile) (bytes : List ℕ) → at < length files → AreNamedApart (held files)
    → with_file files (get_or files at d).name bytes ≡ set files at (refilled (get_or files at d) bytes)
with_file-at [] at d bytes lt apart = absurd (omega arith)
with_file-at (f ∷ fs) zero d bytes lt apart = ap (λ b. cond b (refilled f bytes ∷ fs) (f ∷ with_file fs f.name bytes)) (agrees f.name f.name refl)
with_file-at (f ∷ fs) (suc at) d bytes lt apart =
    ap (λ b. cond b (refilled f bytes ∷ fs) (f ∷ with_file fs (get_or fs at d).name bytes)) (differs f.name (get_or fs at d).name (apart_head f fs at d apart (omega arith)))
    ∙ ap (λ gs. f ∷ gs) (with_file-at fs at d bytes (omega arith) (apart_tail f fs apart))

none_not_some : {T : Type 0} (b : Bool) (x : T) (o : Option T) → cond b (Some x) o ≡ None → (b ≡ false) × (o ≡ None)
none_not_some true x o e = cc
none_not_some false x o e = (refl, e)

-- a file is put in behind the others
pub with_file-behind : (files : List MemFile) (name bytes : List ℕ) → content (held files) name ≡ None → with_file files name bytes ≡ files ++ fresh name bytes ∷ []
with_file-behind [] name bytes none = refl
with_file-behind (f ∷ fs) name bytes none =
    let parts = none_not_some (bytes_eq f.name name) f.bytes (content (held fs) name) none in
    ap (λ b. cond b (refilled f bytes ∷ fs) (f ∷ with_file fs name bytes)) parts.0 ∙ ap (λ gs. f ∷ gs) (with_file-behind fs name bytes parts.1)

lacks : (files : List MemFile) (name : List ℕ) (at : ℕ) (none : List ℕ) → content (held files) name ≡ None → at < length files → get_or (names files) at none ≢ name
lacks [] name at none lacking lt = absurd (omega arith)
lacks (f ∷ fs) name zero none lacking lt = λ e. let parts = none_not_some (bytes_eq f.name name) f.bytes (content (held fs) name) lacking in let yes = agrees f.name name e in let no = parts.0 in cc
lacks (f ∷ fs) name (suc at) none lacking lt =
    let parts = none_not_some (bytes_eq f.name name) f.bytes (content (held fs) name) lacking in lacks fs name at none parts.1 (omega arith)

names-push : (files : List MemFile) (file : MemFile) → names (files ++ file ∷ []) ≡ names files ++ file.name ∷ []
names-push [] file = refl
names-push (f ∷ fs) file = ap (λ ns. f.name ∷ ns) (names-push fs file)

pub apart-push : (files : List MemFile) (file : MemFile) → AreNamedApart (held files) → content (held files) file.name ≡ None → AreNamedApart (held (files ++ file ∷ []))
apart-push files file apart lacking =
    subst (λ (ns : List (List ℕ)). AllPairs (λ a b. a ≢ b) ns) (sym (names-push files file))
    (all_pairs_push (λ a b. a ≢ b) (names files) file.name apart (λ k d lt. lacks files file.name k d lacking (omega (arith, length-names files))))

-- what was read under another name than that of the changed file, or under any where its count stands
reads-set_other : (files : List MemFile) (at : ℕ) (file d : MemFile) (name : List ℕ) → file.name ≡ (get_or files at d).name
    → name ≢ file.name → reads_under (set files at file) name ≡ reads_under files name
reads-set_other [] at file d name same other = refl
reads-set_other (f ∷ fs) zero file d name same other =
    let now : bytes_eq file.name name ≡ false = differs file.name name (λ e. other (sym e)) in
    let before : bytes_eq f.name name ≡ false = differs f.name name (λ e. other (sym (same ∙ e))) in
    ap (λ b. cond b file.taken (reads_under fs name)) now ∙ sym (ap (λ b. cond b f.taken (reads_under fs name)) before)
reads-set_other (f ∷ fs) (suc at) file d name same other = ap (λ n. cond (bytes_eq f.name name) f.taken n) (reads-set_other fs at file d name same other)

pub reads-set_kept : (files : List MemFile) (at : ℕ) (file d : MemFile) (name : List ℕ) → file.name ≡ (get_or files at d).name
    → file.taken ≡ (get_or files at d).taken → reads_under (set files at file) name ≡ reads_under files name
reads-set_kept [] at file d name same kept = refl
reads-set_kept (f ∷ fs) zero file d name same kept =
    ap (λ n. cond (bytes_eq n name) file.taken (reads_under fs name)) same ∙ ap (λ t. cond (bytes_eq f.name name) t (reads_under fs name)) kept
reads-set_kept (f ∷ fs) (suc at) file d name same kept = ap (λ n. cond (bytes_eq f.name name) f.taken n) (reads-set_kept fs at file d name same kept)

reads-at : (files : List MemFile) (at : ℕ) (d : MemFile) → at < length files → AreNamedApart (held files) → reads_under files (get_or files at d).name ≡ (get_or files at d).taken
reads-at [] at d lt apart = absurd (omega arith)
reads-at (f ∷ fs) zero d lt apart = ap (λ b. cond b f.taken (reads_under fs f.name)) (agrees f.name f.name refl)
reads-at (f ∷ fs) (suc at) d lt apart =
    ap (λ b. cond b f.taken (reads_under fs (get_or fs at d).name)) (differs f.name (get_or fs at d).name (apart_head f fs at d apart (omega arith)))
    ∙ reads-at fs at d (omega arith) (apart_tail f fs apart)

reads-set_same : (files : List MemFile) (at : ℕ) (file d : MemFile) → at < length files → AreNamedApart (held files)
    → file.name ≡ (get_or files at d).name → reads_under (set files at file) file.name ≡ file.taken
reads-set_same [] at file d lt apart same = absurd (omega arith)
reads-set_same (f ∷ fs) zero file d lt apart same = ap (λ b. cond b file.taken (reads_under fs file.name)) (agrees file.name file.name refl)
reads-set_same (f ∷ fs) (suc at) file d lt apart same =
    ap (λ b. cond b f.taken (reads_under (set fs at file) file.name)) (differs f.name file.name (λ e. apart_head f fs at d apart (omega arith) (e ∙ same)))
    ∙ reads-set_same fs at file d (omega arith) (apart_tail f fs apart) same

none_more : (x : ℕ) → raised_by x 0 ≡ x
none_more x = omega arith

-- a read of the file at a place adds what it took to the bytes read under its name, if it was found
pub reads-more : (files : List MemFile) (at : ℕ) (file d : MemFile) (count : ℕ) → at < length files → AreNamedApart (held files)
    → file.name ≡ (get_or files at d).name → file.taken ≡ raised_by (get_or files at d).taken count → ((get_or files at d).opened ≡ false → count ≡ 0)
    → ReadsMore (reads_under files) (reads_under (set files at file)) (name_of (get_or files at d)) count
reads-more files at file d count lt apart same more closed = by_opened (get_or files at d).opened refl where
  by_opened : (opened : Bool) → (get_or files at d).opened ≡ opened → ReadsMore (reads_under files) (reads_under (set files at file)) (if opened then Some (get_or files at d).name else None) count
  by_opened true is = (
    ap (λ n. reads_under (set files at file) n) (sym same) ∙ reads-set_same files at file d lt apart same ∙ more ∙ ap (λ n. raised_by n count) (sym (reads-at files at d lt apart)),
    λ other different. reads-set_other files at file d other same (λ e. different (e ∙ same)),
  )
  by_opened false is = λ name. reads-set_kept files at file d name same (more ∙ ap (λ n. raised_by (get_or files at d).taken n) (closed is) ∙ none_more (get_or files at d).taken)
