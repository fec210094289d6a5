-- A list of files in which one is changed, or looked up.
use Rattle.std.proofs.Common.{◌≡◌, ◌≢◌, ◌<◌, ◌≤◌, ◌+◌, ◌-◌, ℕ, zero, suc, min, true, cond, Some, List, [], ◌∷◌, ◌++◌, length, take, drop, set, get_or, refl, sym, ap, ◌∙◌, arith}
use Rattle.std.proofs.lemmas.List.{take-append-drop, drop-drop, drop_min, take_at, take_rest, drop_more}
use Rattle.spin_outside.proofs.FileNames.{agrees, differs}
use Rattle.spin_outside.specs.declared.mem_file.MemFile.{MemFile}
use Rattle.spin_outside.specs.Files.{content}
use Rattle.spin_outside.specs.Shelves.{file_of, held, view_at, rest_of}

pub view_at-set_same : {T : Type 0} (view : MemFile → T) (none : T) (files : List MemFile) (at : ℕ) (file : MemFile) → at < length files → view_at view none (set files at file) at ≡ view file
view_at-set_same view none [] at file lt = absurd (omega arith)
view_at-set_same view none (f ∷ fs) zero file lt = refl
view_at-set_same view none (f ∷ fs) (suc at) file lt = view_at-set_same view none fs at file (omega arith)

pub view_at-set_other : {T : Type 0} (view : MemFile → T) (none : T) (files : List MemFile) (at other : ℕ) (file : MemFile)
    → other ≢ at → view_at view none (set files at file) other ≡ view_at view none files other
view_at-set_other view none [] at other file apart = refl
view_at-set_other view none (f ∷ fs) zero zero file apart = absurd (apart refl)
view_at-set_other view none (f ∷ fs) zero (suc other) file apart = refl
view_at-set_other view none (f ∷ fs) (suc at) zero file apart = refl
view_at-set_other view none (f ∷ fs) (suc at) (suc other) file apart = view_at-set_other view none fs at other file (λ e. apart (ap suc e))

pub view_at-get : {T : Type 0} (view : MemFile → T) (none : T) (files : List MemFile) (at : ℕ) (file : MemFile) → at < length files → view_at view none files at ≡ view (get_or files at file)
view_at-get view none [] at file lt = absurd (omega arith)
view_at-get view none (f ∷ fs) zero file lt = refl
view_at-get view none (f ∷ fs) (suc at) file lt = view_at-get view none fs at file (omega arith)

pub view_at-past : {T : Type 0} (view : MemFile → T) (none : T) (files : List MemFile) (at : ℕ) → length files ≤ at → view_at view none files at ≡ none
view_at-past view none [] at le = refl
view_at-past view none (f ∷ fs) zero le = absurd (omega arith)
view_at-past view none (f ∷ fs) (suc at) le = view_at-past view none fs at (omega arith)

-- a change that keeps a view of the file keeps it of every file
pub view_at-set_kept : {T : Type 0} (view : MemFile → T) (none : T) (files : List MemFile) (at : ℕ) (file : MemFile)
    → view file ≡ view (get_or files at file) → (other : ℕ) → view_at view none (set files at file) other ≡ view_at view none files other
view_at-set_kept view none [] at file same other = refl
view_at-set_kept view none (f ∷ fs) zero file same zero = same
view_at-set_kept view none (f ∷ fs) zero file same (suc other) = refl
view_at-set_kept view none (f ∷ fs) (suc at) file same zero = refl
view_at-set_kept view none (f ∷ fs) (suc at) file same (suc other) = view_at-set_kept view none fs at file same other

pub held-set : (files : List MemFile) (at : ℕ) (file : MemFile) → file_of file ≡ file_of (get_or files at file) → held (set files at file) ≡ held files
held-set [] at file same = refl
held-set (f ∷ fs) zero file same = ap (λ g. g ∷ held fs) same
held-set (f ∷ fs) (suc at) file same = ap (λ gs. file_of f ∷ gs) (held-set fs at file same)

-- what a file has left, with a piece taken
pub rest-split : (bytes : List ℕ) (position count : ℕ) → drop position bytes ≡ take count (drop (min position (length bytes)) bytes) ++ drop (min position (length bytes) + count) bytes
rest-split bytes position count =
    sym (drop_min position bytes) ∙ sym (take-append-drop count (drop (min position (length bytes)) bytes))
    ∙ ap (λ ys. take count (drop (min position (length bytes)) bytes) ++ ys) (drop-drop count (min position (length bytes)) bytes)

unnamed : (file : MemFile) (files : List MemFile) (name : List ℕ) → file.name ≢ name → content (held (file ∷ files)) name ≡ content (held files) name
unnamed file files name other = ap (λ b. cond b (Some file.bytes) (content (held files) name)) (differs file.name name other)

named : (file : MemFile) (files : List MemFile) (name : List ℕ) → file.name ≡ name → content (held (file ∷ files)) name ≡ Some file.bytes
named file files name same = ap (λ b. cond b (Some file.bytes) (content (held files) name)) (agrees file.name name same)

-- the file at a place isn't the one
pub content-skip : (files : List MemFile) (at : ℕ) (file : MemFile) (name : List ℕ) → at < length files → file ≡ get_or files at file
    → (file.name ≡ name → ⊥) → content (held (drop at files)) name ≡ content (held (drop (at + 1) files)) name
content-skip files at file name lt is other =
    ap (λ fs. content (held fs) name) (drop_more files at file lt ∙ ap (λ f. f ∷ drop (at + 1) files) (sym is)) ∙ unnamed file (drop (at + 1) files) name other

-- the file at a place is the one
pub content-found : (files : List MemFile) (at : ℕ) (file : MemFile) (name : List ℕ) → at < length files
    → file ≡ get_or files at file → file.name ≡ name → content (held (drop at files)) name ≡ Some file.bytes
content-found files at file name lt is same =
    ap (λ fs. content (held fs) name) (drop_more files at file lt ∙ ap (λ f. f ∷ drop (at + 1) files) (sym is)) ∙ named file (drop (at + 1) files) name same

-- the piece that was taken, and what is left then
pub taken_split : (file : MemFile) (bytes piece buf : List ℕ) (from count taken : ℕ) → file.opened ≡ true → bytes ≡ file.bytes
    → from ≡ min file.position (length bytes) → length piece ≡ count → piece ≡ take count (take (length bytes - from) (drop from bytes))
    → rest_of file ≡ take count (piece ++ drop count buf) ++ rest_of (record { name = file.name; bytes = file.bytes; opened = file.opened; position = from + count; taken = taken })
taken_split file bytes piece buf from count taken opened same from_is len piece_is =
    let front : take count (piece ++ drop count buf) ≡ take count (drop from bytes) = take_at piece (drop count buf) count len ∙ piece_is ∙ ap (λ ys. take count ys) (take_rest bytes from) in
    let left : rest_of file ≡ drop file.position bytes = ap (λ b. cond b (drop file.position file.bytes) []) opened ∙ ap (λ ys. drop file.position ys) (sym same) in
    let right : rest_of (record { name = file.name; bytes = file.bytes; opened = file.opened; position = from + count; taken = taken }) ≡ drop (from + count) bytes =
    ap (λ b. cond b (drop (from + count) file.bytes) []) opened ∙ ap (λ ys. drop (from + count) ys) (sym same) in
    let split : drop file.position bytes ≡ take count (drop from bytes) ++ drop (from + count) bytes = rw from_is (rest-split bytes file.position count) in
    left ∙ split ∙ ap (λ ys. ys ++ drop (from + count) bytes) (sym front) ∙ ap (λ ys. take count (piece ++ drop count buf) ++ ys) (sym right)
