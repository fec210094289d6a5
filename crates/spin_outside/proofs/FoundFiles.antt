-- Files that are found, and one of which is read.
use Rattle.std.proofs.Common.{◌≡◌, ◌≢◌, ◌<◌, ◌≤◌, ℕ, zero, suc, Option, Some, List, [], ◌∷◌, ◌++◌, length, set, get_or, refl, sym, ap, subst, ◌∙◌, arith, Result, Ok, Err, MatchResult, IfOk, IfErr, is_err, true}
use Rattle.spin_outside.specs.Files.{AllKeep, OthersKeep}
use Rattle.spin_outside.specs.Folders.{left_in}

pub left_in-set_same : {F : Type 0} (view : F → Option (List ℕ)) (files : List F) (at : ℕ) (file : F) → at < length files → left_in view (set files at file) at ≡ view file
left_in-set_same view [] at file lt = absurd (omega arith)
left_in-set_same view (f ∷ fs) zero file lt = refl
left_in-set_same view (f ∷ fs) (suc at) file lt = left_in-set_same view fs at file (omega arith)

pub left_in-set_other : {F : Type 0} (view : F → Option (List ℕ)) (files : List F) (at other : ℕ) (file : F) → other ≢ at → left_in view (set files at file) other ≡ left_in view files other
left_in-set_other view [] at other file apart = refl
left_in-set_other view (f ∷ fs) zero zero file apart = absurd (apart refl)
left_in-set_other view (f ∷ fs) zero (suc other) file apart = refl
left_in-set_other view (f ∷ fs) (suc at) zero file apart = refl
left_in-set_other view (f ∷ fs) (suc at) (suc other) file apart = left_in-set_other view fs at other file (λ e. apart (ap suc e))

pub left_in-get : {F : Type 0} (view : F → Option (List ℕ)) (files : List F) (at : ℕ) (file : F) → at < length files → left_in view files at ≡ view (get_or files at file)
left_in-get view [] at file lt = absurd (omega arith)
left_in-get view (f ∷ fs) zero file lt = refl
left_in-get view (f ∷ fs) (suc at) file lt = left_in-get view fs at file (omega arith)

pub left_in-past : {F : Type 0} (view : F → Option (List ℕ)) (files : List F) (at : ℕ) → length files ≤ at → left_in view files at ≡ Some []
left_in-past view [] at le = refl
left_in-past view (f ∷ fs) zero le = absurd (omega arith)
left_in-past view (f ∷ fs) (suc at) le = left_in-past view fs at (omega arith)

pub left_in-push : {F : Type 0} (view : F → Option (List ℕ)) (files : List F) (file : F) (other : ℕ) → other ≢ length files → left_in view (files ++ file ∷ []) other ≡ left_in view files other
left_in-push view [] file zero apart = absurd (apart refl)
left_in-push view [] file (suc other) apart = refl
left_in-push view (f ∷ fs) file zero apart = refl
left_in-push view (f ∷ fs) file (suc other) apart = left_in-push view fs file other (λ e. apart (ap suc e))

-- a file that is kept changes what no other number has left
kept_others : {F E : Type 0} (view : F → Option (List ℕ)) (before now : List F) (file : F) (W : E → Type 0) (result : Result ℕ E)
    → MatchResult result (λ number. (number ≡ length before) × (now ≡ before ++ file ∷ [])) (λ fault. W fault × (now ≡ before))
    → MatchResult result (λ number. OthersKeep (left_in view before) (left_in view now) number) (λ _. AllKeep (left_in view before) (left_in view now))
kept_others view before now file W (Ok number) kept = λ other apart.
    subst (λ items. left_in view items other ≡ left_in view before other) (sym kept.1) (left_in-push view before file other (λ e. apart (e ∙ sym kept.0)))
kept_others view before now file W (Err fault) kept = λ other. ap (λ items. left_in view items other) kept.1

-- nor does what comes of a file that wasn't opened
pub settled_others : {F E D : Type 0} (view : F → Option (List ℕ)) (before now : List F) (W : E → Type 0) (opened : Result F D) (result : Result ℕ E)
    → IfOk opened (λ file. MatchResult result (λ number. (number ≡ length before) × (now ≡ before ++ file ∷ [])) (λ fault. W fault × (now ≡ before)))
    → IfErr opened (λ _. (is_err result ≡ true) × (now ≡ before))
    → MatchResult result (λ number. OthersKeep (left_in view before) (left_in view now) number) (λ _. AllKeep (left_in view before) (left_in view now))
settled_others view before now W (Ok file) result found refused = kept_others view before now file W result found
settled_others view before now W (Err error) (Ok number) found refused = absurd (cc refused.0)
settled_others view before now W (Err error) (Err fault) found refused = λ other. ap (λ items. left_in view items other) refused.1

-- what holds of a file's view before and after a call holds of what its number has left
pub moved : {F : Type 0} (P : Option (List ℕ) → Option (List ℕ) → Type 0) (view : F → Option (List ℕ)) (files : List F) (at : ℕ) (old new : F)
    → at < length files → old ≡ get_or files at old → P (view old) (view new) → P (left_in view files at) (left_in view (set files at new) at)
moved P view files at old new lt is h =
    subst (λ (o : Option (List ℕ)). P o (left_in view (set files at new) at)) (sym (left_in-get view files at old lt ∙ ap view (sym is)))
    (subst (λ (n : Option (List ℕ)). P (view old) n) (sym (left_in-set_same view files at new lt)) h)
