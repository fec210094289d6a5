-- A word that is read as a signature is spelled so.
use Rattle.std.proofs.Common.{◌≡◌, ℕ, ◌-◌, ◌≤◌, ◌⊎◌, ◌&&◌, inl, inr, Bool, true, false, cond, eqb, leb, List, [], ◌∷◌, ◌++◌, length, map, take, drop}
use Rattle.std.proofs.Common.{Option, Some, None, codes, bytes_eq, refl, sym, ap, subst, ◌∙◌, arith}
use Rattle.std.specs.Char.{to_ascii_lowercase}
use Rattle.std.specs.List.{list_all}
use Rattle.std.proofs.lemmas.Bool.Decides.{nat_tests}
use Rattle.std.proofs.lemmas.List.{take-append-drop, length-map}
use Rattle.std.proofs.lemmas.Slice.Eq.{bytes_eq-Decides}
use Rattle.spin_values.specs.declared.types.EventType.{EventType}
use Rattle.spin_values.specs.declared.types.Param.{Param}
use Rattle.spin_grammar.specs.Canonical.{letter, letters, params_word}
use Rattle.spin_grammar.specs.Spelling.{is_letter, param_of, params_of, says_result, as_type, signature, guard_signature}
use Rattle.spin_grammar.proofs.CanonicalSpelling.{both, second}
use Rattle.spin_grammar.proofs.Signatures.{one_of}
use Rattle.spin_inputs.specs.Texts.{IsSignature}

-- ---- letters

same_or_not : (c n : ℕ) (b : Bool) → eqb c n ≡ b → (c ≡ n) ⊎ (eqb c n ≡ false)
same_or_not c n true e = inl (grind (arith, nat_tests, e))
same_or_not c n false e = inr e

-- a letter in lower case, where the case is no mark
abbrev unmarked : Bool → ℕ → ℕ
unmarked true c = c
unmarked false c = to_ascii_lowercase c

-- it is the letter of what it stands for
abbrev IsOwn : Bool → ℕ → Type 0
IsOwn marks c = unmarked marks c ≡ letter (param_of marks c).kind (param_of marks c).var

each_own : (marks : Bool) → IsOwn marks 119 × IsOwn marks 98 × IsOwn marks 87 × IsOwn marks 66
each_own true = (refl, refl, refl, refl)
each_own false = (refl, refl, refl, refl)

own : (marks : Bool) (c : ℕ) → is_letter c ≡ true → IsOwn marks c
own marks c e =
    elim (same_or_not c 119 (eqb c 119) refl) [
      | inl same ↦ subst (IsOwn marks) (sym same) (each_own marks).0
      | inr first_not ↦ elim (same_or_not c 98 (eqb c 98) refl) [
        | inl same ↦ subst (IsOwn marks) (sym same) (each_own marks).1
        | inr second_not ↦ elim (same_or_not c 87 (eqb c 87) refl) [
          | inl same ↦ subst (IsOwn marks) (sym same) (each_own marks).2
          | inr third_not ↦ elim (same_or_not c 66 (eqb c 66) refl) [
            | inl same ↦ subst (IsOwn marks) (sym same) (each_own marks).3
            | inr last_not ↦ absurd (let bad : is_letter c ≡ false = rw (first_not, second_not, third_not, last_not) refl in cc)
          ]
        ]
      ]
    ]

all_own : (marks : Bool) (cs : List ℕ) → list_all is_letter cs ≡ true → map (unmarked marks) cs ≡ letters (map (param_of marks) cs)
all_own marks [] e = refl
all_own marks (c ∷ cs) e =
    ap (λ (x : ℕ). x ∷ map (unmarked marks) cs) (own marks c (both (is_letter c) (list_all is_letter cs) e))
    ∙ ap (λ (xs : List ℕ). letter (param_of marks c).kind (param_of marks c).var ∷ xs) (all_own marks cs (second (is_letter c) (list_all is_letter cs) e))

as_is : (w : List ℕ) → map (unmarked true) w ≡ w
as_is [] = refl
as_is (c ∷ cs) = ap (λ (xs : List ℕ). c ∷ xs) (as_is cs)

lowered : (w : List ℕ) → map (unmarked false) w ≡ map to_ascii_lowercase w
lowered [] = refl
lowered (c ∷ cs) = ap (λ (xs : List ℕ). to_ascii_lowercase c ∷ xs) (lowered cs)

-- ---- parameters

pub same_bytes : (w v : List ℕ) → bytes_eq w v ≡ true → w ≡ v
same_bytes w v h = (bytes_eq-Decides w v).0 h

some_same : {A : Type 0} (x y : A) → Some x ≡ Some y → x ≡ y
some_same x y e = cc

-- the word of at most 8 parameters
abbrev AreSpelled : Bool → List Param → List ℕ → Type 0
AreSpelled marks ps w = (length ps ≤ 8) × (map (unmarked marks) w ≡ params_word ps)

dash : (marks : Bool) → AreSpelled marks [] (codes "-")
dash true = (omega arith, refl)
dash false = (omega arith, refl)

lettered : (marks : Bool) (w : List ℕ) → (leb 1 (length w) && leb (length w) 8 && list_all is_letter w) ≡ true → AreSpelled marks (map (param_of marks) w) w
lettered marks [] t = absurd cc
lettered marks (c ∷ cs) t =
    let short : length (c ∷ cs) ≤ 8 = grind (arith, nat_tests, t) in
    let all = second (leb 1 (length (c ∷ cs)) && leb (length (c ∷ cs)) 8) (list_all is_letter (c ∷ cs)) t in
    (omega (arith, length-map (c ∷ cs) (param_of marks), short), all_own marks (c ∷ cs) all)

params_spelled : (marks : Bool) (w : List ℕ) (ps : List Param) → params_of marks w ≡ Some ps → AreSpelled marks ps w
params_spelled marks w ps e =
    elim (one_of (bytes_eq w (codes "-")) (Some []) (cond (leb 1 (length w) && leb (length w) 8 && list_all is_letter w) (Some (map (param_of marks) w)) None) (Some ps) e) [
      | inl h ↦
          let none : [] ≡ ps = some_same [] ps h.1 in
          subst (λ (v : List ℕ). AreSpelled marks ps v) (sym (same_bytes w (codes "-") h.0)) (subst (λ (qs : List Param). AreSpelled marks qs (codes "-")) none (dash marks))
      | inr h ↦ elim (one_of (leb 1 (length w) && leb (length w) 8 && list_all is_letter w) (Some (map (param_of marks) w)) None (Some ps) h.1) [
        | inl k ↦ subst (λ (qs : List Param). AreSpelled marks qs w) (some_same (map (param_of marks) w) ps k.1) (lettered marks w k.0)
        | inr k ↦ absurd (let bad : None ≡ Some ps = k.1 in cc)
      ]
    ]

-- ---- signatures

typed : (gives : Bool) (o : Option (List Param)) (sig : EventType) → as_type gives o ≡ Some sig → (ps : List Param) × (o ≡ Some ps) × (record { params = ps; gives = gives } ≡ sig)
typed gives None sig e = absurd cc
typed gives (Some ps) sig e = (ps, refl, some_same (record { params = ps; gives = gives }) sig e)

with_result : (w : List ℕ) (sig : EventType) → says_result w ≡ true → as_type true (params_of true (take (length w - 2) w)) ≡ Some sig → IsSignature false sig w
with_result w sig says e =
    let t = typed true (params_of true (take (length w - 2) w)) sig e in
    let p = params_spelled true (take (length w - 2) w) t.0 t.1 in
    let front : take (length w - 2) w ≡ params_word t.0 = sym (as_is (take (length w - 2) w)) ∙ p.1 in
    let back : drop (length w - 2) w ≡ codes ":w" =
    same_bytes (drop (length w - 2) w) (codes ":w") (second (leb 2 (length w)) (bytes_eq (drop (length w - 2) w) (codes ":w")) says) in
    subst (λ (s : EventType). IsSignature false s w) t.2 (
      p.0,
      sym (take-append-drop (length w - 2) w) ∙ ap (λ (x : List ℕ). take (length w - 2) w ++ x) back ∙ ap (λ (x : List ℕ). x ++ codes ":w") front,
    )

pub signature_spelled : (w : List ℕ) (sig : EventType) → signature w ≡ Some sig → IsSignature false sig w
unfolding signature
signature_spelled w sig e =
    elim (one_of (says_result w) (as_type true (params_of true (take (length w - 2) w))) (as_type false (params_of true w)) (Some sig) e) [
      | inl h ↦ with_result w sig h.0 h.1
      | inr h ↦
          let t = typed false (params_of true w) sig h.1 in
          let p = params_spelled true w t.0 t.1 in
          subst (λ (s : EventType). IsSignature false s w) t.2 (p.0, sym (as_is w) ∙ p.1)
    ]

pub guard_spelled : (w : List ℕ) (sig : EventType) → guard_signature w ≡ Some sig → IsSignature true sig w
unfolding guard_signature
guard_spelled w sig e =
    elim (one_of (says_result w) None (as_type false (params_of false w)) (Some sig) e) [
      | inl h ↦ absurd (let bad : None ≡ Some sig = h.1 in cc)
      | inr h ↦
          let t = typed false (params_of false w) sig h.1 in
          let p = params_spelled false w t.0 t.1 in
          subst (λ (s : EventType). IsSignature true s w) t.2 (p.0, refl, sym (lowered w) ∙ p.1)
    ]
