-- What is written of declarations is what they were read from.
use Rattle.std.proofs.Common.{◌≡◌, ℕ, ◌<◌, inl, inr, Bool, false, ltb, List, [], ◌∷◌, length, get_or, map, Some, None, Ok, codes, bytes_eq, refl, sym, ap, subst, ◌∙◌, arith}
use Rattle.std.specs.List.{position_or_len}
use Rattle.std.proofs.lemmas.Bool.Decides.{nat_tests}
use Rattle.std.proofs.lemmas.List.Sums.{passes_at_first}
use Rattle.std.proofs.lemmas.Option.{slice_get-get_or}
use Rattle.std.proofs.lemmas.Slice.Eq.{bytes_eq-Decides}
use Rattle.spin_values.specs.declared.types.Param.{Param}
use Rattle.spin_values.specs.declared.types.EventType.{EventType}
use Rattle.spin_code.specs.declared.test.Test.{Test}
use Rattle.spin_objects.specs.Units.{Named}
use Rattle.spin_grammar.specs.Spelling.{guard_signature}
use Rattle.spin_grammar.specs.Grammar as grammar
use Rattle.spin_grammar.specs.Grammar.{Atom, Fixed, Typed, Want, Number, as_signature, accepts, reads}
use Rattle.spin_grammar.specs.Forms.{test_form}
use Rattle.spin_grammar.specs.Lines as line
use Rattle.spin_grammar.proofs.Signatures.{IsMarked, one_of, plain_signature}
use Rattle.spin_grammar.proofs.CanonicalSpelling.{ok_same, by_signature}
use Rattle.spin_script.specs.States.{native_at}
use Rattle.spin_script.specs.Canonical.{marked, by_value, name_at}
use Rattle.spin_script.specs.RoundTrip.{DeclarationsAreBack}
use Rattle.spin_script.proofs.WrittenDeeds.{first, number_first}
use Rattle.spin_script.proofs.WrittenParts.{name_is}

-- ---- natives

same_place : (m n : ℕ) → Some m ≡ Some n → m ≡ n
same_place m n e = cc

name_back : {X : Type 0} (name : List ℕ) (ns : List (Named X)) (k : ℕ) → native_at name ns ≡ Some k → name_at ns k ≡ name
name_back {X} name ns k e =
    let names : List (List ℕ) = map (λ (n : Named X). n.name) ns in
    let has_name : List ℕ → Bool = λ n. bytes_eq n name in
    let at : ℕ = position_or_len has_name names in
    elim (one_of (ltb at (length names)) (Some at) None (Some k) e) [
      | inl h ↦
          let inside : at < length names = grind (arith, nat_tests, h.0) in
          let is : get_or names at [] ≡ name = (bytes_eq-Decides (get_or names at []) name).0 (passes_at_first has_name names [] inside) in
          let there = slice_get-get_or names at [] inside ∙ ap (λ (n : List ℕ). Some n) is in
          subst (λ (i : ℕ). name_at ns i ≡ name) (same_place at k h.1) (name_is ns at name there)
      | inr h ↦ absurd (let bad : None ≡ Some k = h.1 in cc)
    ]

-- ---- guards

same_marks : (ps : List Param) → IsMarked false ps → marked false ps ≡ ps
same_marks [] h = refl
same_marks (p ∷ ps) h =
    let this : record { kind = p.kind; var = false } ≡ p = ap (λ (v : Bool). record { kind = p.kind; var = v }) (sym h.0) in
    ap (λ (q : Param). q ∷ marked false ps) this ∙ ap (λ (qs : List Param). p ∷ qs) (same_marks ps h.1)

typed_as : (sig other : EventType) (next others : List Want) → ◌≡◌ {A = Atom × List Want} (Typed sig, next) (Typed other, others) → sig ≡ other
typed_as sig other next others e = let same : Typed sig ≡ Typed other = ap (λ (p : Atom × List Want). p.0) e in cc

not_typed : (w : List ℕ) (sig : EventType) (next others : List Want) → ◌≡◌ {A = Atom × List Want} (Fixed w, next) (Typed sig, others) → ⊥
not_typed w sig next others e = let same : Fixed w ≡ Typed sig = ap (λ (p : Atom × List Want). p.0) e in absurd cc

guard_word : (w : List ℕ) (sig : EventType) (next : List Want) → accepts grammar.GuardBody w ≡ Ok (Typed sig, next) → guard_signature w ≡ Some sig
unfolding accepts
guard_word w sig next e =
    elim (one_of (bytes_eq w (codes "native")) (Ok (Fixed w, grammar.Name ∷ [])) (as_signature (guard_signature w) (grammar.Test ∷ [])) (Ok (Typed sig, next)) e) [
      | inl h ↦ absurd (not_typed w sig (grammar.Name ∷ []) next (ok_same (Fixed w, grammar.Name ∷ []) (Typed sig, next) h.1))
      | inr h ↦ let s = by_signature (guard_signature w) (grammar.Test ∷ []) (Typed sig, next) h.1 in s.1 ∙ ap (λ (x : EventType). Some x) (typed_as s.0 sig (grammar.Test ∷ []) next s.2)
    ]

value_back : (sig : EventType) → sig.gives ≡ false → IsMarked false sig.params → by_value sig ≡ sig
value_back sig none marks = ap (λ (ps : List Param). record { params = ps; gives = false }) (same_marks sig.params marks) ∙ ap (λ (b : Bool). record { params = sig.params; gives = b }) (sym none)

guard_back : (version g : ℕ) (sig : EventType) (t : Test) (ws : List (List ℕ)) → reads (Number 1 1023 ∷ grammar.GuardBody ∷ []) ws ≡ Ok (line.form (line.Guard g sig t)) → by_value sig ≡ sig
guard_back version g sig t ws e =
    let a = (number_first 1 1023 g (grammar.GuardBody ∷ []) ws (Typed sig ∷ test_form t) e).0 in
    let f = first grammar.GuardBody [] a.rest (Typed sig) (test_form t) a.reads in
    let s = plain_signature f.word sig (guard_word f.word sig f.next f.is) in
    value_back sig s.0 s.1

pub declarations_back : DeclarationsAreBack
declarations_back = record {
  guards = λ version n g sig t said. ap (λ (s : EventType). line.Guard g s t) (guard_back version g sig t said.0 said.1.words);
  native_handlers = λ n h name k is. ap (line.NativeHandler h) (name_back name n.handlers k is);
  native_guards = λ n g name k is. ap (line.NativeGuard g) (name_back name n.guards k is);
  authorisers = λ n e name k is. ap (λ (m : List ℕ). line.Authoriser e m ∷ []) (name_back name n.authorisers k is);
}
