-- What is kept where it isn't too deep.
use Rattle.std.proofs.Common.{◌≡◌, ℕ, ◌≤◌, ◌+◌, Bool, true, false, ◌||◌, List, [], ◌∷◌, ◌++◌, length-append, Some, None, refl, ap, ◌∙◌, arith}
use Rattle.std.specs.Prelude.{nat_lt}
use Rattle.std.specs.List.{flat_map, list_any}
use Rattle.std.proofs.lemmas.Bool.{lt-ltb, le-ltb}
use Rattle.std.proofs.lemmas.List.{append-nil}
use Rattle.std.proofs.lemmas.List.Folds.{list_any-append}
use Rattle.std.proofs.lemmas.List.Concat.{flat_map-append}
use Rattle.spin_grammar.specs.declared.fault.Fault.{Fault}
use Rattle.spin_grammar.specs.Grammar.{Atom, Want}
use Rattle.spin_grammar.specs.Inner.Reading.{Leads, Fails, SoFar}
use Rattle.spin_grammar.specs.Lines.{IsWithin, IsKept}
use Rattle.spin_grammar.proofs.ReadingParts.{leads_none, leads_then, fails_then}

-- an expression that isn't kept is deep
pub deep_by : {A : Type 0} (depth : A → ℕ) (e : A) → IsWithin depth 8 None e → nat_lt 8 (depth e) ≡ true
deep_by depth e h = lt-ltb 8 (depth e) h

pub flat_by : {A : Type 0} (depth : A → ℕ) (e : A) → depth e ≤ 8 → nat_lt 8 (depth e) ≡ false
flat_by depth e h = le-ltb 8 (depth e) h

or_false : (b : Bool) → (b || false) ≡ b
or_false true = refl
or_false false = refl

or_true : (b : Bool) → (b || true) ≡ true
or_true true = refl
or_true false = refl

any_more : {A : Type 0} (p : A → Bool) (xs : List A) (x : A) → list_any p (xs ++ x ∷ []) ≡ (list_any p xs || p x)
any_more p xs x = list_any-append p xs (x ∷ []) ∙ ap (λ (b : Bool). list_any p xs || b) (or_false (p x))

forms_more : {A : Type 0} (form : A → List Atom) (xs : List A) (x : A) → flat_map form (xs ++ x ∷ []) ≡ flat_map form xs ++ form x
forms_more form xs x = flat_map-append form xs (x ∷ []) ∙ ap (λ (r : List Atom). flat_map form xs ++ r) (append-nil (form x))

pub so_far_none : {A : Type 0} (form : A → List Atom) (is_deep : A → Bool) (wants : List Want) (old : List (List ℕ)) → SoFar form is_deep wants wants false [] 0 old old
so_far_none form is_deep wants old = record { done = []; read = leads_none wants old; count = refl; all = λ h. (refl, refl); one = λ h. absurd cc }

-- one more was kept
pub so_far_kept : {A : Type 0} (form : A → List Atom) (is_deep : A → Bool) (wants mid others : List Want) (deep : Bool) (kept : List A) (n : ℕ) (x a : A) (old cur new : List (List ℕ))
    → SoFar form is_deep wants mid deep kept n old cur
    → Leads mid (form a) others cur new → IsKept is_deep (Some x) a → SoFar form is_deep wants others deep (kept ++ x ∷ []) (n + 1) old new
so_far_kept form is_deep wants mid others deep kept n x a old cur new s t k = record {
  done = s.done ++ a ∷ [];
  read = rw (forms_more form s.done a) (leads_then wants mid others (flat_map form s.done) (form a) old cur new s.read t);
  count = omega (arith, length-append s.done (a ∷ []), s.count);
  all = λ h.
      let r = s.all h in
      (rw (r.0, k.0) refl, any_more is_deep s.done a ∙ rw (r.1) k.1);
  one = λ h. any_more is_deep s.done a ∙ rw (s.one h) refl;
}

-- one more wasn't kept
pub so_far_deep : {A : Type 0} (form : A → List Atom) (is_deep : A → Bool) (wants mid others : List Want) (deep : Bool) (kept : List A) (n : ℕ) (a : A) (old cur new : List (List ℕ))
    → SoFar form is_deep wants mid deep kept n old cur
    → Leads mid (form a) others cur new → is_deep a ≡ true → SoFar form is_deep wants others true kept (n + 1) old new
so_far_deep form is_deep wants mid others deep kept n a old cur new s t k = record {
  done = s.done ++ a ∷ [];
  read = rw (forms_more form s.done a) (leads_then wants mid others (flat_map form s.done) (form a) old cur new s.read t);
  count = omega (arith, length-append s.done (a ∷ []), s.count);
  all = λ h. absurd cc;
  one = λ h. any_more is_deep s.done a ∙ rw k (or_true (list_any is_deep s.done));
}

pub so_far_fails : {A : Type 0} (form : A → List Atom) (is_deep : A → Bool) (wants mid : List Want) (deep : Bool) (kept : List A) (n : ℕ) (f : Fault) (old cur : List (List ℕ))
    → SoFar form is_deep wants mid deep kept n old cur → Fails mid f cur → Fails wants f old
so_far_fails form is_deep wants mid deep kept n f old cur s h = fails_then wants mid (flat_map form s.done) f old cur s.read h
