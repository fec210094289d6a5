-- What stood where things were passed over.
use Rattle.std.proofs.Common.{◌≡◌, ℕ, zero, suc, ◌<◌, ◌+◌, List, [], ◌∷◌, ◌++◌, length, refl, sym, ap, ◌∙◌, arith, add-one, append_assoc}
use Rattle.std.specs.Prelude.{replicate}
use Rattle.std.specs.List.{flat_map}
use Rattle.std.proofs.lemmas.List.{append-nil}
use Rattle.spin_grammar.specs.declared.fault.Fault.{Fault}
use Rattle.spin_grammar.specs.Grammar.{Atom, Want}
use Rattle.spin_grammar.specs.Inner.Reading.{Leads, Takes, Fails, Regrows, IsThere}
use Rattle.spin_grammar.proofs.ReadingParts.{leads_none, leads_then, leads_with, fails_then, fails_next, fails_with}

pub regrows_none : {A : Type 0} (form : A → List Atom) (want : Want) (n : ℕ) (old : List (List ℕ)) → Regrows form want n n old old
regrows_none form want n old = record { whole = λ behind last len t. (behind, len, t); fails = λ f h. h }

pub regrows_then : {A : Type 0} (form : A → List Atom) (want : Want) (a b c : ℕ) (old mid new : List (List ℕ))
    → Regrows form want a b old mid → Regrows form want b c mid new → Regrows form want a c old new
regrows_then form want a b c old mid new p q = record {
  whole = λ behind last len t.
      let r = q.whole behind last len t in
      p.whole r.0 last r.1 r.2;
  fails = λ f h. p.fails f (q.fails f h);
}

-- one thing was read whole
pub regrows_leaf : {A : Type 0} (form : A → List Atom) (want : Want) (x : A) (before after : ℕ) (old new : List (List ℕ))
    → before ≡ after + 1 → Takes (want ∷ []) (form x) old new → Regrows form want before after old new
regrows_leaf form want x before after old new e t = record {
  whole = λ behind last len u.
      rw (e, add-one) (
        x ∷ behind,
        ap suc len,
        leads_then (want ∷ replicate after want) (replicate after want) [] (form x)
            (flat_map form behind) old new last (leads_with (want ∷ []) [] (replicate after want) (form x) old new t) u,
      );
  fails = λ f h. rw (e, add-one) (fails_next want (replicate after want) (form x) f old new t h);
}

-- a word joins the next two
pub regrows_two : {A : Type 0} (form : A → List Atom) (want : Want) (a : Atom) (join : A → A → A) (before after : ℕ) (old new : List (List ℕ)) → 0 < before → after ≡ before + 1
    → ((x y : A) → form (join x y) ≡ a ∷ (form x ++ form y)) → Leads (want ∷ []) (a ∷ []) (want ∷ want ∷ []) old new → Regrows form want before after old new
regrows_two {A} form want a join zero after old new some e f t = absurd (omega arith)
regrows_two {A} form want a join (suc n) after old new some e f t =
    let g : after ≡ suc (suc n) = omega arith in
    record {
      whole = λ behind last len u. go behind last (len ∙ g) (rw g at u);
      fails =
          λ f h. fails_then (want ∷ replicate n want) (want ∷ want ∷ replicate n want) (a ∷ []) f old new (leads_with (want ∷ []) (want ∷ want ∷ []) (replicate n want) (a ∷ []) old new t) (rw g at h);
    }
  where
    go : (behind : List A) (last : List (List ℕ)) → length behind ≡ suc (suc n) → Takes (want ∷ want ∷ replicate n want) (flat_map form behind) new last
        → (front : List A) × (length front ≡ suc n) × Takes (want ∷ replicate n want) (flat_map form front) old last
    go [] last len u = absurd (omega arith)
    go (x ∷ []) last len u = absurd (omega arith)
    go (x ∷ (y ∷ more)) last len u =
        let both = leads_then (want ∷ replicate n want) (want ∷ want ∷ replicate n want) [] (a ∷ []) (form x ++ (form y ++ flat_map form more)) old new last
        (leads_with (want ∷ []) (want ∷ want ∷ []) (replicate n want) (a ∷ []) old new t) u in
        let same : a ∷ (form x ++ (form y ++ flat_map form more)) ≡ form (join x y) ++ flat_map form more =
        rw f (ap (λ (r : List Atom). a ∷ r) (sym (append_assoc (form x) (form y) (flat_map form more)))) in
        (join x y ∷ more, omega arith, rw same at both)

-- a word comes before the next one
pub regrows_one : {A : Type 0} (form : A → List Atom) (want : Want) (a : Atom) (turn : A → A) (n : ℕ) (old new : List (List ℕ)) → 0 < n
    → ((x : A) → form (turn x) ≡ a ∷ form x) → Leads (want ∷ []) (a ∷ []) (want ∷ []) old new → Regrows form want n n old new
regrows_one {A} form want a turn zero old new some f t = absurd (omega arith)
regrows_one {A} form want a turn (suc n) old new some f t = record {
  whole = go;
  fails = λ e h. fails_then (want ∷ replicate n want) (want ∷ replicate n want) (a ∷ []) e old new (leads_with (want ∷ []) (want ∷ []) (replicate n want) (a ∷ []) old new t) h;
}
  where
    go : (behind : List A) (last : List (List ℕ)) → length behind ≡ suc n → Takes (want ∷ replicate n want) (flat_map form behind) new last
        → (front : List A) × (length front ≡ suc n) × Takes (want ∷ replicate n want) (flat_map form front) old last
    go [] last len u = absurd (omega arith)
    go (x ∷ more) last len u =
        let both = leads_then (want ∷ replicate n want) (want ∷ replicate n want) [] (a ∷ []) (form x ++ flat_map form more) old new last
        (leads_with (want ∷ []) (want ∷ []) (replicate n want) (a ∷ []) old new t) u in
        let same : a ∷ (form x ++ flat_map form more) ≡ form (turn x) ++ flat_map form more = rw f refl in
        (turn x ∷ more, len, rw same at both)

first_of_one : {A : Type 0} (form : A → List Atom) (want : Want) (old last : List (List ℕ)) (front : List A) → length front ≡ 1
    → Takes (want ∷ []) (flat_map form front) old last → (x : A) × Takes (want ∷ []) (form x) old last × IsThere tt x
first_of_one form want old last [] len t = absurd (omega arith)
first_of_one form want old last (x ∷ []) len t = (x, rw append-nil at t, tt)
first_of_one form want old last (x ∷ (y ∷ more)) len t = absurd (omega arith)

-- one thing was passed over
pub regrown : {A : Type 0} (form : A → List Atom) (want : Want) (old new : List (List ℕ)) → Regrows form want 1 0 old new → (x : A) × Takes (want ∷ []) (form x) old new × IsThere tt x
regrown form want old new r =
    let w = r.whole [] new refl (leads_none [] new) in
    first_of_one form want old new w.0 w.1 w.2

pub fails_some : (want : Want) (n : ℕ) (f : Fault) (old : List (List ℕ)) → 0 < n → Fails (want ∷ []) f old → Fails (replicate n want) f old
fails_some want zero f old some h = absurd (omega arith)
fails_some want (suc n) f old some h = fails_with (want ∷ []) (replicate n want) f old h
