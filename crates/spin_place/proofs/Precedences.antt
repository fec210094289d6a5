-- Which of some bindings must precede which, by their numbers.
use Rattle.std.proofs.Common.{◌≡◌, ℕ, eqb, List, get_or, refl, sym, ap, subst, ◌∙◌, inl, inr, arith}
use Rattle.std.specs.Prelude.{IsTrue}
use Rattle.std.specs.List.{All, Contains}
use Rattle.std.proofs.lemmas.Bool.{and_parts, not-true, eqb-false, cases_order}
use Rattle.std.proofs.lemmas.List.{get_or-map, get_or_default, length-map}
use Rattle.std.proofs.lemmas.List.Elements.{All-contains}
use Rattle.spin_place.specs.declared.binding.Binding.{Binding}
use Rattle.spin_place.specs.Orders.{AreDistinct}
use Rattle.spin_place.specs.Precedence.{must_precede, numbers_of, MustPrecede}

-- no binding must precede one with its own number
pub must_precede-apart : (b c : Binding) → IsTrue (must_precede b c) → b.number ≡ c.number → ⊥
must_precede-apart b c h e = eqb-false b.number c.number (not-true (eqb b.number c.number) (and_parts _ _ h).0) e

pub MustPrecede-irreflexive : (bs : List Binding) (n : ℕ) → MustPrecede bs n n → ⊥
MustPrecede-irreflexive bs n h = must_precede-apart h.1 h.4.1.1 h.4.1.4.1 (h.4.0 ∙ sym h.4.1.4.0)

-- the number of a binding of the list
abbrev pub Contains-number : (bs : List Binding) (b : Binding) → Contains bs b → Contains (numbers_of bs) b.number
Contains-number bs b (k, l, e) =
    (k, omega (arith, length-map bs (λ (x : Binding). x.number)), get_or-map (λ (x : Binding). x.number) bs k b b.number l ∙ ap (λ (x : Binding). x.number) e)

pub MustPrecede-within : (bs : List Binding) (m n : ℕ) → MustPrecede bs m n → Contains (numbers_of bs) m × Contains (numbers_of bs) n
MustPrecede-within bs m n (k, b, l, e, (is, (j, c, i, f, (is', h)))) =
    (subst (λ x. Contains (numbers_of bs) x) is (Contains-number bs b (k, l, e)), subst (λ x. Contains (numbers_of bs) x) is' (Contains-number bs c (j, i, f)))

pub MustPrecede-from : (bs : List Binding) (b c : Binding) → Contains bs b → Contains bs c → IsTrue (must_precede b c) → MustPrecede bs b.number c.number
MustPrecede-from bs b c (k, l, e) (j, i, f) h = (k, b, l, e, (refl, (j, c, i, f, (refl, h))))

-- what must precede another in a part of the bindings must do so in the whole
pub MustPrecede-more : (bs cs : List Binding) → All (Contains bs) cs → (m n : ℕ) → MustPrecede cs m n → MustPrecede bs m n
MustPrecede-more bs cs within m n (k, b, l, e, (is, (j, c, i, f, (is', h)))) =
    let first = All-contains (Contains bs) cs b within (k, l, e) in
    let second = All-contains (Contains bs) cs c within (j, i, f) in
    (first.0, b, first.1, first.2, (is, (second.0, c, second.1, second.2, (is', h))))

-- two bindings of the list with one number are one
pub same_binding : (bs : List Binding) (b c : Binding) → AreDistinct (numbers_of bs) → Contains bs b → Contains bs c → b.number ≡ c.number → b ≡ c
same_binding bs b c distinct (k, l, e) (j, i, f) same =
    let first = Contains-number bs b (k, l, e) in
    let second = Contains-number bs c (j, i, f) in
    elim (cases_order k j) [
      | inl at ↦ sym e ∙ ap (λ n. get_or bs n b) at ∙ get_or_default bs j b c i ∙ f
      | inr (inl before) ↦ absurd (distinct k j b.number before second.1 (first.2 ∙ same ∙ sym second.2 ∙ get_or_default (numbers_of bs) j c.number b.number second.1))
      | inr (inr after) ↦ absurd (distinct j k c.number after first.1 (second.2 ∙ sym same ∙ sym first.2 ∙ get_or_default (numbers_of bs) k b.number c.number first.1))
    ]

pub MustPrecede-at : (bs : List Binding) (b c : Binding) → AreDistinct (numbers_of bs) → Contains bs b → Contains bs c → MustPrecede bs b.number c.number → IsTrue (must_precede b c)
MustPrecede-at bs b c distinct first second (k, x, l, e, (is, (j, y, i, f, (is', h)))) =
    let same = same_binding bs x b distinct (k, l, e) first is in
    let same' = same_binding bs y c distinct (j, i, f) second is' in
    subst (λ (u : Binding). IsTrue (must_precede u c)) same (subst (λ (v : Binding). IsTrue (must_precede x v)) same' h)
