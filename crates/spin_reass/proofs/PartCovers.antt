-- Parts that share no byte cover all to the end of the last one where they have that many bytes.
use Rattle.std.proofs.Common.{◌≡◌, ◌≤◌, ◌<◌, ◌+◌, ◌⊎◌, inl, inr, ℕ, Bool, true, false, cond, nat_lt, nat_le, ◌==◌, List, [], ◌∷◌, Option, Some, None, refl, sym, ap, ◌∙◌, arith}
use Rattle.std.proofs.lemmas.Bool.{cases_lt, cases_Bool, and_from, and_left, and_right, or_cases, or_left, or_right, or_from, both_ways, le-leb, lt-ltb, lt-leb, le-ltb, false≢true}
use Rattle.std.proofs.lemmas.Bool.Decides.{Decides-below_and, Decides-like, Decides-eqb, same_from_decides}
use Rattle.std.specs.List.{list_any}
use Rattle.spin_reass.specs.declared.piece.Part.{Part}
use Rattle.spin_reass.specs.Fragments.{end_of}
use Rattle.spin_reass.specs.Joining.{has_byte, cover, cover_to, last_end, are_whole}
use Rattle.spin_reass.specs.Inner.Orderly.{are_orderly, size_of}
use Rattle.spin_reass.proofs.PartOrder.{IsFirst, first_of}

pub last_is : (last : Bool) (x e : ℕ) (o : Option ℕ) → cond last (Some x) o ≡ Some e → last ≡ true → x ≡ e
last_is true x e o h l = cc
last_is false x e o h l = absurd (false≢true l)

pub other_is : (last : Bool) (x e : ℕ) (o : Option ℕ) → cond last (Some x) o ≡ Some e → last ≡ false → o ≡ Some e
other_is false x e o h l = h
other_is true x e o h l = absurd (false≢true (sym l))

-- they don't reach past the end of the last one
pub reach : (from e : ℕ) (parts : List Part) → are_orderly from parts ≡ true → last_end parts ≡ Some e → from + size_of parts ≤ e
reach from e [] h l = absurd (cc (l))
reach from e (part ∷ parts) h l =
    let f = first_of from part parts h in
    let above = f.above in
    (elim (cases_Bool part.last) [
      | inl last ↦
          let none : size_of parts ≡ 0 = ap size_of (f.alone last) in
          let is : end_of part ≡ e = last_is part.last (end_of part) e (last_end parts) l last in
          omega arith
      | inr more ↦
          let later = reach (end_of part) e parts f.rest (other_is part.last (end_of part) e (last_end parts) l more) in
          omega arith
    ])

abbrev any_has : ℕ → List Part → Bool
any_has at parts = list_any (λ part. has_byte at part) parts

pub has_none : (at : ℕ) (part : Part) → (at < part.start) ⊎ (end_of part ≤ at) → has_byte at part ≡ false
has_none at part (inl before) = and_left (nat_le part.start at) (nat_lt at (end_of part)) (lt-leb part.start at before)
has_none at part (inr behind) = and_right (nat_le part.start at) (nat_lt at (end_of part)) (le-ltb at (end_of part) behind)

none_before : (from at : ℕ) (parts : List Part) → are_orderly from parts ≡ true → at < from → any_has at parts ≡ false
none_before from at [] h l = refl
none_before from at (part ∷ parts) h l =
    let f = first_of from part parts h in
    let above = f.above in
    or_from (has_byte at part) (any_has at parts) (has_none at part (inl (omega arith))) (none_before (end_of part) at parts f.rest (omega arith))

pub begins : (from : ℕ) (part : Part) (parts : List Part) → IsFirst from part parts → any_has from (part ∷ parts) ≡ true → from ≡ part.start
begins from part parts f has =
    let above = f.above in
    (elim (cases_lt from part.start) [
      | inl before ↦ absurd
          (both_ways (any_has from (part ∷ parts))
          (or_from (has_byte from part) (any_has from parts) (has_none from part (inl before)) (none_before (end_of part) from parts f.rest (omega arith))) has)
      | inr le ↦ omega arith
    ])

pub in_rest : (at : ℕ) (part : Part) (parts : List Part) → any_has at (part ∷ parts) ≡ true → end_of part ≤ at → any_has at parts ≡ true
in_rest at part parts has le =
    elim (or_cases (has_byte at part) (any_has at parts) has) [
      | inl here ↦ absurd (both_ways (has_byte at part) (has_none at part (inr le)) here)
      | inr there ↦ there
    ]

pub covered : (from e : ℕ) (parts : List Part) → are_orderly from parts ≡ true → last_end parts ≡ Some e → ((at : ℕ) → from ≤ at → at < e → any_has at parts ≡ true) → from + size_of parts ≡ e
covered from e [] h l all = absurd (cc (l))
covered from e (part ∷ parts) h l all =
    let f = first_of from part parts h in
    let above = f.above in
    let has = f.some in
    let within = reach from e (part ∷ parts) h l in
    let start : from ≡ part.start = begins from part parts f (all from (omega arith) (omega arith)) in
    (elim (cases_Bool part.last) [
      | inl last ↦
          let none : size_of parts ≡ 0 = ap size_of (f.alone last) in
          let is : end_of part ≡ e = last_is part.last (end_of part) e (last_end parts) l last in
          omega arith
      | inr more ↦
          let later = covered (end_of part) e parts f.rest (other_is part.last (end_of part) e (last_end parts) l more) (λ at le lt. in_rest at part parts (all at (omega arith) lt) le) in
          omega arith
    ])

pub fills : (from e : ℕ) (parts : List Part) → are_orderly from parts ≡ true → last_end parts ≡ Some e → from + size_of parts ≡ e → (at : ℕ) → from ≤ at → at < e → any_has at parts ≡ true
fills from e [] h l size at le lt = absurd (cc (l))
fills from e (part ∷ parts) h l size at le lt =
    let f = first_of from part parts h in
    let above = f.above in
    (elim (cases_Bool part.last) [
      | inl last ↦
          let none : size_of parts ≡ 0 = ap size_of (f.alone last) in
          let is : end_of part ≡ e = last_is part.last (end_of part) e (last_end parts) l last in
          or_left (has_byte at part) (any_has at parts) (has_it at part (omega arith) (omega arith))
      | inr more ↦
          let ends = other_is part.last (end_of part) e (last_end parts) l more in
          let later = reach (end_of part) e parts f.rest ends in
          (elim (cases_lt at (end_of part)) [
            | inl here ↦ or_left (has_byte at part) (any_has at parts) (has_it at part (omega arith) here)
            | inr there ↦ or_right (has_byte at part) (any_has at parts) (fills (end_of part) e parts f.rest ends (omega arith) at there lt)
          ])
    ]) where
      has_it : (at : ℕ) (part : Part) → part.start ≤ at → at < end_of part → has_byte at part ≡ true
      has_it at part le lt = and_from (nat_le part.start at) (nat_lt at (end_of part)) (le-leb part.start at le) (lt-ltb at (end_of part) lt)

pub cover_size : (e : ℕ) (parts : List Part) → are_orderly 0 parts ≡ true → last_end parts ≡ Some e → cover parts e ≡ (e == size_of parts)
cover_size e parts h l =
    let P : ℕ → Type 0 = λ at. any_has at parts ≡ true in
    same_from_decides (cover parts e) (e == size_of parts)
    (Decides-like {P = (k : ℕ) → k < e → P k} {Q = e ≡ size_of parts} (cover parts e)
    (λ all. (let n = covered 0 e parts h l (λ at le lt. all at lt) in omega arith))
    (λ is at lt. fills 0 e parts h l (omega arith) at (omega arith) lt)
    (Decides-below_and (λ at. any_has at parts) P (λ n. cover parts n) (λ k. (λ t. t, λ t. t)) refl (λ n. refl) e))
    (Decides-eqb e (size_of parts))

pub whole_is : (parts : List Part) (filled e : ℕ) → are_orderly 0 parts ≡ true → filled ≡ size_of parts → Some e ≡ last_end parts → (e == filled) ≡ are_whole parts
whole_is parts filled e h f l =
    ap (λ n. e == n) f ∙ sym (cover_size e parts h (sym l)) ∙ ap (λ o. cover_to parts o) l

pub whole_none : (parts : List Part) → None ≡ last_end parts → false ≡ are_whole parts
whole_none parts l = ap (λ o. cover_to parts o) l
