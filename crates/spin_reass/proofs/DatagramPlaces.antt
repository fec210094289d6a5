-- The open datagram of a key, at its place.
use Rattle.std.proofs.Common.{◌≡◌, ◌<◌, ◌+◌, ℕ, zero, suc, Bool, true, false, cond, nat_lt, not, ◌==◌, ◌&&◌, ◌||◌, List}
use Rattle.std.proofs.Common.{[], ◌∷◌, ◌++◌, length, drop, Some, None, refl, sym, ap, ◌∙◌, arith, get_or, inl, inr}
use Rattle.std.proofs.Math.ListN.{set}
use Rattle.std.proofs.lemmas.Bool.{cases_Bool, and_parts, and_from, or_left, or_parts, both_ways, not_from_true, not_from_false, eqb-true, eq-eqb, lt-ltb, cond-true, cond-false, cond_both}
use Rattle.std.proofs.lemmas.Bool.Decides.{nat_tests}
use Rattle.std.proofs.lemmas.List.{length-append}
use Rattle.std.proofs.lemmas.List.Quantifiers.{position-Some}
use Rattle.std.specs.List.{remove, position, position_or_len, list_any}
use Rattle.spin_reass.specs.declared.limits.TheConstants.{MAX_OPEN}
use Rattle.spin_reass.specs.declared.piece.Key.{Key}
use Rattle.spin_reass.specs.declared.piece.Part.{Part}
use Rattle.spin_reass.specs.Joining.{OpenDatagram, same_key, has_key, with_room, opened, parts_of, with_parts, without}
use Rattle.spin_reass.specs.Inner.Places.{IsAt}

pub same_is : (a b : Key) → same_key a b ≡ true → a ≡ b
same_is a b h =
    let t = and_parts ((a.source == b.source) && (a.destination == b.destination) && (a.protocol == b.protocol)) (a.ident == b.ident) h in
    let u = and_parts ((a.source == b.source) && (a.destination == b.destination)) (a.protocol == b.protocol) t.0 in
    let v = and_parts (a.source == b.source) (a.destination == b.destination) u.0 in
    λ i. record {
      source = eqb-true a.source b.source v.0 i;
      destination = eqb-true a.destination b.destination v.1 i;
      protocol = eqb-true a.protocol b.protocol u.1 i;
      ident = eqb-true a.ident b.ident t.1 i;
    }

pub same_self : (key : Key) → same_key key key ≡ true
same_self key =
    and_from ((key.source == key.source) && (key.destination == key.destination) && (key.protocol == key.protocol)) (key.ident == key.ident)
    (and_from ((key.source == key.source) && (key.destination == key.destination)) (key.protocol == key.protocol)
    (and_from (key.source == key.source) (key.destination == key.destination) (eq-eqb key.source key.source refl) (eq-eqb key.destination key.destination refl))
    (eq-eqb key.protocol key.protocol refl))
    (eq-eqb key.ident key.ident refl)

-- the first of that key stands at that place
pub record IsFound (key : Key) (at : ℕ) (datagrams : List OpenDatagram) (d : OpenDatagram) : Type 0 where
  pub there : at < length datagrams
  pub has : has_key key (get_or datagrams at d) ≡ true
  pub first : (k : ℕ) → k < at → has_key key (get_or datagrams k d) ≡ false

tail_found : (key : Key) (at : ℕ) (one : OpenDatagram) (others : List OpenDatagram) (d : OpenDatagram) → IsFound key (suc at) (one ∷ others) d → IsFound key at others d
tail_found key at one others d f = record { there = (let l = f.there in omega arith); has = f.has; first = λ k l. f.first (suc k) (omega arith) }

pub parts_at : (key : Key) (at : ℕ) (datagrams : List OpenDatagram) (d : OpenDatagram) → IsFound key at datagrams d → parts_of key datagrams ≡ (get_or datagrams at d).parts
parts_at key at [] d f = absurd (let l = f.there in omega arith)
parts_at key zero (one ∷ others) d f = cond-true (has_key key one) one.parts (parts_of key others) f.has
parts_at key (suc at) (one ∷ others) d f =
    cond-false (has_key key one) one.parts (parts_of key others) (f.first 0 (omega arith)) ∙ parts_at key at others d (tail_found key at one others d f)

pub with_at : (key : Key) (parts : List Part) (at : ℕ) (datagrams : List OpenDatagram) (d : OpenDatagram) → IsFound key at datagrams d
    → with_parts key parts datagrams ≡ set datagrams at (record (get_or datagrams at d) { parts = parts })
with_at key parts at [] d f = absurd (let l = f.there in omega arith)
with_at key parts zero (one ∷ others) d f = cond-true (has_key key one) (record one { parts = parts } ∷ others) (one ∷ with_parts key parts others) f.has
with_at key parts (suc at) (one ∷ others) d f =
    cond-false (has_key key one) (record one { parts = parts } ∷ others) (one ∷ with_parts key parts others) (f.first 0 (omega arith))
    ∙ ap (λ xs. one ∷ xs) (with_at key parts at others d (tail_found key at one others d f))

pub without_at : (key : Key) (at : ℕ) (datagrams : List OpenDatagram) (d : OpenDatagram) → IsFound key at datagrams d → without key datagrams ≡ remove datagrams at
without_at key at [] d f = absurd (let l = f.there in omega arith)
without_at key zero (one ∷ others) d f = cond-true (has_key key one) others (one ∷ without key others) f.has
without_at key (suc at) (one ∷ others) d f =
    cond-false (has_key key one) others (one ∷ without key others) (f.first 0 (omega arith))
    ∙ ap (λ xs. one ∷ xs) (without_at key at others d (tail_found key at one others d f))

-- one is found where one is open, and only there
found_any : (key : Key) (at : ℕ) (datagrams : List OpenDatagram) (d : OpenDatagram) → IsFound key at datagrams d → list_any (has_key key) datagrams ≡ true
found_any key at [] d f = absurd (let l = f.there in omega arith)
found_any key zero (one ∷ others) d f = or_left (has_key key one) (list_any (has_key key) others) f.has
found_any key (suc at) (one ∷ others) d f =
    (λ i. f.first 0 (omega arith) i || list_any (has_key key) others) ∙ found_any key at others d (tail_found key at one others d f)

none_any : (key : Key) (datagrams : List OpenDatagram) → nat_lt (position_or_len (has_key key) datagrams) (length datagrams) ≡ false → list_any (has_key key) datagrams ≡ false
none_any key [] e = refl
none_any key (one ∷ others) e =
    elim (cases_Bool (has_key key one)) [
      | inl has ↦ absurd (let z = cond-false (not (has_key key one)) (1 + position_or_len (has_key key) others) 0 (not_from_true (has_key key one) has) in
          both_ways _ e (ap (λ n. nat_lt n (length (one ∷ others))) z ∙ lt-ltb 0 (length (one ∷ others)) (omega arith)))
      | inr has ↦ or_false has (none_any key others (let z = cond-true (not (has_key key one)) (1 + position_or_len (has_key key) others) 0 (not_from_false (has_key key one) has) in
          sym (less (position_or_len (has_key key) others) (length others)) ∙ ap (λ n. nat_lt n (length (one ∷ others))) (sym z) ∙ e))
    ] where
      or_false : {a b : Bool} → a ≡ false → b ≡ false → (a || b) ≡ false
      or_false {a} {b} p q = (λ i. p i || b) ∙ q

      less : (m n : ℕ) → nat_lt (1 + m) (suc n) ≡ nat_lt m n
      less m n = grind (arith, nat_tests)

-- the datagram of that key, of which no part came
abbrev pub fresh : Key → OpenDatagram
fresh key = record { key = key; parts = [] }

pub found : (key : Key) (at : ℕ) (datagrams : List OpenDatagram) (d : OpenDatagram) → IsAt key at datagrams → IsFound key at datagrams d
found key at datagrams d e =
    let p = position-Some (has_key key) datagrams at d e in record { there = p.0; has = p.1; first = p.2 }

pub opened_found : (key : Key) (at : ℕ) (datagrams : List OpenDatagram) → IsAt key at datagrams → datagrams ≡ opened key datagrams
opened_found key at datagrams e =
    sym (cond-true (list_any (has_key key) datagrams) datagrams (with_room datagrams ++ fresh key ∷ []) (found_any key at datagrams (fresh key) (found key at datagrams (fresh key) e)))

pub opened_none : (key : Key) (datagrams : List OpenDatagram) → list_any (has_key key) datagrams ≡ false → opened key datagrams ≡ with_room datagrams ++ fresh key ∷ []
opened_none key datagrams e = cond-false (list_any (has_key key) datagrams) datagrams (with_room datagrams ++ fresh key ∷ []) e

no_place : (b : Bool) (n : ℕ) → cond b (Some n) None ≡ None → b ≡ false
no_place true n e = absurd (cc (e))
no_place false n e = refl

pub not_found : (key : Key) (datagrams : List OpenDatagram) → position (has_key key) datagrams ≡ None → list_any (has_key key) datagrams ≡ false
not_found key datagrams e =
    none_any key datagrams (no_place (nat_lt (position_or_len (has_key key) datagrams) (length datagrams)) (position_or_len (has_key key) datagrams) e)

none_dropped : (key : Key) (datagrams : List OpenDatagram) → list_any (has_key key) datagrams ≡ false → list_any (has_key key) (drop 1 datagrams) ≡ false
none_dropped key [] e = refl
none_dropped key (one ∷ others) e = (or_parts (has_key key one) (list_any (has_key key) others) e).1

pub none_with_room : (key : Key) (datagrams : List OpenDatagram) → list_any (has_key key) datagrams ≡ false → list_any (has_key key) (with_room datagrams) ≡ false
none_with_room key datagrams e =
    cond_both (nat_lt (length datagrams) MAX_OPEN) datagrams (drop 1 datagrams) (λ xs. list_any (has_key key) xs ≡ false) (λ _. e) (λ _. none_dropped key datagrams e)

pub pushed_len : (key : Key) (datagrams : List OpenDatagram) → list_any (has_key key) datagrams ≡ false → position_or_len (has_key key) (datagrams ++ fresh key ∷ []) ≡ length datagrams
pushed_len key [] e = cond-false (not (has_key key (fresh key))) 1 0 (not_from_true (has_key key (fresh key)) (same_self key))
pushed_len key (one ∷ others) e =
    let p = or_parts (has_key key one) (list_any (has_key key) others) e in
    cond-true (not (has_key key one)) (1 + position_or_len (has_key key) (others ++ fresh key ∷ [])) 0 (not_from_false (has_key key one) p.0)
    ∙ (let more = pushed_len key others p.1 in omega arith)

-- the new one is found behind the others
pub pushed_at : (key : Key) (datagrams : List OpenDatagram) → list_any (has_key key) datagrams ≡ false → IsAt key (length datagrams) (datagrams ++ fresh key ∷ [])
pushed_at key datagrams e =
    let n = pushed_len key datagrams e in
    cond-true (nat_lt (position_or_len (has_key key) (datagrams ++ fresh key ∷ [])) (length (datagrams ++ fresh key ∷ []))) (Some (position_or_len (has_key key) (datagrams ++ fresh key ∷ []))) None
    (lt-ltb (position_or_len (has_key key) (datagrams ++ fresh key ∷ [])) (length (datagrams ++ fresh key ∷ [])) (omega (arith, length-append datagrams (fresh key ∷ []))))
    ∙ ap Some n
