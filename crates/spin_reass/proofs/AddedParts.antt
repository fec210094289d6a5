-- A part that is added to the datagram at its place.
use Rattle.std.proofs.Common.{◌≡◌, ◌<◌, ℕ, zero, suc, true, false, cond, not, List, [], ◌∷◌, length, Option, Some, refl, sym, ap, ◌∙◌, arith, get_or, inl, inr}
use Rattle.std.proofs.Math.ListN.{set}
use Rattle.std.proofs.lemmas.Bool.{cases_Bool, and_parts, and_cases, both_ways, not_from_true, not_from_false, cond-true, cond-false}
use Rattle.std.specs.List.{remove}
use Rattle.spin_reass.specs.declared.piece.Key.{Key}
use Rattle.spin_reass.specs.declared.piece.Part.{Part}
use Rattle.spin_reass.specs.declared.piece.Piece.{Piece}
use Rattle.spin_reass.specs.Fragments.{piece_of, is_sound}
use Rattle.spin_reass.specs.Joining.{OpenDatagram, fits, placed, are_whole, whole_frame, has_key, opened, parts_of, with_parts, without, gathered, joined_by, joined}
use Rattle.spin_reass.specs.Inner.Orderly.{added_to, makes_whole}
use Rattle.spin_reass.specs.Inner.Places.{IsAt}
use Rattle.spin_reass.proofs.DatagramPlaces.{IsFound, found, same_is, parts_at, with_at, without_at}

-- the datagram at the place is this one
pub record IsThere (key : Key) (at : ℕ) (datagrams : List OpenDatagram) (one : OpenDatagram) : Type 0 where
  pub place : IsAt key at datagrams
  pub is : one ≡ get_or datagrams at one

there_found : (key : Key) (at : ℕ) (datagrams : List OpenDatagram) (one : OpenDatagram) → IsThere key at datagrams one → IsFound key at datagrams one
there_found key at datagrams one t = found key at datagrams one t.place

its_parts : (key : Key) (at : ℕ) (datagrams : List OpenDatagram) (one : OpenDatagram) → IsThere key at datagrams one → parts_of key datagrams ≡ one.parts
its_parts key at datagrams one t = parts_at key at datagrams one (there_found key at datagrams one t) ∙ ap (λ (d : OpenDatagram). d.parts) (sym t.is)

its_key : (key : Key) (at : ℕ) (datagrams : List OpenDatagram) (one : OpenDatagram) → IsThere key at datagrams one → one.key ≡ key
its_key key at datagrams one t = same_is one.key key (ap (λ d. has_key key d) t.is ∙ (there_found key at datagrams one t).has)

set_same : (datagrams : List OpenDatagram) (at : ℕ) (d : OpenDatagram) → at < length datagrams → set datagrams at (get_or datagrams at d) ≡ datagrams
set_same [] at d l = absurd (omega arith)
set_same (one ∷ others) zero d l = refl
set_same (one ∷ others) (suc at) d l = ap (λ xs. one ∷ xs) (set_same others at d (omega arith))

remove_set : (datagrams : List OpenDatagram) (at : ℕ) (new : OpenDatagram) → remove (set datagrams at new) at ≡ remove datagrams at
remove_set [] at new = refl
remove_set (one ∷ others) zero new = refl
remove_set (one ∷ others) (suc at) new = ap (λ xs. one ∷ xs) (remove_set others at new)

get_set : (datagrams : List OpenDatagram) (at : ℕ) (new d : OpenDatagram) → at < length datagrams → get_or (set datagrams at new) at d ≡ new
get_set [] at new d l = absurd (omega arith)
get_set (one ∷ others) zero new d l = refl
get_set (one ∷ others) (suc at) new d l = get_set others at new d (omega arith)

abbrev by_parts : Piece → List OpenDatagram → List ℕ → List Part → List OpenDatagram × List ℕ
by_parts piece datagrams frame before =
    cond (not (fits piece.part before)) (datagrams, frame)
    (cond (are_whole (placed piece.part before))
    (without piece.key datagrams, whole_frame (record { key = piece.key; parts = placed piece.part before }) frame)
    (with_parts piece.key (placed piece.part before) datagrams, frame))

by_its_parts : (piece : Piece) (at : ℕ) (datagrams : List OpenDatagram) (frame : List ℕ) (one : OpenDatagram)
    → IsThere piece.key at datagrams one → gathered piece datagrams frame ≡ by_parts piece datagrams frame one.parts
by_its_parts piece at datagrams frame one t = ap (λ ps. by_parts piece datagrams frame ps) (its_parts piece.key at datagrams one t)

-- it isn't whole then
pub gathers_on : (piece : Piece) (at : ℕ) (datagrams : List OpenDatagram) (frame : List ℕ) (one new : OpenDatagram) → IsThere piece.key at datagrams one
    → new ≡ added_to one piece.part → makes_whole piece.part one.parts ≡ false → gathered piece datagrams frame ≡ (set datagrams at new, frame)
gathers_on piece at datagrams frame one new t is more =
    let f = there_found piece.key at datagrams one t in
    let after : List Part = placed piece.part one.parts in
    let whole : OpenDatagram = record { key = piece.key; parts = after } in
    by_its_parts piece at datagrams frame one t
    ∙ (elim (cases_Bool (fits piece.part one.parts)) [
      | inl fit ↦
          (let gap : are_whole after ≡ false =
          (elim (and_cases (fits piece.part one.parts) (are_whole after) more) [ inl off ↦ absurd (both_ways (fits piece.part one.parts) off fit) | inr off ↦ off ]) in
          let added : new ≡ record (get_or datagrams at one) { parts = after } =
          is ∙ cond-true (fits piece.part one.parts) (record one { parts = after }) one fit ∙ ap (λ (d : OpenDatagram). record d { parts = after }) t.is in
          cond-false (not (fits piece.part one.parts)) (datagrams, frame)
          (cond (are_whole after) (without piece.key datagrams, whole_frame whole frame) (with_parts piece.key after datagrams, frame)) (not_from_true (fits piece.part one.parts) fit)
          ∙ cond-false (are_whole after) (without piece.key datagrams, whole_frame whole frame) (with_parts piece.key after datagrams, frame) gap
          ∙ ap (λ xs. (xs, frame)) (with_at piece.key after at datagrams one f ∙ ap (λ d. set datagrams at d) (sym added)))
      | inr off ↦
          (let same : new ≡ get_or datagrams at one = is ∙ cond-false (fits piece.part one.parts) (record one { parts = after }) one off ∙ t.is in
          cond-true (not (fits piece.part one.parts)) (datagrams, frame)
          (cond (are_whole after) (without piece.key datagrams, whole_frame whole frame) (with_parts piece.key after datagrams, frame)) (not_from_false (fits piece.part one.parts) off)
          ∙ ap (λ xs. (xs, frame)) (sym (ap (λ d. set datagrams at d) same ∙ set_same datagrams at one f.there)))
    ])

-- it is whole then
pub gathers_all : (piece : Piece) (at : ℕ) (datagrams : List OpenDatagram) (frame : List ℕ) (one new gone : OpenDatagram) → IsThere piece.key at datagrams one → new ≡ added_to one piece.part
    → makes_whole piece.part one.parts ≡ true → gone ≡ get_or (set datagrams at new) at gone → gathered piece datagrams frame ≡ (remove (set datagrams at new) at, whole_frame gone frame)
gathers_all piece at datagrams frame one new gone t is whole at_place =
    let f = there_found piece.key at datagrams one t in
    let after : List Part = placed piece.part one.parts in
    let all : OpenDatagram = record { key = piece.key; parts = after } in
    let w = and_parts (fits piece.part one.parts) (are_whole after) whole in
    let added : new ≡ all =
    is ∙ cond-true (fits piece.part one.parts) (record one { parts = after }) one w.0 ∙ ap (λ (k : Key). record { key = k; parts = after }) (its_key piece.key at datagrams one t) in
    let taken : gone ≡ all = at_place ∙ get_set datagrams at new gone f.there ∙ added in
    by_its_parts piece at datagrams frame one t
    ∙ cond-false (not (fits piece.part one.parts)) (datagrams, frame)
    (cond (are_whole after) (without piece.key datagrams, whole_frame all frame) (with_parts piece.key after datagrams, frame)) (not_from_true (fits piece.part one.parts) w.0)
    ∙ cond-true (are_whole after) (without piece.key datagrams, whole_frame all frame) (with_parts piece.key after datagrams, frame) w.1
    ∙ (λ i. (sym (remove_set datagrams at new ∙ sym (without_at piece.key at datagrams one f)) i, whole_frame (sym taken i) frame))

-- a part, sound or not
pub takes_unsound : (piece : Piece) (datagrams : List OpenDatagram) (frame : List ℕ) → is_sound piece.part ≡ false → (datagrams, frame) ≡ joined_by (Some piece) datagrams frame
takes_unsound piece datagrams frame e = sym (cond-false (is_sound piece.part) (gathered piece (opened piece.key datagrams) frame) (datagrams, frame) e)

pub takes_sound : (piece : Piece) (datagrams after : List OpenDatagram) (frame : List ℕ) → is_sound piece.part ≡ true
    → after ≡ opened piece.key datagrams → gathered piece after frame ≡ joined_by (Some piece) datagrams frame
takes_sound piece datagrams after frame e o = ap (λ xs. gathered piece xs frame) o ∙ sym (cond-true (is_sound piece.part) (gathered piece (opened piece.key datagrams) frame) (datagrams, frame) e)

pub joins_piece : (piece : Option Piece) (datagrams : List OpenDatagram) (frame : List ℕ) → piece ≡ piece_of frame → joined_by piece datagrams frame ≡ joined datagrams frame
unfolding joined
joins_piece piece datagrams frame e = ap (λ o. joined_by o datagrams frame) e
