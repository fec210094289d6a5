-- A datagram that stays open while parts of others come.
use Rattle.std.proofs.Common.{◌≡◌, ◌≤◌, ◌<◌, ◌+◌, inl, inr, ℕ, suc, Bool, true, false, cond, nat_lt, not, ◌||◌, List}
use Rattle.std.proofs.Common.{[], ◌∷◌, ◌++◌, length, Option, Some, None, refl, sym, ap, subst, ◌∙◌, arith, append_assoc}
use Rattle.std.proofs.lemmas.Bool.{cases_Bool, or_cases, or_left, or_right, or_from, or_parts, both_ways, false≢true, ltb-false, cond-true, cond-false, cond_both, not_from_true}
use Rattle.std.proofs.lemmas.List.{length-append}
use Rattle.std.proofs.lemmas.List.Folds.{list_any-append}
use Rattle.std.specs.Bool.{⊤}
use Rattle.std.specs.List.{list_any}
use Rattle.spin_reass.specs.declared.limits.TheConstants.{MAX_OPEN}
use Rattle.spin_reass.specs.declared.piece.Key.{Key}
use Rattle.spin_reass.specs.declared.piece.Part.{Part}
use Rattle.spin_reass.specs.declared.piece.Piece.{Piece}
use Rattle.spin_reass.specs.Fragments.{piece_of, is_sound}
use Rattle.spin_reass.specs.Joining.{OpenDatagram, fits, placed, are_whole, whole_frame, same_key, has_key, with_room, opened, parts_of, with_parts, without, gathered, joined_by, joined}
use Rattle.spin_reass.specs.Laws.{IsOther}
use Rattle.spin_reass.proofs.DatagramPlaces.{same_is, same_self, fresh, opened_none}

same_sym : (a b : Key) → same_key a b ≡ true → same_key b a ≡ true
same_sym a b h = ap (λ k. same_key b k) (same_is a b h) ∙ same_self b

other_sym : (a b : Key) → same_key a b ≡ false → same_key b a ≡ false
other_sym a b h =
    elim (cases_Bool (same_key b a)) [
      | inl e ↦ absurd (both_ways (same_key a b) h (same_sym b a e))
      | inr e ↦ e
    ]

-- ---- keys that differ, all of them among others, are no more than those

abbrev pub among : List Key → Key → Bool
among others key = list_any (λ other. same_key other key) others

abbrev pub AreOthers : List Key → List OpenDatagram → Type 0
AreOthers others [] = ⊤
AreOthers others (one ∷ datagrams) = (among others one.key ≡ true) × (list_any (has_key one.key) datagrams ≡ false) × AreOthers others datagrams

abbrev less : Key → List Key → List Key
less key [] = []
less key (other ∷ others) = cond (same_key other key) others (other ∷ less key others)

less_length : (key : Key) (others : List Key) → among others key ≡ true → suc (length (less key others)) ≡ length others
less_length key [] h = absurd (false≢true h)
less_length key (other ∷ others) h =
    elim (cases_Bool (same_key other key)) [
      | inl e ↦ ap (λ xs. suc (length xs)) (cond-true (same_key other key) others (other ∷ less key others) e)
      | inr e ↦
          ap (λ xs. suc (length xs)) (cond-false (same_key other key) others (other ∷ less key others) e)
          ∙ (elim (or_cases (same_key other key) (among others key) h) [
            | inl is ↦ absurd (both_ways (same_key other key) e is)
            | inr there ↦ ap suc (less_length key others there)
          ])
    ]

less_keeps : (key one : Key) (others : List Key) → same_key one key ≡ false → among others one ≡ true → among (less key others) one ≡ true
less_keeps key one [] n h = absurd (false≢true h)
less_keeps key one (other ∷ others) n h =
    elim (or_cases (same_key other one) (among others one) h) [
      | inl is ↦
          (let differs : same_key other key ≡ false = ap (λ k. same_key k key) (same_is other one is) ∙ n in
          ap (λ xs. among xs one) (cond-false (same_key other key) others (other ∷ less key others) differs) ∙ or_left (same_key other one) (among (less key others) one) is)
      | inr there ↦
          (elim (cases_Bool (same_key other key)) [
            | inl e ↦ ap (λ xs. among xs one) (cond-true (same_key other key) others (other ∷ less key others) e) ∙ there
            | inr e ↦ ap (λ xs. among xs one) (cond-false (same_key other key) others (other ∷ less key others) e)
                ∙ or_right (same_key other one) (among (less key others) one) (less_keeps key one others n there)
          ])
    ]

less_others : (key : Key) (others : List Key) (datagrams : List OpenDatagram) → list_any (has_key key) datagrams ≡ false → AreOthers others datagrams → AreOthers (less key others) datagrams
less_others key others [] n h = tt
less_others key others (one ∷ datagrams) n h =
    let p = or_parts (has_key key one) (list_any (has_key key) datagrams) n in
    (less_keeps key one.key others p.0 h.0, h.1, less_others key others datagrams p.1 h.2)

no_more : (others : List Key) (datagrams : List OpenDatagram) → AreOthers others datagrams → length datagrams ≤ length others
no_more others [] h = omega arith
no_more others (one ∷ datagrams) h =
    let more = no_more (less one.key others) datagrams (less_others one.key others datagrams h.1 h.2) in
    let size = less_length one.key others h.0 in
    omega arith

none_pushed : (key : Key) (one : OpenDatagram) (datagrams : List OpenDatagram) → list_any (has_key key) datagrams ≡ false
    → has_key key one ≡ false → list_any (has_key key) (datagrams ++ one ∷ []) ≡ false
none_pushed key one datagrams n e =
    list_any-append (has_key key) datagrams (one ∷ []) ∙ or_from (list_any (has_key key) datagrams) (has_key key one || false) n (or_from (has_key key one) false e refl)

others_pushed : (others : List Key) (key : Key) (datagrams : List OpenDatagram) → AreOthers others datagrams
    → among others key ≡ true → list_any (has_key key) datagrams ≡ false → AreOthers others (datagrams ++ fresh key ∷ [])
others_pushed others key [] h a n = (a, refl, tt)
others_pushed others key (one ∷ datagrams) h a n =
    let p = or_parts (has_key key one) (list_any (has_key key) datagrams) n in
    (h.0, none_pushed one.key (fresh key) datagrams h.1 (other_sym one.key key p.0), others_pushed others key datagrams h.2 a p.1)

-- ---- changes of another datagram

none_with : (key other : Key) (parts : List Part) (datagrams : List OpenDatagram) → list_any (has_key key) datagrams ≡ false → list_any (has_key key) (with_parts other parts datagrams) ≡ false
none_with key other parts [] n = refl
none_with key other parts (one ∷ datagrams) n =
    let p = or_parts (has_key key one) (list_any (has_key key) datagrams) n in
    cond_both (has_key other one) (record one { parts = parts } ∷ datagrams) (one ∷ with_parts other parts datagrams) (λ xs. list_any (has_key key) xs ≡ false)
    (λ _. or_from (has_key key one) (list_any (has_key key) datagrams) p.0 p.1)
    (λ _. or_from (has_key key one) (list_any (has_key key) (with_parts other parts datagrams)) p.0 (none_with key other parts datagrams p.1))

none_without : (key other : Key) (datagrams : List OpenDatagram) → list_any (has_key key) datagrams ≡ false → list_any (has_key key) (without other datagrams) ≡ false
none_without key other [] n = refl
none_without key other (one ∷ datagrams) n =
    let p = or_parts (has_key key one) (list_any (has_key key) datagrams) n in
    cond_both (has_key other one) datagrams (one ∷ without other datagrams) (λ xs. list_any (has_key key) xs ≡ false)
    (λ _. p.1)
    (λ _. or_from (has_key key one) (list_any (has_key key) (without other datagrams)) p.0 (none_without key other datagrams p.1))

others_with : (others : List Key) (key : Key) (parts : List Part) (datagrams : List OpenDatagram) → AreOthers others datagrams → AreOthers others (with_parts key parts datagrams)
others_with others key parts [] h = tt
others_with others key parts (one ∷ datagrams) h =
    cond_both (has_key key one) (record one { parts = parts } ∷ datagrams) (one ∷ with_parts key parts datagrams) (λ xs. AreOthers others xs)
    (λ _. (h.0, h.1, h.2))
    (λ _. (h.0, none_with one.key key parts datagrams h.1, others_with others key parts datagrams h.2))

others_without : (others : List Key) (key : Key) (datagrams : List OpenDatagram) → AreOthers others datagrams → AreOthers others (without key datagrams)
others_without others key [] h = tt
others_without others key (one ∷ datagrams) h =
    cond_both (has_key key one) datagrams (one ∷ without key datagrams) (λ xs. AreOthers others xs)
    (λ _. h.2)
    (λ _. (h.0, none_without one.key key datagrams h.1, others_without others key datagrams h.2))

-- The datagram of the key is open with these parts, and behind it stand others alone.
pub record IsOpen (key : Key) (others : List Key) (parts : List Part) (datagrams : List OpenDatagram) : Type 0 where
  pub front : List OpenDatagram
  pub behind : List OpenDatagram
  pub is : datagrams ≡ front ++ record { key = key; parts = parts } ∷ behind
  pub first : list_any (has_key key) front ≡ false
  pub few : AreOthers others behind

abbrev one_of : Key → List Part → OpenDatagram
one_of key parts = record { key = key; parts = parts }

found_open : (key : Key) (others : List Key) (parts : List Part) (datagrams : List OpenDatagram) → IsOpen key others parts datagrams → list_any (has_key key) datagrams ≡ true
found_open key others parts datagrams o =
    ap (λ xs. list_any (has_key key) xs) o.is
    ∙ list_any-append (has_key key) o.front (one_of key parts ∷ o.behind)
    ∙ or_right (list_any (has_key key) o.front) (list_any (has_key key) (one_of key parts ∷ o.behind)) (or_left (same_key key key) (list_any (has_key key) o.behind) (same_self key))

pub opened_open : (key : Key) (others : List Key) (parts : List Part) (datagrams : List OpenDatagram) → IsOpen key others parts datagrams → opened key datagrams ≡ datagrams
opened_open key others parts datagrams o =
    cond-true (list_any (has_key key) datagrams) datagrams (with_room datagrams ++ fresh key ∷ []) (found_open key others parts datagrams o)

-- the parts of it
parts_front : (key : Key) (parts : List Part) (front behind : List OpenDatagram) → list_any (has_key key) front ≡ false → parts_of key (front ++ one_of key parts ∷ behind) ≡ parts
parts_front key parts [] behind n = cond-true (same_key key key) parts (parts_of key behind) (same_self key)
parts_front key parts (one ∷ front) behind n =
    let p = or_parts (has_key key one) (list_any (has_key key) front) n in
    cond-false (has_key key one) one.parts (parts_of key (front ++ one_of key parts ∷ behind)) p.0 ∙ parts_front key parts front behind p.1

with_front : (key : Key) (parts parts' : List Part) (front behind : List OpenDatagram) → list_any (has_key key) front ≡ false
    → with_parts key parts' (front ++ one_of key parts ∷ behind) ≡ front ++ one_of key parts' ∷ behind
with_front key parts parts' [] behind n = cond-true (same_key key key) (one_of key parts' ∷ behind) (one_of key parts ∷ with_parts key parts' behind) (same_self key)
with_front key parts parts' (one ∷ front) behind n =
    let p = or_parts (has_key key one) (list_any (has_key key) front) n in
    cond-false (has_key key one) (record one { parts = parts' } ∷ (front ++ one_of key parts ∷ behind)) (one ∷ with_parts key parts' (front ++ one_of key parts ∷ behind)) p.0
    ∙ ap (λ xs. one ∷ xs) (with_front key parts parts' front behind p.1)

-- another one is changed in front of it, or behind it
with_other : (key other : Key) (others : List Key) (parts changed : List Part) (front behind : List OpenDatagram) → same_key key other ≡ false
    → list_any (has_key key) front ≡ false → AreOthers others behind → IsOpen key others parts (with_parts other changed (front ++ one_of key parts ∷ behind))
with_other key other others parts changed [] behind n f b = record {
  front = [];
  behind = with_parts other changed behind;
  is = cond-false (same_key key other) (one_of key changed ∷ behind) (one_of key parts ∷ with_parts other changed behind) n;
  first = refl;
  few = others_with others other changed behind b;
}
with_other key other others parts changed (one ∷ front) behind n f b =
    let p = or_parts (has_key key one) (list_any (has_key key) front) f in
    let all : List OpenDatagram = front ++ one_of key parts ∷ behind in
    cond_both (has_key other one) (record one { parts = changed } ∷ all) (one ∷ with_parts other changed all) (λ xs. IsOpen key others parts xs)
    (λ _. record { front = record one { parts = changed } ∷ front; behind = behind; is = refl; first = or_from (has_key key one) (list_any (has_key key) front) p.0 p.1; few = b })
    (λ _. in_front key others parts one (with_parts other changed all) p.0 (with_other key other others parts changed front behind n p.1 b)) where
      in_front : (key : Key) (others : List Key) (parts : List Part) (one : OpenDatagram) (datagrams : List OpenDatagram)
          → has_key key one ≡ false → IsOpen key others parts datagrams → IsOpen key others parts (one ∷ datagrams)
      in_front key others parts one datagrams e o =
          record { front = one ∷ o.front; behind = o.behind; is = ap (λ xs. one ∷ xs) o.is; first = or_from (has_key key one) (list_any (has_key key) o.front) e o.first; few = o.few }

without_other : (key other : Key) (others : List Key) (parts : List Part) (front behind : List OpenDatagram) → same_key key other ≡ false
    → list_any (has_key key) front ≡ false → AreOthers others behind → IsOpen key others parts (without other (front ++ one_of key parts ∷ behind))
without_other key other others parts [] behind n f b = record {
  front = [];
  behind = without other behind;
  is = cond-false (same_key key other) behind (one_of key parts ∷ without other behind) n;
  first = refl;
  few = others_without others other behind b;
}
without_other key other others parts (one ∷ front) behind n f b =
    let p = or_parts (has_key key one) (list_any (has_key key) front) f in
    let all : List OpenDatagram = front ++ one_of key parts ∷ behind in
    cond_both (has_key other one) all (one ∷ without other all) (λ xs. IsOpen key others parts xs)
    (λ _. record { front = front; behind = behind; is = refl; first = p.1; few = b })
    (λ _. in_front key others parts one (without other all) p.0 (without_other key other others parts front behind n p.1 b)) where
      in_front : (key : Key) (others : List Key) (parts : List Part) (one : OpenDatagram) (datagrams : List OpenDatagram)
          → has_key key one ≡ false → IsOpen key others parts datagrams → IsOpen key others parts (one ∷ datagrams)
      in_front key others parts one datagrams e o =
          record { front = one ∷ o.front; behind = o.behind; is = ap (λ xs. one ∷ xs) o.is; first = or_from (has_key key one) (list_any (has_key key) o.front) e o.first; few = o.few }

-- another one is opened
room_other : (key other : Key) (others : List Key) (parts : List Part) (front behind : List OpenDatagram) → length others < MAX_OPEN → among others other ≡ true → list_any (has_key key) front ≡ false
    → list_any (has_key other) (front ++ one_of key parts ∷ behind) ≡ false → AreOthers others behind → IsOpen key others parts (with_room (front ++ one_of key parts ∷ behind) ++ fresh other ∷ [])
room_other key other others parts [] behind few a f n b =
    let q = or_parts (same_key key other) (list_any (has_key other) behind) n in
    let pushed = others_pushed others other behind b a q.1 in
    let more = no_more others (behind ++ fresh other ∷ []) pushed in
    let size = length-append behind (fresh other ∷ []) in
    cond_both (nat_lt (length (one_of key parts ∷ behind)) MAX_OPEN) (one_of key parts ∷ behind) behind (λ xs. IsOpen key others parts (xs ++ fresh other ∷ []))
    (λ _. record { front = []; behind = behind ++ fresh other ∷ []; is = refl; first = refl; few = pushed })
    (λ e. absurd (let full = ltb-false (length (one_of key parts ∷ behind)) MAX_OPEN e in omega arith))
room_other key other others parts (one ∷ front) behind few a f n b =
    let p = or_parts (has_key key one) (list_any (has_key key) front) f in
    let all : List OpenDatagram = front ++ one_of key parts ∷ behind in
    let q = or_parts (has_key other one) (list_any (has_key other) all) n in
    let r = or_parts (list_any (has_key other) front) (list_any (has_key other) (one_of key parts ∷ behind)) (sym (list_any-append (has_key other) front (one_of key parts ∷ behind)) ∙ q.1) in
    let s = or_parts (same_key key other) (list_any (has_key other) behind) r.1 in
    let pushed = others_pushed others other behind b a s.1 in
    cond_both (nat_lt (length (one ∷ all)) MAX_OPEN) (one ∷ all) all (λ xs. IsOpen key others parts (xs ++ fresh other ∷ []))
    (λ _. record { front = one ∷ front; behind = behind ++ fresh other ∷ []; is = append_assoc (one ∷ front) (one_of key parts ∷ behind) (fresh other ∷ []); first = f; few = pushed })
    (λ _. record { front = front; behind = behind ++ fresh other ∷ []; is = append_assoc front (one_of key parts ∷ behind) (fresh other ∷ []); first = p.1; few = pushed })

opened_other : (key other : Key) (others : List Key) (parts : List Part) (datagrams : List OpenDatagram) → length others < MAX_OPEN
    → among others other ≡ true → IsOpen key others parts datagrams → IsOpen key others parts (opened other datagrams)
opened_other key other others parts datagrams few a o =
    cond_both (list_any (has_key other) datagrams) datagrams (with_room datagrams ++ fresh other ∷ []) (λ xs. IsOpen key others parts xs)
    (λ _. o)
    (λ n. subst (λ xs. IsOpen key others parts (with_room xs ++ fresh other ∷ [])) (sym o.is)
    (room_other key other others parts o.front o.behind few a o.first (sym (ap (λ xs. list_any (has_key other) xs) o.is) ∙ n) o.few))

gathered_other : (key : Key) (others : List Key) (parts : List Part) (piece : Piece) (datagrams : List OpenDatagram) (frame : List ℕ)
    → same_key key piece.key ≡ false → IsOpen key others parts datagrams → IsOpen key others parts (gathered piece datagrams frame).0
gathered_other key others parts piece datagrams frame n o =
    let before : List Part = parts_of piece.key datagrams in
    let after : List Part = placed piece.part before in
    let P : List OpenDatagram × List ℕ → Type 0 = λ r. IsOpen key others parts r.0 in
    cond_both (not (fits piece.part before)) (datagrams, frame)
    (cond (are_whole after) (without piece.key datagrams, whole_frame (record { key = piece.key; parts = after }) frame) (with_parts piece.key after datagrams, frame)) P
    (λ _. o)
    (λ _. cond_both (are_whole after) (without piece.key datagrams, whole_frame (record { key = piece.key; parts = after }) frame) (with_parts piece.key after datagrams, frame) P
    (λ _. subst (λ xs. IsOpen key others parts (without piece.key xs)) (sym o.is) (without_other key piece.key others parts o.front o.behind n o.first o.few))
    (λ _. subst (λ xs. IsOpen key others parts (with_parts piece.key after xs)) (sym o.is) (with_other key piece.key others parts after o.front o.behind n o.first o.few)))

by_other : (key : Key) (others : List Key) (parts : List Part) (piece : Option Piece) (datagrams : List OpenDatagram) (frame : List ℕ) → length others < MAX_OPEN
    → ((p : Piece) → piece ≡ Some p → (same_key p.key key ≡ false) × (among others p.key ≡ true)) → IsOpen key others parts datagrams → IsOpen key others parts (joined_by piece datagrams frame).0
by_other key others parts None datagrams frame few h o = o
by_other key others parts (Some piece) datagrams frame few h o =
    let k = h piece refl in
    let P : List OpenDatagram × List ℕ → Type 0 = λ r. IsOpen key others parts r.0 in
    cond_both (is_sound piece.part) (gathered piece (opened piece.key datagrams) frame) (datagrams, frame) P
    (λ _. gathered_other key others parts piece (opened piece.key datagrams) frame (other_sym piece.key key k.0) (opened_other key piece.key others parts datagrams few k.1 o))
    (λ _. o)

-- a frame that carries nothing of it leaves it open
pub joined_other : (key : Key) (others : List Key) (parts : List Part) (datagrams : List OpenDatagram) (frame : List ℕ)
    → length others < MAX_OPEN → IsOther key others frame → IsOpen key others parts datagrams → IsOpen key others parts (joined datagrams frame).0
unfolding joined
joined_other key others parts datagrams frame few h o = by_other key others parts (piece_of frame) datagrams frame few h o

-- ---- a part of it

abbrev own : Key → Part → Piece
own key part = record { key = key; part = part }

joined_own : (key : Key) (part : Part) (datagrams : List OpenDatagram) (frame : List ℕ) → piece_of frame ≡ Some (own key part)
    → is_sound part ≡ true → joined datagrams frame ≡ gathered (own key part) (opened key datagrams) frame
unfolding joined
joined_own key part datagrams frame e s =
    ap (λ o. joined_by o datagrams frame) e ∙ cond-true (is_sound part) (gathered (own key part) (opened key datagrams) frame) (datagrams, frame) s

gathered_fits : (key : Key) (part : Part) (before : List Part) (datagrams : List OpenDatagram) (frame : List ℕ) → parts_of key datagrams ≡ before → fits part before ≡ true → gathered (own key part)
    datagrams frame ≡ cond (are_whole (placed part before)) (without key datagrams, whole_frame (one_of key (placed part before)) frame) (with_parts key (placed part before) datagrams, frame)
gathered_fits key part before datagrams frame e f =
    let R : List Part → List OpenDatagram × List ℕ =
    λ ps. cond (are_whole (placed part ps)) (without key datagrams, whole_frame (one_of key (placed part ps)) frame) (with_parts key (placed part ps) datagrams, frame) in
    cond-false (not (fits part (parts_of key datagrams))) (datagrams, frame) (R (parts_of key datagrams)) (not_from_true (fits part (parts_of key datagrams)) (ap (λ ps. fits part ps) e ∙ f))
    ∙ ap R e

-- it is added
pub joined_added : (key : Key) (others : List Key) (part : Part) (before : List Part) (datagrams : List OpenDatagram) (frame : List ℕ) → piece_of frame ≡ Some (own key part) → is_sound part ≡ true
    → fits part before ≡ true → are_whole (placed part before) ≡ false → IsOpen key others before (opened key datagrams) → IsOpen key others (placed part before) (joined datagrams frame).0
joined_added key others part before datagrams frame e s f w o =
    let all : List OpenDatagram = opened key datagrams in
    let parts : parts_of key all ≡ before = ap (λ xs. parts_of key xs) o.is ∙ parts_front key before o.front o.behind o.first in
    let r : joined datagrams frame ≡ (with_parts key (placed part before) all, frame) =
    joined_own key part datagrams frame e s ∙ gathered_fits key part before all frame parts f
    ∙ cond-false (are_whole (placed part before)) (without key all, whole_frame (one_of key (placed part before)) frame) (with_parts key (placed part before) all, frame) w in
    let is : (joined datagrams frame).0 ≡ o.front ++ one_of key (placed part before) ∷ o.behind =
    ap (λ (x : List OpenDatagram × List ℕ). x.0) r ∙ ap (λ xs. with_parts key (placed part before) xs) o.is ∙ with_front key before (placed part before) o.front o.behind o.first in
    record { front = o.front; behind = o.behind; is = is; first = o.first; few = o.few }

-- and makes it whole
pub joined_whole : (key : Key) (others : List Key) (part : Part) (before : List Part) (datagrams : List OpenDatagram) (frame : List ℕ)
    → piece_of frame ≡ Some (own key part) → is_sound part ≡ true → fits part before ≡ true → are_whole (placed part before) ≡ true
    → IsOpen key others before (opened key datagrams) → (joined datagrams frame).1 ≡ whole_frame (one_of key (placed part before)) frame
joined_whole key others part before datagrams frame e s f w o =
    let all : List OpenDatagram = opened key datagrams in
    let parts : parts_of key all ≡ before = ap (λ xs. parts_of key xs) o.is ∙ parts_front key before o.front o.behind o.first in
    let r : joined datagrams frame ≡ (without key all, whole_frame (one_of key (placed part before)) frame) =
    joined_own key part datagrams frame e s ∙ gathered_fits key part before all frame parts f
    ∙ cond-true (are_whole (placed part before)) (without key all, whole_frame (one_of key (placed part before)) frame) (with_parts key (placed part before) all, frame) w in
    ap (λ (x : List OpenDatagram × List ℕ). x.1) r

pub opened_first : (key : Key) (others : List Key) (datagrams : List OpenDatagram) → list_any (has_key key) datagrams ≡ false
    → list_any (has_key key) (with_room datagrams) ≡ false → IsOpen key others [] (opened key datagrams)
opened_first key others datagrams n m =
    record { front = with_room datagrams; behind = []; is = opened_none key datagrams n; first = m; few = tt }
