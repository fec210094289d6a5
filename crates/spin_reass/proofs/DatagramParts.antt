-- The parts of one datagram, as they come in any order.
use Rattle.std.proofs.Common.{◌≡◌, ◌≤◌, ◌<◌, ◌+◌, ◌-◌, ◌⊎◌, inl, inr, ℕ, Bool, true, false, cond, nat_lt, nat_le, not, ◌==◌, ◌&&◌, ◌||◌}
use Rattle.std.proofs.Common.{List, [], ◌∷◌, ◌++◌, length, take, drop, Option, Some, None, find, refl, sym, ap, subst, ◌∙◌, arith}
use Rattle.std.proofs.lemmas.Bool.{cases_eq, cases_Bool, and_from, or_left, or_right, or_from, both_ways, false≢true, le-leb, le-ltb, eq-eqb, cond-true, cond-false, cond_both, not_from_false}
use Rattle.std.proofs.lemmas.Bool.Decides.{Decides-below_and}
use Rattle.std.proofs.lemmas.List.{length-drop, drop-drop, take-append-drop, take_all}
use Rattle.std.specs.List.{list_any}
use Rattle.std.specs.Option.{option_map_or}
use Rattle.spin_headers.specs.Headers.{ipv4_header}
use Rattle.spin_reass.specs.declared.limits.TheConstants.{MAX_OPEN}
use Rattle.spin_reass.specs.declared.piece.Key.{Key}
use Rattle.spin_reass.specs.declared.piece.Part.{Part}
use Rattle.spin_reass.specs.Fragments.{piece_of, end_of}
use Rattle.spin_reass.specs.Joining.{OpenDatagram, opened, joined, joined_frames, fits, fits_beside, placed, last_end, has_byte, cover, cover_to, are_whole, payload, first_ttl}
use Rattle.spin_reass.specs.Inner.Orderly.{are_orderly}
use Rattle.spin_reass.specs.Laws.{Apart, IsPartOf, Each, AreApart, IsAmong, AreParts, Carry, WholeInAnyOrder}
use Rattle.spin_reass.proofs.PartOrder.{first_of, sound, fits_goes, placed_orderly}
use Rattle.spin_reass.proofs.PartCovers.{begins, has_none, in_rest, last_is, other_is}
use Rattle.spin_reass.proofs.OpenDatagrams.{IsOpen, opened_open, opened_first, joined_other, joined_added, joined_whole}
use Rattle.spin_reass.proofs.DatagramPlaces.{none_with_room}

-- ---- one more at its place

each_placed : (P : Part → Type 0) (part : Part) (parts : List Part) → P part → Each P parts → Each P (placed part parts)
each_placed P part [] p h = (p, tt)
each_placed P part (other ∷ others) p h =
    cond_both (nat_lt other.start part.start) (other ∷ placed part others) (part ∷ (other ∷ others)) (λ xs. Each P xs)
    (λ _. (h.0, each_placed P part others p h.1))
    (λ _. (p, h))

or_swap : (a b c : Bool) → (a || (b || c)) ≡ (b || (a || c))
or_swap true true c = refl
or_swap true false c = refl
or_swap false b c = refl

any_placed : (t : Part → Bool) (part : Part) (parts : List Part) → list_any t (placed part parts) ≡ (t part || list_any t parts)
any_placed t part [] = refl
any_placed t part (other ∷ others) =
    elim (cases_Bool (nat_lt other.start part.start)) [
      | inl e ↦
          ap (λ xs. list_any t xs) (cond-true (nat_lt other.start part.start) (other ∷ placed part others) (part ∷ (other ∷ others)) e)
          ∙ ap (λ b. t other || b) (any_placed t part others) ∙ or_swap (t other) (t part) (list_any t others)
      | inr e ↦ ap (λ xs. list_any t xs) (cond-false (nat_lt other.start part.start) (other ∷ placed part others) (part ∷ (other ∷ others)) e)
    ]

among_placed : (one part : Part) (parts : List Part) → (part ≡ one) ⊎ IsAmong one parts → IsAmong one (placed part parts)
among_placed one part [] h = h
among_placed one part (other ∷ others) h =
    cond_both (nat_lt other.start part.start) (other ∷ placed part others) (part ∷ (other ∷ others)) (λ xs. IsAmong one xs)
    (λ _. elim h [
      | inl here ↦ inr (among_placed one part others (inl here))
      | inr there ↦ (elim there [
        | inl first ↦ inl first
        | inr later ↦ inr (among_placed one part others (inr later))
      ])
    ])
    (λ _. h)

-- ---- the parts that came, and those that are still to come

pub record AreComing (bytes : List ℕ) (head : Part) (came coming : List Part) : Type 0 where
  pub orderly : are_orderly 0 came ≡ true
  pub each : Each (IsPartOf bytes) came
  pub rest : Each (IsPartOf bytes) coming
  pub apart : AreApart coming
  pub across : Each (λ part. Each (λ other. Apart part other) came) coming
  pub all : (at : ℕ) → at < length bytes → (list_any (λ part. has_byte at part) came || list_any (λ part. has_byte at part) coming) ≡ true
  pub first : IsAmong head came ⊎ IsAmong head coming

-- at first none came
pub none_came : (bytes : List ℕ) (head : Part) (parts : List Part) → AreParts bytes parts → IsAmong head parts → AreComing bytes head [] parts
none_came bytes head parts h a = record {
  orderly = refl;
  each = tt;
  rest = h.each;
  apart = h.apart;
  across = nothing parts;
  all = h.all;
  first = inr a;
} where
  nothing : (parts : List Part) → Each (λ part. Each (λ other. Apart part other) []) parts
  nothing [] = tt
  nothing (part ∷ parts) = (tt, nothing parts)

beside : (bytes : List ℕ) (part other : Part) → IsPartOf bytes part → IsPartOf bytes other → Apart part other → fits_beside part other ≡ true
beside bytes part other p o a =
    let ps = sound part p.sound in
    let os = sound other o.sound in
    let has = ps.some in
    let had = os.some in
    let within = p.within in
    let inside = o.within in
    and_from ((nat_le (end_of part) other.start || nat_le (end_of other) part.start) && not (other.last && nat_lt (end_of other) (end_of part)))
    (not (part.last && (other.last || nat_lt (end_of part) (end_of other))))
    (and_from (nat_le (end_of part) other.start || nat_le (end_of other) part.start) (not (other.last && nat_lt (end_of other) (end_of part)))
    (elim a [
      | inl le ↦ or_left (nat_le (end_of part) other.start) (nat_le (end_of other) part.start) (le-leb (end_of part) other.start le)
      | inr le ↦ or_right (nat_le (end_of part) other.start) (nat_le (end_of other) part.start) (le-leb (end_of other) part.start le)
    ])
    (not_both other.last (nat_lt (end_of other) (end_of part)) (λ l. let e = o.last l in le-ltb (end_of other) (end_of part) (omega arith))))
    (not_both part.last (other.last || nat_lt (end_of part) (end_of other))
    (λ l. let e = p.last l in or_from other.last (nat_lt (end_of part) (end_of other)) (not_last part other p.last o a l has had) (le-ltb (end_of part) (end_of other) (omega arith)))) where
      not_both : (a b : Bool) → (a ≡ true → b ≡ false) → not (a && b) ≡ true
      not_both true b h = not_from_false b (h refl)
      not_both false b h = refl

      not_last : (part other : Part) → (part.last ≡ true → end_of part ≡ length bytes) → IsPartOf bytes other
          → Apart part other → part.last ≡ true → 0 < length part.bytes → 0 < length other.bytes → other.last ≡ false
      not_last part other q o a l has had =
          elim (cases_Bool other.last) [
            | inl e ↦ (let x = q l in let y = o.last e in elim a [ inl le ↦ absurd (omega arith) | inr le ↦ absurd (omega arith) ])
            | inr e ↦ e
          ]

fits_all : (bytes : List ℕ) (part : Part) (came : List Part) → IsPartOf bytes part → Each (IsPartOf bytes) came → Each (λ other. Apart part other) came → fits part came ≡ true
fits_all bytes part [] p e a = refl
fits_all bytes part (other ∷ others) p e a = and_from (fits_beside part other) (fits part others) (beside bytes part other p e.0 a.0) (fits_all bytes part others p e.1 a.1)

-- the next part fits
pub next_fits : (bytes : List ℕ) (head part : Part) (came coming : List Part) → AreComing bytes head came (part ∷ coming) → fits part came ≡ true
next_fits bytes head part came coming h = fits_all bytes part came h.rest.0 h.each h.across.0

apart_sym : (a b : Part) → Apart a b → Apart b a
apart_sym a b (inl le) = inr le
apart_sym a b (inr le) = inl le

across_placed : (part : Part) (came coming : List Part) → Each (λ other. Apart part other) coming
    → Each (λ p. Each (λ other. Apart p other) came) coming → Each (λ p. Each (λ other. Apart p other) (placed part came)) coming
across_placed part came [] a h = tt
across_placed part came (one ∷ coming) a h =
    (each_placed (λ other. Apart one other) part came (apart_sym part one a.0) h.0, across_placed part came coming a.1 h.1)

or_move : (a b c : Bool) → (a || (b || c)) ≡ ((b || a) || c)
or_move true true c = refl
or_move true false c = refl
or_move false true c = refl
or_move false false c = refl

pub next_came : (bytes : List ℕ) (head part : Part) (came coming : List Part) → AreComing bytes head came (part ∷ coming) → AreComing bytes head (placed part came) coming
next_came bytes head part came coming h =
    let s = sound part h.rest.0.sound in
    let f = next_fits bytes head part came coming h in
    record {
      orderly = placed_orderly 0 part came s h.orderly (sym (fits_goes 0 part came s.some h.orderly (omega arith)) ∙ f);
      each = each_placed (IsPartOf bytes) part came h.rest.0 h.each;
      rest = h.rest.1;
      apart = h.apart.1;
      across = across_placed part came coming h.apart.0 h.across.1;
      all = λ at lt.
          ap (λ b. b || list_any (λ p. has_byte at p) coming) (any_placed (λ p. has_byte at p) part came)
          ∙ sym (or_move (list_any (λ p. has_byte at p) came) (has_byte at part) (list_any (λ p. has_byte at p) coming))
          ∙ h.all at lt;
      first = (elim h.first [
        | inl before ↦ inl (among_placed head part came (inr before))
        | inr there ↦ (elim there [
          | inl here ↦ inl (among_placed head part came (inl here))
          | inr later ↦ inr later
        ])
      ]);
    }

-- ---- before the last one came they aren't whole

none_has : (part : Part) (came : List Part) → 0 < length part.bytes → Each (λ other. Apart part other) came → list_any (λ p. has_byte part.start p) came ≡ false
none_has part [] some a = refl
none_has part (other ∷ others) some a =
    or_from (has_byte part.start other) (list_any (λ p. has_byte part.start p) others)
    (has_none part.start other (elim a.0 [ inl le ↦ inl (omega arith) | inr le ↦ inr le ]))
    (none_has part others some a.1)

end_at : (bytes : List ℕ) (e : ℕ) (came : List Part) → Each (IsPartOf bytes) came → last_end came ≡ Some e → e ≡ length bytes
end_at bytes e [] h l = absurd (cc (l))
end_at bytes e (part ∷ came) h l =
    elim (cases_Bool part.last) [
      | inl last ↦ sym (last_is part.last (end_of part) e (last_end came) l last) ∙ h.0.last last
      | inr more ↦ end_at bytes e came h.1 (other_is part.last (end_of part) e (last_end came) l more)
    ]

cover_each : (parts : List Part) (e : ℕ) → cover parts e ≡ true → (at : ℕ) → at < e → list_any (λ part. has_byte at part) parts ≡ true
cover_each parts e h =
    let P : ℕ → Type 0 = λ at. list_any (λ part. has_byte at part) parts ≡ true in
    (Decides-below_and (λ at. list_any (λ part. has_byte at part) parts) P (λ n. cover parts n) (λ k. (λ t. t, λ t. t)) refl (λ n. refl) e).0 h

each_cover : (parts : List Part) (e : ℕ) → ((at : ℕ) → at < e → list_any (λ part. has_byte at part) parts ≡ true) → cover parts e ≡ true
each_cover parts e h =
    let P : ℕ → Type 0 = λ at. list_any (λ part. has_byte at part) parts ≡ true in
    (Decides-below_and (λ at. list_any (λ part. has_byte at part) parts) P (λ n. cover parts n) (λ k. (λ t. t, λ t. t)) refl (λ n. refl) e).1 h

whole_ends : (parts : List Part) (o : Option ℕ) → cover_to parts o ≡ true → (e : ℕ) × (o ≡ Some e) × (cover parts e ≡ true)
whole_ends parts None h = absurd (false≢true h)
whole_ends parts (Some e) h = (e, refl, h)

pub not_whole : (bytes : List ℕ) (head part : Part) (came coming : List Part) → AreComing bytes head came (part ∷ coming) → are_whole came ≡ false
not_whole bytes head part came coming h =
    let s = sound part h.rest.0.sound in
    let some = s.some in
    let within = h.rest.0.within in
    elim (cases_Bool (are_whole came)) [
      | inl whole ↦
          (let w = whole_ends came (last_end came) whole in
          let e : w.0 ≡ length bytes = end_at bytes w.0 came h.each w.1 in
          absurd (both_ways (list_any (λ p. has_byte part.start p) came) (none_has part came some h.across.0) (cover_each came w.0 w.2 part.start (omega arith))))
      | inr e ↦ e
    ]

-- ---- once all came they are whole

found_last : (bytes : List ℕ) (at : ℕ) (came : List Part) → at + 1 ≡ length bytes → Each (IsPartOf bytes) came → list_any (λ p. has_byte at p) came ≡ true → last_end came ≡ Some (length bytes)
found_last bytes at [] n h a = absurd (false≢true a)
found_last bytes at (part ∷ came) n h a =
    let within = h.0.within in
    elim (cases_Bool part.last) [
      | inl last ↦ cond-true part.last (Some (end_of part)) (last_end came) last ∙ ap Some (h.0.last last)
      | inr more ↦
          cond-false part.last (Some (end_of part)) (last_end came) more
          ∙ found_last bytes at came n h.1 (elim (cases_eq (end_of part) (length bytes)) [
            | inl e ↦ absurd (both_ways part.last more (h.0.only e))
            | inr e ↦ in_rest at part came a (omega arith)
          ])
    ]

pub record IsComplete (bytes : List ℕ) (came : List Part) : Type 0 where
  pub end : last_end came ≡ Some (length bytes)
  pub all : (at : ℕ) → at < length bytes → list_any (λ p. has_byte at p) came ≡ true

or_none : (a : Bool) → (a || false) ≡ true → a ≡ true
or_none true h = refl
or_none false h = h

complete : (bytes : List ℕ) (head : Part) (came : List Part) → 0 < length bytes → AreComing bytes head came [] → IsComplete bytes came
complete bytes head came some h =
    let all : (at : ℕ) → at < length bytes → list_any (λ p. has_byte at p) came ≡ true = λ at lt. or_none (list_any (λ p. has_byte at p) came) (h.all at lt) in
    record { end = found_last bytes (length bytes - 1) came (omega arith) h.each (all (length bytes - 1) (omega arith)); all = all }

pub all_whole : (bytes : List ℕ) (head : Part) (came : List Part) → 0 < length bytes → AreComing bytes head came [] → are_whole came ≡ true
all_whole bytes head came some h =
    let c = complete bytes head came some h in
    ap (λ o. cover_to came o) c.end ∙ each_cover came (length bytes) c.all

payload_from : (bytes : List ℕ) (from : ℕ) (came : List Part) → are_orderly from came ≡ true → Each (IsPartOf bytes) came → last_end came ≡ Some (length bytes)
    → from < length bytes → ((at : ℕ) → from ≤ at → at < length bytes → list_any (λ p. has_byte at p) came ≡ true) → payload came ≡ drop from bytes
payload_from bytes from [] o h l lt all = absurd (cc (l))
payload_from bytes from (part ∷ came) o h l lt all =
    let f = first_of from part came o in
    let has = f.some in
    let start : from ≡ part.start = begins from part came f (all from (omega arith) lt) in
    let is : part.bytes ≡ take (length part.bytes) (drop from bytes) = h.0.is ∙ ap (λ n. take (length part.bytes) (drop n bytes)) (sym start) in
    elim (cases_Bool part.last) [
      | inl last ↦
          (let none : payload came ≡ [] = ap payload (f.alone last) in
          let ends = h.0.last last in
          ap (λ xs. part.bytes ++ xs) none ∙ append_none part.bytes ∙ is ∙ take_all (length part.bytes) (drop from bytes) (omega (arith, length-drop from bytes)))
      | inr more ↦
          (let within = h.0.within in
          let later : payload came ≡ drop (end_of part) bytes = payload_from bytes (end_of part) came f.rest h.1 (other_is part.last (end_of part) (length bytes) (last_end came) l more)
          (before_end part h.0.within h.0.only more) (λ at le lt. in_rest at part came (all at (omega arith) lt) le) in
          (λ i. is i ++ later i) ∙ ap (λ xs. take (length part.bytes) (drop from bytes) ++ xs) (further from (length part.bytes) (end_of part) (ap (λ n. n + length part.bytes) (sym start)))
          ∙ take-append-drop (length part.bytes) (drop from bytes))
    ] where
      append_none : (xs : List ℕ) → xs ++ [] ≡ xs
      append_none [] = refl
      append_none (x ∷ xs) = ap (λ ys. x ∷ ys) (append_none xs)

      before_end : (part : Part) → end_of part ≤ length bytes → (end_of part ≡ length bytes → part.last ≡ true) → part.last ≡ false → end_of part < length bytes
      before_end part within only more =
          elim (cases_eq (end_of part) (length bytes)) [
            | inl e ↦ absurd (both_ways part.last more (only e))
            | inr e ↦ omega arith
          ]

      further : (from n m : ℕ) → m ≡ from + n → drop m bytes ≡ drop n (drop from bytes)
      further from n m e = ap (λ k. drop k bytes) e ∙ sym (drop-drop n from bytes)

pub all_bytes : (bytes : List ℕ) (head : Part) (came : List Part) → 0 < length bytes → AreComing bytes head came [] → payload came ≡ bytes
all_bytes bytes head came some h =
    let c = complete bytes head came some h in payload_from bytes 0 came h.orderly h.each c.end some (λ at le lt. c.all at lt)

among_above : (from : ℕ) (one : Part) (parts : List Part) → are_orderly from parts ≡ true → IsAmong one parts → from ≤ one.start
among_above from one [] o a = absurd a
among_above from one (part ∷ parts) o a =
    let f = first_of from part parts o in
    let above = f.above in
    elim a [
      | inl here ↦ (let e = ap (λ (p : Part). p.start) here in omega arith)
      | inr later ↦ (let more = among_above (end_of part) one parts f.rest later in omega arith)
    ]

found_first : (from : ℕ) (head : Part) (parts : List Part) → are_orderly from parts ≡ true → IsAmong head parts → head.start ≡ 0 → find (λ part. part.start == 0) parts ≡ Some head
found_first from head [] o a z = absurd a
found_first from head (part ∷ parts) o a z =
    let f = first_of from part parts o in
    let has = f.some in
    elim a [
      | inl here ↦ cond-true (part.start == 0) (Some part) (find (λ p. p.start == 0) parts) (eq-eqb part.start 0 (ap (λ (p : Part). p.start) here ∙ z)) ∙ ap Some here
      | inr later ↦ absurd (let more = among_above (end_of part) head parts f.rest later in omega arith)
    ]

came_first : (bytes : List ℕ) (head : Part) (came : List Part) → AreComing bytes head came [] → IsAmong head came
came_first bytes head came h = elim h.first [ inl there ↦ there | inr none ↦ absurd none ]

pub head_ttl : (bytes : List ℕ) (head : Part) (came : List Part) → AreComing bytes head came [] → head.start ≡ 0 → first_ttl came ≡ head.ttl
head_ttl bytes head came h z =
    ap (λ o. option_map_or (λ (p : Part). p.ttl) o 0) (found_first 0 head came h.orderly (came_first bytes head came h) z)

-- ---- frames

abbrev whole_of : Key → Part → List ℕ → List ℕ → List ℕ
whole_of key head bytes last = take 14 last ++ ipv4_header key.ident head.ttl key.protocol key.source key.destination (length bytes) ++ bytes

still_open : (bytes : List ℕ) (head end : Part) (came parts : List Part) → AreComing bytes head came (parts ++ end ∷ []) → are_whole came ≡ false
still_open bytes head end came [] h = not_whole bytes head end came [] h
still_open bytes head end came (part ∷ parts) h = not_whole bytes head part came (parts ++ end ∷ []) h

last_whole : (key : Key) (others : List Key) (bytes : List ℕ) (head end : Part) (came : List Part) (datagrams : List OpenDatagram) (last : List ℕ)
    → piece_of last ≡ Some (record { key = key; part = end }) → head.start ≡ 0 → AreComing bytes head came (end ∷ [])
    → IsOpen key others came datagrams → (joined datagrams last).1 ≡ whole_of key head bytes last
last_whole key others bytes head end came datagrams last e z h o =
    let n = next_came bytes head end came [] h in
    let s = sound end h.rest.0.sound in
    let has = s.some in
    let within = h.rest.0.within in
    let some : 0 < length bytes = omega arith in
    let same : opened key datagrams ≡ datagrams = opened_open key others came datagrams o in
    let all : payload (placed end came) ≡ bytes = all_bytes bytes head (placed end came) some n in
    let ttl : first_ttl (placed end came) ≡ head.ttl = head_ttl bytes head (placed end came) n z in
    joined_whole key others end came datagrams last e h.rest.0.sound (next_fits bytes head end came [] h)
    (all_whole bytes head (placed end came) some n) (subst (λ xs. IsOpen key others came xs) (sym same) o)
    ∙ (λ i. take 14 last ++ ipv4_header key.ident (ttl i) key.protocol key.source key.destination (length (all i)) ++ all i)

walk : (key : Key) (others : List Key) (bytes : List ℕ) (head end : Part) (last : List ℕ) → length others < MAX_OPEN → piece_of last ≡ Some (record { key = key; part = end })
    → head.start ≡ 0 → (between : List (List ℕ)) (parts came : List Part) (datagrams : List OpenDatagram) → Carry key others between parts → AreComing bytes head came (parts ++ end ∷ [])
    → IsOpen key others came datagrams → (before : List (List ℕ)) × (joined_frames datagrams (between ++ last ∷ []) ≡ before ++ whole_of key head bytes last ∷ [])
walk key others bytes head end last few e z [] [] came datagrams c h o = ([], ap (λ x. x ∷ []) (last_whole key others bytes head end came datagrams last e z h o))
walk key others bytes head end last few e z [] (part ∷ parts) came datagrams c h o = absurd c
walk key others bytes head end last few e z (frame ∷ between) [] came datagrams c h o =
    let r = walk key others bytes head end last few e z between [] came (joined datagrams frame).0 c.1 h (joined_other key others came datagrams frame few c.0 o) in
    ((joined datagrams frame).1 ∷ r.0, ap (λ xs. (joined datagrams frame).1 ∷ xs) r.1)
walk key others bytes head end last few e z (frame ∷ between) (part ∷ parts) came datagrams c h o =
    elim c [
      | inl other ↦
          (let r = walk key others bytes head end last few e z between (part ∷ parts) came (joined datagrams frame).0 other.1 h (joined_other key others came datagrams frame few other.0 o) in
          ((joined datagrams frame).1 ∷ r.0, ap (λ xs. (joined datagrams frame).1 ∷ xs) r.1))
      | inr own ↦
          (let n = next_came bytes head part came (parts ++ end ∷ []) h in
          let same : opened key datagrams ≡ datagrams = opened_open key others came datagrams o in
          let later = joined_added key others part came datagrams frame own.0 h.rest.0.sound (next_fits bytes head part came (parts ++ end ∷ []) h)
          (still_open bytes head end (placed part came) parts n) (subst (λ xs. IsOpen key others came xs) (sym same) o) in
          let r = walk key others bytes head end last few e z between parts (placed part came) (joined datagrams frame).0 own.1 n later in
          ((joined datagrams frame).1 ∷ r.0, ap (λ xs. (joined datagrams frame).1 ∷ xs) r.1))
    ]

pub whole_in_any_order : WholeInAnyOrder
whole_in_any_order datagrams key others first last between bytes one end head parts n few e c f a among z =
    let h = none_came bytes head (one ∷ (parts ++ end ∷ [])) a among in
    let next = next_came bytes head one [] (parts ++ end ∷ []) h in
    let opened = opened_first key others datagrams n (none_with_room key datagrams n) in
    let later = joined_added key others one [] datagrams first e h.rest.0.sound refl (still_open bytes head end (placed one []) parts next) opened in
    let r = walk key others bytes head end last few f z between parts (placed one []) (joined datagrams first).0 c next later in
    ((joined datagrams first).1 ∷ r.0, ap (λ xs. (joined datagrams first).1 ∷ xs) r.1)
