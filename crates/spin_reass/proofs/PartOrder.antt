-- Parts in order of start that share no byte, and one more among them.
use Rattle.std.proofs.Common.{◌≡◌, ◌≤◌, ◌<◌, ◌+◌, ◌-◌, inl, inr, ℕ, zero, suc, Bool, true, false, cond, nat_lt, nat_le, not, ◌==◌, ◌&&◌}
use Rattle.std.proofs.Common.{◌||◌, find, List, [], ◌∷◌, ◌++◌, length, take, Option, Some, None, refl, sym, ap, subst, ◌∙◌, arith, get_or}
use Rattle.std.proofs.lemmas.Bool.{cases_lt, cases_Bool, and_parts, and_from, and_left, and_right, not-true, not_from_false, both_ways}
use Rattle.std.proofs.lemmas.Bool.{false≢true, ltb-true, leb-true, lt-ltb, le-ltb, le-leb, lt-leb, ne_eqb, cond-true, cond-false}
use Rattle.std.proofs.lemmas.Bool.Decides.{nat_tests}
use Rattle.std.proofs.lemmas.List.{length-append}
use Rattle.std.specs.List.{insert, slice_get}
use Rattle.std.specs.Option.{option_map_or}
use Rattle.spin_headers.specs.Headers.{ipv4_header}
use Rattle.spin_reass.specs.declared.limits.TheConstants.{MAX_PAYLOAD}
use Rattle.spin_reass.specs.declared.piece.Key.{Key}
use Rattle.spin_reass.specs.declared.piece.Part.{Part}
use Rattle.spin_reass.specs.Fragments.{end_of, is_sound}
use Rattle.spin_reass.specs.Joining.{OpenDatagram, fits, fits_beside, placed, last_end, payload, first_ttl, whole_frame, are_whole}
use Rattle.spin_reass.specs.Inner.Orderly.{none, are_orderly, size_of, place_from, part_before, ends_by, may_stand_before, added_to, makes_whole, front_ttl}

-- ---- orderly parts of which one is the first

pub record IsFirst (from : ℕ) (part : Part) (parts : List Part) : Type 0 where
  pub above : from ≤ part.start
  pub some : 0 < length part.bytes
  pub small : end_of part ≤ MAX_PAYLOAD
  pub alone : part.last ≡ true → parts ≡ []
  pub rest : are_orderly (end_of part) parts ≡ true

none_is : (parts : List Part) → none parts ≡ true → parts ≡ []
none_is [] h = refl
none_is (part ∷ parts) h = absurd (false≢true h)

alone_is : (last : Bool) (parts : List Part) → (not last || none parts) ≡ true → last ≡ true → parts ≡ []
alone_is true parts h e = none_is parts h
alone_is false parts h e = absurd (false≢true e)

is_alone : (last : Bool) (parts : List Part) → (last ≡ true → parts ≡ []) → (not last || none parts) ≡ true
is_alone true parts h = ap none (h refl)
is_alone false parts h = refl

pub first_of : (from : ℕ) (part : Part) (parts : List Part) → are_orderly from (part ∷ parts) ≡ true → IsFirst from part parts
first_of from part parts h =
    let t = and_parts (nat_le from part.start && nat_lt 0 (length part.bytes) && nat_le (end_of part) MAX_PAYLOAD && (not part.last || none parts)) (are_orderly (end_of part) parts) h in
    let u = and_parts (nat_le from part.start && nat_lt 0 (length part.bytes) && nat_le (end_of part) MAX_PAYLOAD) (not part.last || none parts) t.0 in
    let v = and_parts (nat_le from part.start && nat_lt 0 (length part.bytes)) (nat_le (end_of part) MAX_PAYLOAD) u.0 in
    let w = and_parts (nat_le from part.start) (nat_lt 0 (length part.bytes)) v.0 in
    record {
      above = leb-true from part.start w.0;
      some = ltb-true 0 (length part.bytes) w.1;
      small = leb-true (end_of part) MAX_PAYLOAD v.1;
      alone = alone_is part.last parts u.1;
      rest = t.1;
    }

pub orderly_from : (from : ℕ) (part : Part) (parts : List Part) → IsFirst from part parts → are_orderly from (part ∷ parts) ≡ true
orderly_from from part parts f =
    and_from (nat_le from part.start && nat_lt 0 (length part.bytes) && nat_le (end_of part) MAX_PAYLOAD && (not part.last || none parts)) (are_orderly (end_of part) parts)
    (and_from (nat_le from part.start && nat_lt 0 (length part.bytes) && nat_le (end_of part) MAX_PAYLOAD) (not part.last || none parts)
    (and_from (nat_le from part.start && nat_lt 0 (length part.bytes)) (nat_le (end_of part) MAX_PAYLOAD)
    (and_from (nat_le from part.start) (nat_lt 0 (length part.bytes)) (le-leb from part.start f.above) (lt-ltb 0 (length part.bytes) f.some))
    (le-leb (end_of part) MAX_PAYLOAD f.small))
    (is_alone part.last parts f.alone))
    f.rest

pub lower : (a b : ℕ) (parts : List Part) → b ≤ a → are_orderly a parts ≡ true → are_orderly b parts ≡ true
lower a b [] le h = refl
lower a b (part ∷ parts) le h =
    let f = first_of a part parts h in
    orderly_from b part parts (record { above = (let g = f.above in omega arith); some = f.some; small = f.small; alone = f.alone; rest = f.rest })

-- what is known of a sound part
pub record IsSound (part : Part) : Type 0 where
  pub some : 0 < length part.bytes
  pub small : end_of part ≤ MAX_PAYLOAD

pub sound : (part : Part) → is_sound part ≡ true → IsSound part
sound part h = record { some = grind (arith, nat_tests); small = grind (arith, nat_tests) }

-- ---- at an index

pub starts_above : (from : ℕ) (parts : List Part) (at : ℕ) (d : Part) → are_orderly from parts ≡ true → at < length parts → from ≤ (get_or parts at d).start
starts_above from [] at d h l = absurd (omega arith)
starts_above from (part ∷ parts) zero d h l = (first_of from part parts h).above
starts_above from (part ∷ parts) (suc at) d h l =
    let f = first_of from part parts h in
    let above = f.above in
    let later = starts_above (end_of part) parts at d f.rest (omega arith) in
    omega arith

pub starts_rise : (from : ℕ) (parts : List Part) (i j : ℕ) (d : Part) → are_orderly from parts ≡ true → i ≤ j → j < length parts → (get_or parts i d).start ≤ (get_or parts j d).start
starts_rise from [] i j d h le l = absurd (omega arith)
starts_rise from (part ∷ parts) zero zero d h le l = omega arith
starts_rise from (part ∷ parts) zero (suc j) d h le l =
    let f = first_of from part parts h in
    let later = starts_above (end_of part) parts j d f.rest (omega arith) in
    omega arith
starts_rise from (part ∷ parts) (suc i) zero d h le l = absurd (omega arith)
starts_rise from (part ∷ parts) (suc i) (suc j) d h le l =
    let f = first_of from part parts h in starts_rise (end_of part) parts i j d f.rest (omega arith) (omega arith)

pub small_at : (from : ℕ) (parts : List Part) (at : ℕ) (d : Part) → are_orderly from parts ≡ true → at < length parts → end_of (get_or parts at d) ≤ MAX_PAYLOAD
small_at from [] at d h l = absurd (omega arith)
small_at from (part ∷ parts) zero d h l = (first_of from part parts h).small
small_at from (part ∷ parts) (suc at) d h l =
    let f = first_of from part parts h in small_at (end_of part) parts at d f.rest (omega arith)

pub get_is : (parts : List Part) (at : ℕ) (d : Part) → at < length parts → slice_get parts at ≡ Some (get_or parts at d)
get_is [] at d l = absurd (omega arith)
get_is (part ∷ parts) zero d l = refl
get_is (part ∷ parts) (suc at) d l = get_is parts at d (omega arith)

-- those that start before a place are at the front
pub partitioned : (from start : ℕ) (parts : List Part) (i j : ℕ) (d : Part) → are_orderly from parts ≡ true → i ≤ j
    → j < length parts → nat_lt (get_or parts j d).start start ≡ true → nat_lt (get_or parts i d).start start ≡ true
partitioned from start parts i j d h le l e =
    let rise = starts_rise from parts i j d h le l in
    let before = ltb-true (get_or parts j d).start start e in
    lt-ltb (get_or parts i d).start start (omega arith)

pub prefix_is : (start : ℕ) (parts : List Part) (r : ℕ) → r ≤ length parts → ((k : ℕ) (d : Part) → k < r → nat_lt (get_or parts k d).start start ≡ true)
    → ((d : Part) → r < length parts → nat_lt (get_or parts r d).start start ≡ false) → place_from start parts ≡ r
prefix_is start [] r le before behind = omega arith
prefix_is start (part ∷ parts) zero le before behind = cond-false (nat_lt part.start start) (1 + place_from start parts) 0 (behind part (omega arith))
prefix_is start (part ∷ parts) (suc r) le before behind =
    cond-true (nat_lt part.start start) (1 + place_from start parts) 0 (before 0 part (omega arith))
    ∙ (let more = prefix_is start parts r (omega arith) (λ k d l. before (suc k) d (omega arith)) (λ d l. behind d (omega arith)) in omega arith)

minus : (n : ℕ) → suc n - 1 ≡ n
minus n = omega arith

-- the part before a place
pub ends_is : (start at : ℕ) (parts : List Part) (part : Part) → 0 < at → at ≤ length parts → part ≡ get_or parts (at - 1) part → nat_le (end_of part) start ≡ ends_by start (part_before at parts)
ends_is start zero parts part p l e = absurd (omega arith)
ends_is start (suc at) parts part p l e =
    ap (λ x. nat_le (end_of x) start) (e ∙ ap (λ n. get_or parts n part) (minus at))
    ∙ ap (λ o. ends_by start o) (sym (get_is parts at part (omega arith)))

-- ---- the part fits where it fits beside its neighbours

beside_before : (ps pe qs qe : ℕ) (pl ql : Bool) → qs < ps → ps < pe → qs < qe
    → ((nat_le pe qs || nat_le qe ps) && not (ql && nat_lt qe pe) && not (pl && (ql || nat_lt pe qe))) ≡ (nat_le qe ps && not ql)
beside_before ps pe qs qe true true a b c = grind (arith, nat_tests)
beside_before ps pe qs qe true false a b c = grind (arith, nat_tests)
beside_before ps pe qs qe false true a b c = grind (arith, nat_tests)
beside_before ps pe qs qe false false a b c = grind (arith, nat_tests)

beside_behind : (ps pe qs qe : ℕ) (pl ql : Bool) → ps ≤ qs → ps < pe → qs < qe
    → ((nat_le pe qs || nat_le qe ps) && not (ql && nat_lt qe pe) && not (pl && (ql || nat_lt pe qe))) ≡ (nat_le pe qs && not pl)
beside_behind ps pe qs qe true true a b c = grind (arith, nat_tests)
beside_behind ps pe qs qe true false a b c = grind (arith, nat_tests)
beside_behind ps pe qs qe false true a b c = grind (arith, nat_tests)
beside_behind ps pe qs qe false false a b c = grind (arith, nat_tests)

-- the test of the neighbours, part by part; the part before these ends at that place
abbrev pub goes : ℕ → Part → List Part → Bool
goes from part [] = nat_le from part.start && true
goes from part (other ∷ others) =
    cond (nat_lt other.start part.start) (not other.last && goes (end_of other) part others)
    (nat_le from part.start && (not part.last && nat_le (end_of part) other.start))

too_late : (from : ℕ) (part : Part) (parts : List Part) → are_orderly from parts ≡ true → part.start < from → goes from part parts ≡ false
too_late from part [] h l = and_left (nat_le from part.start) true (lt-leb from part.start l)
too_late from part (other ∷ others) h l =
    let f = first_of from other others h in
    let above = f.above in
    cond-false (nat_lt other.start part.start) (not other.last && goes (end_of other) part others)
    (nat_le from part.start && (not part.last && nat_le (end_of part) other.start)) (le-ltb other.start part.start (omega arith))
    ∙ and_left (nat_le from part.start) (not part.last && nat_le (end_of part) other.start) (lt-leb from part.start l)

all_behind : (part : Part) (from : ℕ) (parts : List Part) → 0 < length part.bytes → are_orderly from parts ≡ true → end_of part ≤ from → part.last ≡ false → fits part parts ≡ true
all_behind part from [] some h le e = refl
all_behind part from (other ∷ others) some h le e =
    let f = first_of from other others h in
    let above = f.above in
    let has = f.some in
    and_from (fits_beside part other) (fits part others)
    (beside_behind part.start (end_of part) other.start (end_of other) part.last other.last (omega arith) (omega arith) (omega arith)
    ∙ and_from (nat_le (end_of part) other.start) (not part.last) (le-leb (end_of part) other.start (omega arith)) (not_from_false part.last e))
    (all_behind part (end_of other) others some f.rest (omega arith) e)

both_false : (b x t l g y : Bool) → b ≡ false → t ≡ true → g ≡ false → (b && x) ≡ cond t (not l && g) y
both_false b x t l g y e f h = and_left b x e ∙ sym (cond-true t (not l && g) y f ∙ and_right (not l) g h)

same_both : (b u l x g t y : Bool) → b ≡ (u && not l) → u ≡ true → x ≡ g → t ≡ true → (b && x) ≡ cond t (not l && g) y
same_both b true l x g true y e f h k = ap (λ z. z && x) e ∙ ap (λ z. not l && z) h
same_both b false l x g t y e f h k = absurd (false≢true f)
same_both b true l x g false y e f h k = absurd (false≢true k)

pass_behind : (b v l x w t z : Bool) → b ≡ (v && not l) → w ≡ true → t ≡ false → (v ≡ true → l ≡ false → x ≡ true) → (b && x) ≡ cond t z (w && (not l && v))
pass_behind b true true x w t z e f g h = ap (λ y. y && x) e ∙ sym (cond-false t z (w && false) g ∙ and_right w false refl)
pass_behind b true false x w t z e f g h = and_from b x e (h refl refl) ∙ sym (cond-false t z (w && true) g ∙ and_from w true f refl)
pass_behind b false true x w t z e f g h = ap (λ y. y && x) e ∙ sym (cond-false t z (w && false) g ∙ and_right w false refl)
pass_behind b false false x w t z e f g h = ap (λ y. y && x) e ∙ sym (cond-false t z (w && false) g ∙ and_right w false refl)

pub fits_goes : (from : ℕ) (part : Part) (parts : List Part) → 0 < length part.bytes → are_orderly from parts ≡ true → from ≤ part.start → fits part parts ≡ goes from part parts
fits_goes from part [] some h le = sym (and_from (nat_le from part.start) true (le-leb from part.start le) refl)
fits_goes from part (other ∷ others) some h le =
    let f = first_of from other others h in
    let has = f.some in
    (elim (cases_lt other.start part.start) [
      | inl before ↦
          let b = beside_before part.start (end_of part) other.start (end_of other) part.last other.last before (omega arith) (omega arith) in
          (elim (cases_lt part.start (end_of other)) [
            | inl late ↦ both_false (fits_beside part other) (fits part others) (nat_lt other.start part.start) other.last (goes (end_of other) part others)
                (nat_le from part.start && (not part.last && nat_le (end_of part) other.start))
                (b ∙ and_left (nat_le (end_of other) part.start) (not other.last) (lt-leb (end_of other) part.start late))
                (lt-ltb other.start part.start before) (too_late (end_of other) part others f.rest late)
            | inr in_time ↦ same_both (fits_beside part other) (nat_le (end_of other) part.start) other.last (fits part others)
                (goes (end_of other) part others) (nat_lt other.start part.start) (nat_le from part.start && (not part.last && nat_le (end_of part) other.start)) b
                (le-leb (end_of other) part.start in_time) (fits_goes (end_of other) part others some f.rest in_time) (lt-ltb other.start part.start before)
          ])
      | inr behind ↦
          pass_behind (fits_beside part other) (nat_le (end_of part) other.start) part.last (fits part others)
          (nat_le from part.start) (nat_lt other.start part.start) (not other.last && goes (end_of other) part others)
          (beside_behind part.start (end_of part) other.start (end_of other) part.last other.last behind (omega arith) (omega arith)) (le-leb from part.start le) (le-ltb other.start part.start behind)
          (λ apart not_last. all_behind part (end_of other) others some f.rest (let a = leb-true (end_of part) other.start apart in omega arith) not_last)
    ])

-- ---- the same by the place of the part

abbrev stands : ℕ → Part → List Part → ℕ → Bool
stands from part parts zero = nat_le from part.start
stands from part parts (suc at) = ends_by part.start (slice_get parts at)

stands_more : (from : ℕ) (part other : Part) (others : List Part) (at : ℕ) → stands from part (other ∷ others) (suc at) ≡ stands (end_of other) part others at
stands_more from part other others zero = refl
stands_more from part other others (suc at) = refl

-- the place, where the first starts before it
pub place_more : (start : ℕ) (other : Part) (others : List Part) → nat_lt other.start start ≡ true → place_from start (other ∷ others) ≡ suc (place_from start others)
place_more start other others e = cond-true (nat_lt other.start start) (1 + place_from start others) 0 e ∙ omega arith

pub place_none : (start : ℕ) (other : Part) (others : List Part) → nat_lt other.start start ≡ false → place_from start (other ∷ others) ≡ 0
place_none start other others e = cond-false (nat_lt other.start start) (1 + place_from start others) 0 e

abbrev by_place : ℕ → Part → List Part → ℕ → Bool
by_place from part parts at = stands from part parts at && may_stand_before part (slice_get parts at) (last_end parts)

behind_last : (from : ℕ) (part other : Part) (others : List Part) (at : ℕ) (last : Bool) (g : Bool) → (last ≡ true → others ≡ [])
    → (last ≡ true → at ≡ 0) → g ≡ (stands (end_of other) part others at && may_stand_before part (slice_get others at) (last_end others))
    → (not last && g) ≡ (stands (end_of other) part others at && may_stand_before part (slice_get others at) (cond last (Some (end_of other)) (last_end others)))
behind_last from part other others at true g none zero_at e =
    let gone : slice_get others at ≡ None = ap (λ xs. slice_get xs at) (none refl) ∙ refl in
    sym (and_right (stands (end_of other) part others at) (may_stand_before part (slice_get others at) (Some (end_of other))) (ap (λ o. may_stand_before part o (Some (end_of other))) gone))
behind_last from part other others at false g none zero_at e = e

pub goes_by_place : (from : ℕ) (part : Part) (parts : List Part) → are_orderly from parts ≡ true → goes from part parts ≡ by_place from part parts (place_from part.start parts)
goes_by_place from part [] h = refl
goes_by_place from part (other ∷ others) h =
    let f = first_of from other others h in
    (elim (cases_Bool (nat_lt other.start part.start)) [
      | inl e ↦
          cond-true (nat_lt other.start part.start) (not other.last && goes (end_of other) part others) (nat_le from part.start && (not part.last && nat_le (end_of part) other.start)) e
          ∙ behind_last from part other others (place_from part.start others) other.last (goes (end_of other) part others) f.alone
          (λ last. ap (λ xs. place_from part.start xs) (f.alone last)) (goes_by_place (end_of other) part others f.rest)
          ∙ ap (λ s. s && may_stand_before part (slice_get others (place_from part.start others)) (last_end (other ∷ others))) (sym (stands_more from part other others (place_from part.start others)))
          ∙ ap (λ n. by_place from part (other ∷ others) n) (sym (place_more part.start other others e))
      | inr e ↦
          cond-false (nat_lt other.start part.start) (not other.last && goes (end_of other) part others) (nat_le from part.start && (not part.last && nat_le (end_of part) other.start)) e
          ∙ ap (λ n. by_place from part (other ∷ others) n) (sym (place_none part.start other others e))
    ])

stands_first : (part : Part) (parts : List Part) (at : ℕ) → stands 0 part parts at ≡ ends_by part.start (part_before at parts)
stands_first part parts zero = le-leb 0 part.start (omega arith)
stands_first part parts (suc at) = refl

-- the part fits where the one before its place ends in time and it may stand before the next
pub fits_by_place : (part : Part) (parts : List Part) → 0 < length part.bytes → are_orderly 0 parts ≡ true
    → fits part parts ≡ (ends_by part.start (part_before (place_from part.start parts) parts) && may_stand_before part (slice_get parts (place_from part.start parts)) (last_end parts))
fits_by_place part parts some h =
    fits_goes 0 part parts some h (omega arith) ∙ goes_by_place 0 part parts h
    ∙ ap (λ s. s && may_stand_before part (slice_get parts (place_from part.start parts)) (last_end parts)) (stands_first part parts (place_from part.start parts))

pub fits_is : (part : Part) (parts : List Part) (at : ℕ) (end : Option ℕ) (before behind : Bool) → is_sound part ≡ true → are_orderly 0 parts ≡ true → end ≡ last_end parts
    → at ≡ place_from part.start parts → before ≡ ends_by part.start (part_before at parts) → behind ≡ may_stand_before part (slice_get parts at) end → (before && behind) ≡ fits part parts
fits_is part parts at end before behind s h l p b c =
    (λ i. b i && c i)
    ∙ (λ i. ends_by part.start (part_before (p i) parts) && may_stand_before part (slice_get parts (p i)) (l i))
    ∙ sym (fits_by_place part parts (sound part s).some h)

-- ---- a part that fits, at its place

pub placed_at : (part : Part) (parts : List Part) → insert parts (place_from part.start parts) part ≡ placed part parts
placed_at part [] = refl
placed_at part (other ∷ others) =
    (elim (cases_Bool (nat_lt other.start part.start)) [
      | inl e ↦ ap (λ n. insert (other ∷ others) n part) (place_more part.start other others e) ∙ ap (λ xs. other ∷ xs) (placed_at part others)
          ∙ sym (cond-true (nat_lt other.start part.start) (other ∷ placed part others) (part ∷ (other ∷ others)) e)
      | inr e ↦ ap (λ n. insert (other ∷ others) n part) (place_none part.start other others e)
          ∙ sym (cond-false (nat_lt other.start part.start) (other ∷ placed part others) (part ∷ (other ∷ others)) e)
    ])

goes_front : (t l g y : Bool) → t ≡ true → cond t (not l && g) y ≡ true → (l ≡ false) × (g ≡ true)
goes_front t l g y e h = let p = and_parts (not l) g (sym (cond-true t (not l && g) y e) ∙ h) in (not-true l p.0, p.1)

goes_here : (t z w l v : Bool) → t ≡ false → cond t z (w && (not l && v)) ≡ true → (w ≡ true) × (l ≡ false) × (v ≡ true)
goes_here t z w l v e h =
    let p = and_parts w (not l && v) (sym (cond-false t z (w && (not l && v)) e) ∙ h) in
    let q = and_parts (not l) v p.1 in
    (p.0, not-true l q.0, q.1)

pub placed_orderly : (from : ℕ) (part : Part) (parts : List Part) → IsSound part → are_orderly from parts ≡ true → goes from part parts ≡ true → are_orderly from (placed part parts) ≡ true
placed_orderly from part [] s h g =
    orderly_from from part [] (record { above = leb-true from part.start (and_parts (nat_le from part.start) true g).0; some = s.some; small = s.small; alone = λ _. refl; rest = refl })
placed_orderly from part (other ∷ others) s h g =
    let f = first_of from other others h in
    (elim (cases_Bool (nat_lt other.start part.start)) [
      | inl e ↦
          let p = goes_front (nat_lt other.start part.start) other.last (goes (end_of other) part others) (nat_le from part.start && (not part.last && nat_le (end_of part) other.start)) e g in
          ap (λ xs. are_orderly from xs) (cond-true (nat_lt other.start part.start) (other ∷ placed part others) (part ∷ (other ∷ others)) e)
          ∙ orderly_from from other (placed part others)
          (record { above = f.above; some = f.some; small = f.small; alone = λ last. absurd (both_ways other.last p.0 last); rest = placed_orderly (end_of other) part others s f.rest p.1 })
      | inr e ↦
          let p = goes_here (nat_lt other.start part.start) (not other.last && goes (end_of other) part others) (nat_le from part.start) part.last (nat_le (end_of part) other.start) e g in
          ap (λ xs. are_orderly from xs) (cond-false (nat_lt other.start part.start) (other ∷ placed part others) (part ∷ (other ∷ others)) e)
          ∙ orderly_from from part (other ∷ others) (record {
            above = leb-true from part.start p.0;
            some = s.some;
            small = s.small;
            alone = λ last. absurd (both_ways part.last p.1 last);
            rest = orderly_from (end_of part) other others (record { above = leb-true (end_of part) other.start p.2; some = f.some; small = f.small; alone = f.alone; rest = f.rest });
          })
    ])

pub placed_last : (from : ℕ) (part : Part) (parts : List Part) → goes from part parts ≡ true → last_end (placed part parts) ≡ cond part.last (Some (end_of part)) (last_end parts)
placed_last from part [] g = refl
placed_last from part (other ∷ others) g =
    (elim (cases_Bool (nat_lt other.start part.start)) [
      | inl e ↦
          let p = goes_front (nat_lt other.start part.start) other.last (goes (end_of other) part others) (nat_le from part.start && (not part.last && nat_le (end_of part) other.start)) e g in
          ap last_end (cond-true (nat_lt other.start part.start) (other ∷ placed part others) (part ∷ (other ∷ others)) e)
          ∙ cond-false other.last (Some (end_of other)) (last_end (placed part others)) p.0
          ∙ placed_last (end_of other) part others p.1
          ∙ ap (λ o. cond part.last (Some (end_of part)) o) (sym (cond-false other.last (Some (end_of other)) (last_end others) p.0))
      | inr e ↦ ap last_end (cond-false (nat_lt other.start part.start) (other ∷ placed part others) (part ∷ (other ∷ others)) e)
    ])

pub placed_size : (part : Part) (parts : List Part) → size_of (placed part parts) ≡ size_of parts + length part.bytes
placed_size part [] = omega arith
placed_size part (other ∷ others) =
    (elim (cases_Bool (nat_lt other.start part.start)) [
      | inl e ↦ ap size_of (cond-true (nat_lt other.start part.start) (other ∷ placed part others) (part ∷ (other ∷ others)) e) ∙ (let more = placed_size part others in omega arith)
      | inr e ↦ ap size_of (cond-false (nat_lt other.start part.start) (other ∷ placed part others) (part ∷ (other ∷ others)) e) ∙ omega arith
    ])

pub small_size : (from : ℕ) (parts : List Part) → from ≤ MAX_PAYLOAD → are_orderly from parts ≡ true → from + size_of parts ≤ MAX_PAYLOAD
small_size from [] le h = omega arith
small_size from (part ∷ parts) le h =
    let f = first_of from part parts h in
    let above = f.above in
    let more = small_size (end_of part) parts f.small f.rest in
    omega arith

pub payload_size : (parts : List Part) → length (payload parts) ≡ size_of parts
payload_size [] = refl
payload_size (part ∷ parts) = length-append part.bytes (payload parts) ∙ (let more = payload_size parts in omega arith)

-- what the parts are after one more that fits
pub record IsAdded (part : Part) (parts parts' : List Part) : Type 0 where
  pub is : parts' ≡ placed part parts
  pub orderly : are_orderly 0 parts' ≡ true
  pub size : size_of parts' ≡ size_of parts + length part.bytes
  pub last : last_end parts' ≡ cond part.last (Some (end_of part)) (last_end parts)

pub added : (part : Part) (parts parts' : List Part) (at : ℕ) → is_sound part ≡ true → are_orderly 0 parts ≡ true
    → fits part parts ≡ true → at ≡ place_from part.start parts → parts' ≡ insert parts at part → IsAdded part parts parts'
added part parts parts' at s h f p e =
    let is : parts' ≡ placed part parts = e ∙ ap (λ n. insert parts n part) p ∙ placed_at part parts in
    let g : goes 0 part parts ≡ true = sym (fits_goes 0 part parts (sound part s).some h (omega arith)) ∙ f in
    record {
      is = is;
      orderly = ap (λ xs. are_orderly 0 xs) is ∙ placed_orderly 0 part parts (sound part s) h g;
      size = ap size_of is ∙ placed_size part parts;
      last = ap last_end is ∙ placed_last 0 part parts g;
    }

pub added_is : (datagram : OpenDatagram) (part : Part) (key : Key) (parts parts' : List Part) → record { key = key; parts = parts } ≡ datagram
    → fits part parts ≡ true → parts' ≡ placed part parts → record { key = key; parts = parts' } ≡ added_to datagram part
added_is datagram part key parts parts' e f is =
    let P : OpenDatagram → Type 0 = λ d. record { key = key; parts = parts' } ≡ added_to d part in
    let before : OpenDatagram = record { key = key; parts = parts } in
    let after : OpenDatagram = record { key = key; parts = placed part parts } in
    subst P e ((λ i. record { key = key; parts = is i }) ∙ sym (cond-true (fits part parts) after before f))

-- the frame with the whole datagram, from its pieces
pub frame_is : (key : Key) (parts : List Part) (frame header : List ℕ) (ttl filled : ℕ) → header ≡ ipv4_header key.ident ttl key.protocol key.source key.destination filled
    → ttl ≡ first_ttl parts → filled ≡ size_of parts → take 14 frame ++ header ++ payload parts ≡ whole_frame (record { key = key; parts = parts }) frame
frame_is key parts frame header ttl filled h t f =
    let size : filled ≡ length (payload parts) = f ∙ sym (payload_size parts) in
    ap (λ xs. take 14 frame ++ xs ++ payload parts) h
    ∙ (λ i. take 14 frame ++ ipv4_header key.ident (t i) key.protocol key.source key.destination (size i) ++ payload parts)

-- the part that begins the datagram is the first
none_begins : (from : ℕ) (parts : List Part) → 0 < from → are_orderly from parts ≡ true → find (λ part. part.start == 0) parts ≡ None
none_begins from [] l h = refl
none_begins from (part ∷ parts) l h =
    let f = first_of from part parts h in
    let above = f.above in
    cond-false (part.start == 0) (Some part) (find (λ p. p.start == 0) parts) (ne_eqb part.start 0 (λ e. omega arith))
    ∙ none_begins (end_of part) parts (omega arith) f.rest

pub ttl_at_front : (parts : List Part) → are_orderly 0 parts ≡ true → front_ttl (slice_get parts 0) ≡ first_ttl parts
ttl_at_front [] h = refl
ttl_at_front (part ∷ parts) h =
    let f = first_of 0 part parts h in
    let has = f.some in
    let ttl : Option Part → ℕ = λ o. option_map_or (λ (p : Part). p.ttl) o 0 in
    (elim (cases_Bool (part.start == 0)) [
      | inl e ↦ cond-true (part.start == 0) part.ttl 0 e ∙ sym (ap ttl (cond-true (part.start == 0) (Some part) (find (λ p. p.start == 0) parts) e))
      | inr e ↦
          cond-false (part.start == 0) part.ttl 0 e
          ∙ sym (ap ttl (cond-false (part.start == 0) (Some part) (find (λ p. p.start == 0) parts) e ∙ none_begins (end_of part) parts (omega arith) f.rest))
    ])

pub whole_added : (datagram : OpenDatagram) (part : Part) (key : Key) (parts parts' : List Part) (whole : Bool) → record { key = key; parts = parts } ≡ datagram
    → fits part parts ≡ true → parts' ≡ placed part parts → whole ≡ are_whole parts' → whole ≡ makes_whole part datagram.parts
whole_added datagram part key parts parts' whole e f is w =
    let P : OpenDatagram → Type 0 = λ d. whole ≡ makes_whole part d.parts in
    subst P e (w ∙ ap are_whole is ∙ ap (λ b. b && are_whole (placed part parts)) (sym f))
