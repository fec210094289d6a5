-- Regions by rising start: which of them has a page, and one more of them.
use Rattle.std.proofs.Common.{rules, subst, inl, inr, ◌⊎◌, cond, ◌≡◌, ◌+◌, ◌-◌, ◌<◌, ◌≤◌, ◌&&◌, ◌||◌, ℕ, zero, suc, true, false, List, [], ◌∷◌, length, refl, sym, ap, ◌∙◌, arith}
use Rattle.std.specs.Prelude.{nat_lt, Bool, Option, Some, None, slice_get, IfSome, slice_index_or}
use Rattle.std.specs.Option.{unwrap_or}
use Rattle.std.proofs.lemmas.Option.{same_Some}
use Rattle.std.specs.List.{list_any, insert, AllWithin}
use Rattle.std.specs.List.Sorted.{IsPartitionedBy}
use Rattle.spin_vm.specs.declared.limits.TheConstants.{PAGES}
use Rattle.spin_vm.specs.declared.line.Region.{Region}
use Rattle.spin_vm.specs.Regions.{has_some, with_region}
use Rattle.spin_vm.specs.Inner.Apart.{AreApartFrom, count_before, last_before}

-- the list begins later, too
pub from_earlier : (low page : ℕ) (xs : List Region) → low ≤ page → AreApartFrom page xs → AreApartFrom low xs
from_earlier low page [] le apart = omega (arith, le, apart)
from_earlier low page (x ∷ xs) le apart = (omega (arith, le, apart.0), apart.1, apart.2)

-- where the list begins
pub low_is : (page : ℕ) (xs : List Region) → AreApartFrom page xs → page ≤ PAGES
low_is page [] apart = apart
low_is page (x ∷ xs) apart = let rest = low_is (x.start + x.pages) xs apart.2 in omega (arith, rest, apart.0)

none_some : (r : Region) → None ≡ Some r → ⊥
none_some r e = search (rules, e)

end_here : (page : ℕ) (xs : List Region) (x r : Region) → AreApartFrom page xs → Some x ≡ Some r → page ≡ x.start + x.pages → r.start + r.pages ≤ PAGES
end_here page xs x r apart e is = let low = low_is page xs apart in subst (λ (y : Region). y.start + y.pages ≤ PAGES) (same_Some x r e) (omega (arith, low, is))

-- each region ends at the last page at most
pub end_at : (page : ℕ) (xs : List Region) (k : ℕ) (r : Region) → AreApartFrom page xs → slice_get xs k ≡ Some r → r.start + r.pages ≤ PAGES
end_at page [] k r apart read = absurd (none_some r read)
end_at page (x ∷ xs) zero r apart read = end_here (x.start + x.pages) xs x r apart.2 read refl
end_at page (x ∷ xs) (suc k) r apart read = end_at (x.start + x.pages) xs k r apart.2 read

-- ---- which region has a page

-- where all regions begin at a page or after it, none has one before
pub none_from : (page from to : ℕ) (xs : List Region) → to ≤ page → AreApartFrom page xs → list_any (has_some from to) xs ≡ false
none_from page from to [] le apart = refl
none_from page from to (x ∷ xs) le apart =
    let rest = none_from (x.start + x.pages) from to xs (omega (arith, le, apart.0)) apart.2 in
    let here : nat_lt x.start to ≡ false = grind (arith, le, apart.0) in
    grind (arith, rest, here)

-- whether the last region before `to` reaches past `from`
abbrev pub reaches : ℕ → Option Region → Bool
reaches from None = false
reaches from (Some r) = nat_lt from (r.start + r.pages)

-- the last region before a page begins where the list does or after it
last_from : (page to : ℕ) (xs : List Region) → AreApartFrom page xs → IfSome (last_before to xs) (λ r. page ≤ r.start)
last_from page to [] apart = tt
last_from page to (x ∷ xs) apart = by_start (nat_lt x.start to) refl (last_before to xs) (last_from (x.start + x.pages) to xs apart.2) where
  by_start : (b : Bool) → nat_lt x.start to ≡ b → (o : Option Region) → IfSome o (λ r. x.start + x.pages ≤ r.start) → IfSome (cond b (Some (unwrap_or o x)) None) (λ r. page ≤ r.start)
  by_start false e o h = tt
  by_start true e None h = apart.0
  by_start true e (Some r) h = omega (arith, h, apart.0)

-- a region has such a page exactly where the last one before `to` has
pub any_is : (page from to : ℕ) (xs : List Region) → from < to → AreApartFrom page xs → list_any (has_some from to) xs ≡ reaches from (last_before to xs)
any_is page from to [] lt apart = refl
any_is page from to (x ∷ xs) lt apart = by_start (nat_lt x.start to) refl (last_before to xs) (last_from (x.start + x.pages) to xs apart.2) (any_is (x.start + x.pages) from to xs lt apart.2) where
  by_start : (b : Bool) → nat_lt x.start to ≡ b → (o : Option Region) → IfSome o (λ r. x.start + x.pages ≤ r.start) → list_any (has_some from to) xs ≡ reaches from o
      → ((nat_lt x.start to && nat_lt from (x.start + x.pages)) || list_any (has_some from to) xs) ≡ reaches from (cond b (Some (unwrap_or o x)) None)
  by_start false e o h rest =
      let none = none_from (x.start + x.pages) from to xs (grind (arith, e)) apart.2 in
      grind (arith, e, none)
  by_start true e None h rest = grind (arith, e, rest)
  by_start true e (Some r) h rest = grind (arith, e, rest, h)

-- whether the last region before the next page has the page, and may be written to
abbrev pub lets_write : ℕ → Option Region → Bool
lets_write page None = false
lets_write page (Some r) = nat_lt page (r.start + r.pages) && r.writable

none_write : (low page to : ℕ) (xs : List Region) → to ≤ low → AreApartFrom low xs → list_any (λ r. has_some page to r && r.writable) xs ≡ false
none_write low page to [] le apart = refl
none_write low page to (x ∷ xs) le apart =
    let rest = none_write (x.start + x.pages) page to xs (omega (arith, le, apart.0)) apart.2 in
    let here : nat_lt x.start to ≡ false = grind (arith, le, apart.0) in
    grind (arith, rest, here)

-- the last region before a page begins before that page
pub last_begins : (to : ℕ) (xs : List Region) → IfSome (last_before to xs) (λ r. r.start < to)
last_begins to [] = tt
last_begins to (x ∷ xs) = by_start (nat_lt x.start to) refl (last_before to xs) (last_begins to xs) where
  by_start : (b : Bool) → nat_lt x.start to ≡ b → (o : Option Region) → IfSome o (λ r. r.start < to) → IfSome (cond b (Some (unwrap_or o x)) None) (λ r. r.start < to)
  by_start false e o h = tt
  by_start true e None h = grind (arith, e)
  by_start true e (Some r) h = h

-- a region that may be written to has the page exactly where the last one before the next page is such a one
pub writes_is : (low page : ℕ) (xs : List Region) → AreApartFrom low xs → list_any (λ r. has_some page (page + 1) r && r.writable) xs ≡ lets_write page (last_before (page + 1) xs)
writes_is low page [] apart = refl
writes_is low page (x ∷ xs) apart = by_start (nat_lt x.start (page + 1)) refl (last_before (page + 1) xs)
    (last_from (x.start + x.pages) (page + 1) xs apart.2) (last_begins (page + 1) xs) (writes_is (x.start + x.pages) page xs apart.2) where
      by_start : (b : Bool) → nat_lt x.start (page + 1) ≡ b → (o : Option Region) → IfSome o (λ r. x.start + x.pages ≤ r.start) → IfSome o (λ r. r.start < page + 1)
          → list_any (λ r. has_some page (page + 1) r && r.writable) xs ≡ lets_write page o
          → (((nat_lt x.start (page + 1) && nat_lt page (x.start + x.pages)) && x.writable) || list_any (λ r. has_some page (page + 1) r && r.writable) xs)
          ≡ lets_write page (cond b (Some (unwrap_or o x)) None)
      by_start false e o h g rest =
          let none = none_write (x.start + x.pages) page (page + 1) xs (grind (arith, e)) apart.2 in
          grind (arith, e, none)
      by_start true e None h g rest = grind (arith, e, rest)
      by_start true e (Some r) h g rest =
          let past : nat_lt page (x.start + x.pages) ≡ false = grind (arith, h, g) in
          grind (arith, e, rest, past)

-- ---- by place

-- the point at which the regions no longer start before a page
pub count_is : (page : ℕ) (xs : List Region) (i : ℕ) → i ≤ length xs → AllWithin (λ r. nat_lt r.start page ≡ true) xs 0 i
    → AllWithin (λ r. nat_lt r.start page ≡ false) xs i (length xs) → i ≡ count_before page xs
count_is page [] zero le before behind = refl
count_is page [] (suc i) le before behind = absurd (omega (arith, le))
count_is page (x ∷ xs) zero le before behind = let e : nat_lt x.start page ≡ false = behind 0 x (omega arith) (omega arith) in rw e refl
count_is page (x ∷ xs) (suc i) le before behind =
    let e : nat_lt x.start page ≡ true = before 0 x (omega arith) (omega arith) in
    let rest = count_is page xs i (omega (arith, le)) (λ k d lo hi. before (suc k) d (omega arith) (omega (arith, hi))) (λ k d lo hi. behind (suc k) d (omega (arith, lo)) (omega (arith, hi))) in
    rw e (ap suc rest)

-- the region before that point is the last before the page, and there is none where the point is the first
pub last_is : (page : ℕ) (xs : List Region) → ((count_before page xs ≡ 0) × (last_before page xs ≡ None))
    ⊎ ((k : ℕ) × (r : Region) × (count_before page xs ≡ suc k) × (last_before page xs ≡ Some r) × (slice_get xs k ≡ Some r))
last_is page [] = inl (refl, refl)
last_is page (x ∷ xs) = by_start (nat_lt x.start page) (last_is page xs) where
  by_start : (b : Bool) → ((count_before page xs ≡ 0) × (last_before page xs ≡ None))
      ⊎ ((k : ℕ) × (r : Region) × (count_before page xs ≡ suc k) × (last_before page xs ≡ Some r) × (slice_get xs k ≡ Some r))
      → ((cond b (suc (count_before page xs)) 0 ≡ 0) × (cond b (Some (unwrap_or (last_before page xs) x)) None ≡ None))
      ⊎ ((k : ℕ) × (r : Region) × (cond b (suc (count_before page xs)) 0 ≡ suc k) × (cond b (Some (unwrap_or (last_before page xs) x)) None ≡ Some r) × (slice_get (x ∷ xs) k ≡ Some r))
  by_start false h = inl (refl, refl)
  by_start true (inl (none, last)) = inr (0, x, ap suc none, ap (λ o. Some (unwrap_or o x)) last, refl)
  by_start true (inr (k, r, some, last, read)) = inr (suc k, r, ap suc some, ap (λ o. Some (unwrap_or o x)) last, read)

-- ---- one more

pub insert_is : (r : Region) (xs : List Region) → insert xs (count_before r.start xs) r ≡ with_region r xs
insert_is r [] = refl
insert_is r (x ∷ xs) = by_start (nat_lt x.start r.start) (insert_is r xs) where
  by_start : (b : Bool) → insert xs (count_before r.start xs) r ≡ with_region r xs → insert (x ∷ xs) (cond b (suc (count_before r.start xs)) 0) r ≡ cond b (x ∷ with_region r xs) (r ∷ x ∷ xs)
  by_start false rest = refl
  by_start true rest = ap (λ ys. x ∷ ys) rest

pub with_apart : (page : ℕ) (r : Region) (xs : List Region) → page ≤ r.start → 0 < r.pages → r.start + r.pages ≤ PAGES
    → list_any (has_some r.start (r.start + r.pages)) xs ≡ false → AreApartFrom page xs → AreApartFrom page (with_region r xs)
with_apart page r [] low some near none apart = (low, some, near)
with_apart page r (x ∷ xs) low some near none apart = by_start (nat_lt x.start r.start) refl (λ after. with_apart (x.start + x.pages) r xs after some near (grind (arith, none)) apart.2) where
  by_start : (b : Bool) → nat_lt x.start r.start ≡ b → (x.start + x.pages ≤ r.start → AreApartFrom (x.start + x.pages) (with_region r xs))
      → AreApartFrom page (cond b (x ∷ with_region r xs) (r ∷ x ∷ xs))
  by_start true e rest = (apart.0, apart.1, rest (grind (arith, none, e, some)))
  by_start false e rest = (low, some, (grind (arith, none, e, apart.1), apart.1, apart.2))

starts_from : (low : ℕ) (xs : List Region) (k : ℕ) (d : Region) → k < length xs → AreApartFrom low xs → low ≤ (slice_index_or xs k d).start
starts_from low [] k d lt apart = absurd (omega (arith, lt))
starts_from low (x ∷ xs) zero d lt apart = apart.0
starts_from low (x ∷ xs) (suc k) d lt apart = let rest = starts_from (x.start + x.pages) xs k d (omega (arith, lt)) apart.2 in omega (arith, rest, apart.0)

-- the tests by start fall
pub partitioned : (page low : ℕ) (xs : List Region) → AreApartFrom low xs → IsPartitionedBy (λ r. nat_lt r.start page) xs
partitioned page low [] apart i j d le lt up = absurd (omega (arith, lt))
partitioned page low (x ∷ xs) apart zero zero d le lt up = up
partitioned page low (x ∷ xs) apart (suc i) zero d le lt up = absurd (omega (arith, le))
partitioned page low (x ∷ xs) apart zero (suc j) d le lt up =
    let later = starts_from (x.start + x.pages) xs j d (omega (arith, lt)) apart.2 in
    grind (arith, later, up)
partitioned page low (x ∷ xs) apart (suc i) (suc j) d le lt up = partitioned page (x.start + x.pages) xs apart.2 i j d (omega (arith, le)) (omega (arith, lt)) up

-- with no region before the page, there is no last one
pub last_none : (page count : ℕ) (xs : List Region) → count ≡ count_before page xs → count ≡ 0 → None ≡ last_before page xs
last_none page count xs is none = elim (last_is page xs) [ inl (c, last) ↦ sym last | inr (k, r, c, last, read) ↦ absurd (omega (arith, is, none, c)) ]

-- an item that is there
pub read_at : (xs : List Region) (k : ℕ) (r : Region) → k < length xs → r ≡ slice_index_or xs k r → slice_get xs k ≡ Some r
read_at [] k r lt is = absurd (omega (arith, lt))
read_at (x ∷ xs) zero r lt is = ap Some (sym is)
read_at (x ∷ xs) (suc k) r lt is = read_at xs k r (omega (arith, lt)) is

-- and else the last one stands before that point
pub last_some : (page count : ℕ) (xs : List Region) (r : Region) → count ≡ count_before page xs → (count ≡ 0 → ⊥) → slice_get xs (count - 1) ≡ Some r → Some r ≡ last_before page xs
last_some page count xs r is some read = elim (last_is page xs) [
  | inl (c, last) ↦ absurd (some (is ∙ c))
  | inr (k, q, c, last, at) ↦
      let same : count - 1 ≡ k = omega (arith, is, c) in
      sym read ∙ ap (slice_get xs) same ∙ at ∙ sym last
]
