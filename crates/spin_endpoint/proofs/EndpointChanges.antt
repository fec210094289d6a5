-- One endpoint of a list is changed, or one is added.
use Rattle.std.proofs.Common.{◌≡◌, ◌≢◌, ◌<◌, ◌⊎◌, ⊎_elim, inl, inr, ℕ, zero, suc, Bool, true, false, cond, List, [], ◌∷◌, ◌++◌, length, map, get_or, set, refl, sym, ap, subst, ◌∙◌, arith}
use Rattle.std.specs.Prelude.{◌&&◌}
use Rattle.std.specs.List.{AllPairs, HoldsAt}
use Rattle.std.proofs.lemmas.Bool.{cases_lt, cases_eq}
use Rattle.std.proofs.lemmas.List.{map-set, length-map, length-set, get_or-set_other, get_or-map, get_or_default}
use Rattle.std.proofs.lemmas.List.Folds.{list_any_at}
use Rattle.std.proofs.lemmas.List.Quantifiers.{all_pairs_push}
use Rattle.std.proofs.lemmas.Grind.{get_or-set_at}
use Rattle.std.proofs.lemmas.Slice.Eq.{bytes_eq-Decides}
use Rattle.spin_endpoint.specs.Named.{NamedEnd, stands_as, stands, changed_as, with_faults, FailsAt}
use Rattle.spin_outside.specs.Counts.{Rose}
use Rattle.std.proofs.lemmas.List.Elements.{All-map}

is_false : (b : Bool) → (b ≡ true → ⊥) → b ≡ false
is_false true never = absurd (never refl)
is_false false never = refl

both_true : (a b : Bool) → (a && b) ≡ true → (a ≡ true) × (b ≡ true)
both_true true true e = (refl, refl)
both_true true false e = cc
both_true false b e = cc

true_both : (a b : Bool) → a ≡ true → b ≡ true → (a && b) ≡ true
true_both true true e f = refl
true_both true false e f = f
true_both false b e f = e

not_both : (b : Bool) → b ≡ true → b ≡ false → ⊥
not_both true is differs = cc
not_both false is differs = cc

-- no two of them stand under the same name
abbrev pub Apart : {X : Type 0} → (X → NamedEnd) → List X → Type 0
Apart view xs = AllPairs (λ a b. (view a).stands ≡ true → (view b).stands ≡ true → (view a).name ≢ (view b).name) xs

names_apart : {X : Type 0} (view : X → NamedEnd) (xs : List X) (at k : ℕ) (d : X) → Apart view xs → at < length xs → k < length xs → k ≢ at
    → (view (get_or xs at d)).stands ≡ true → (view (get_or xs k d)).stands ≡ true → (view (get_or xs at d)).name ≢ (view (get_or xs k d)).name
names_apart view xs at k d apart lt within other sa sk =
    ⊎_elim (λ below. apart at k d below within sa sk) (λ above. λ e. apart k at d (omega (arith, other, above)) lt sk sa (sym e)) (cases_lt at k)

-- Another endpoint than the one that stands under the name doesn't.
others_not : {X : Type 0} (view : X → NamedEnd) (xs : List X) (name : List ℕ) (at k : ℕ) (d : X) → Apart view xs → at < length xs
    → stands_as name (view (get_or xs at d)) ≡ true → k < length xs → k ≢ at → stands_as name (view (get_or xs k d)) ≡ false
others_not view xs name at k d apart lt it within other =
    is_false (stands_as name (view (get_or xs k d))) (λ also.
    let a = both_true _ _ it in
    let b = both_true _ _ also in
    names_apart view xs at k d apart lt within other a.0 b.0
    ((bytes_eq-Decides (view (get_or xs at d)).name name).0 a.1 ∙ sym ((bytes_eq-Decides (view (get_or xs k d)).name name).0 b.1)))

none_changed : {X : Type 0} (view : X → NamedEnd) (xs : List X) (name : List ℕ) (f : NamedEnd → NamedEnd) (d : X)
    → ((k : ℕ) → k < length xs → stands_as name (view (get_or xs k d)) ≡ false) → changed_as name f (map view xs) ≡ map view xs
none_changed view [] name f d none = refl
none_changed view (x ∷ xs) name f d none =
    ap (λ b. cond b (f (view x)) (view x) ∷ changed_as name f (map view xs)) (none 0 (omega arith)) ∙ ap (λ ys. view x ∷ ys) (none_changed view xs name f d (λ k lt. none (suc k) (omega arith)))

one_changed : {X : Type 0} (view : X → NamedEnd) (xs : List X) (name : List ℕ) (f : NamedEnd → NamedEnd) (at : ℕ) (d : X) → at < length xs → stands_as name (view (get_or xs at d)) ≡ true
    → ((k : ℕ) → k < length xs → k ≢ at → stands_as name (view (get_or xs k d)) ≡ false) → changed_as name f (map view xs) ≡ set (map view xs) at (f (view (get_or xs at d)))
one_changed view [] name f at d lt it others = absurd (omega arith)
one_changed view (x ∷ xs) name f zero d lt it others =
    ap (λ b. cond b (f (view x)) (view x) ∷ changed_as name f (map view xs)) it ∙ ap (λ ys. f (view x) ∷ ys) (none_changed view xs name f d (λ k within. others (suc k) (omega arith) (omega arith)))
one_changed view (x ∷ xs) name f (suc at) d lt it others =
    ap (λ b. cond b (f (view x)) (view x) ∷ changed_as name f (map view xs)) (others 0 (omega arith) (omega arith))
    ∙ ap (λ ys. view x ∷ ys) (one_changed view xs name f at d (omega arith) it (λ k within other. others (suc k) (omega arith) (omega (arith, other))))

-- the endpoint at a place, which stands under the name
stands_there : {X : Type 0} (view : X → NamedEnd) (xs : List X) (name : List ℕ) (at : ℕ) (old : X) → at < length xs
    → HoldsAt (λ end. stands_as name end ≡ true) (map view xs) at → stands_as name (view (get_or xs at old)) ≡ true
stands_there view xs name at old lt holds = ap (λ y. stands_as name y) (sym (get_or-map view xs at old (view old) lt)) ∙ holds (view old)

-- it is changed, and no other
pub changed_at : {X : Type 0} (view : X → NamedEnd) (xs : List X) (name : List ℕ) (f : NamedEnd → NamedEnd) (at : ℕ) (old new : X) → Apart view xs → at < length (map view xs) → old ≡ get_or xs at old
    → HoldsAt (λ end. stands_as name end ≡ true) (map view xs) at → view new ≡ f (view old) → (stands name (map view xs) ≡ true) × (map view (set xs at new) ≡ changed_as name f (map view xs))
changed_at view xs name f at old new apart there read holds is =
    let lt : at < length xs = omega (arith, there, length-map xs view) in
    let it : stands_as name (view (get_or xs at old)) ≡ true = stands_there view xs name at old lt holds in (
      list_any_at (stands_as name) (map view xs) at (view old) there (holds (view old)),
      map-set view xs at new ∙ ap (λ y. set (map view xs) at y) (is ∙ ap (λ x. f (view x)) read)
          ∙ sym (one_changed view xs name f at old lt it (λ k within other. others_not view xs name at k old apart lt it within other)),
    )

-- it failed
pub fails_at : {X : Type 0} (view : X → NamedEnd) (xs : List X) (name : List ℕ) (at : ℕ) (old new : X) → Apart view xs → at < length (map view xs)
    → old ≡ get_or xs at old → HoldsAt (λ end. stands_as name end ≡ true) (map view xs) at → view new ≡ with_faults (view new).object.faults (view old)
    → Rose (view old).object.faults (view new).object.faults → (stands name (map view xs) ≡ true) × FailsAt name (map view xs) (map view (set xs at new))
fails_at view xs name at old new apart there read holds is rose =
    let lt : at < length xs = omega (arith, there, length-map xs view) in
    let it : stands_as name (view (get_or xs at old)) ≡ true = stands_there view xs name at old lt holds in
    let changed = changed_at view xs name (with_faults (view new).object.faults) at old new apart there read holds is in (
      changed.0,
      record {
        faults = (view new).object.faults;
        rose = All-map (λ end. stands_as name end ≡ true → Rose end.object.faults (view new).object.faults) view xs (λ k d within stands_too.
            ⊎_elim
            (λ same. subst (λ (x : _). Rose (view x).object.faults (view new).object.faults) (read ∙ get_or_default xs at old d lt ∙ ap (λ n. get_or xs n d) (sym same)) rose)
            (λ other. absurd (not_both _ stands_too (others_not view xs name at k d apart lt (ap (λ x. stands_as name (view x)) (get_or_default xs at d old lt) ∙ it) within other)))
            (cases_eq k at));
        others = changed.1;
      },
    )

-- under the name of an endpoint at a place one stands
pub stands_at : (ends : List NamedEnd) (name : List ℕ) (at : ℕ) → at < length ends → HoldsAt (λ end. stands_as name end ≡ true) ends at → stands name ends ≡ true
stands_at [] name at lt holds = absurd (omega arith)
stands_at (end ∷ ends) name at lt holds = list_any_at (stands_as name) (end ∷ ends) at end lt (holds end)

-- At each place there is the old or the new one, or what there was.
at_place : {X : Type 0} (xs : List X) (at k : ℕ) (old new d : X) → at < length xs → old ≡ get_or xs at old
    → ((get_or (set xs at new) k d ≡ new) × (get_or xs k d ≡ old)) ⊎ (get_or (set xs at new) k d ≡ get_or xs k d)
at_place xs at k old new d lt read =
    ⊎_elim
    (λ same. inl (get_or-set_at xs at k new d same lt, ap (λ n. get_or xs n d) same ∙ get_or_default xs at d old lt ∙ sym read))
    (λ other. inr (get_or-set_other xs at k new d other))
    (cases_eq k at)

same_stands : {X : Type 0} (view : X → NamedEnd) (xs : List X) (at k : ℕ) (old new d : X) → at < length xs → old ≡ get_or xs at old
    → ((view new).stands ≡ true → (view old).stands ≡ true) → (view (get_or (set xs at new) k d)).stands ≡ true → (view (get_or xs k d)).stands ≡ true
same_stands view xs at k old new d lt read keeps now =
    ⊎_elim
    (λ same. ap (λ x. (view x).stands) same.1 ∙ keeps (ap (λ x. (view x).stands) (sym same.0) ∙ now))
    (λ other. ap (λ x. (view x).stands) (sym other) ∙ now)
    (at_place xs at k old new d lt read)

same_name : {X : Type 0} (view : X → NamedEnd) (xs : List X) (at k : ℕ) (old new d : X) → at < length xs → old ≡ get_or xs at old
    → (view new).name ≡ (view old).name → (view (get_or (set xs at new) k d)).name ≡ (view (get_or xs k d)).name
same_name view xs at k old new d lt read keeps =
    ⊎_elim
    (λ same. ap (λ x. (view x).name) same.0 ∙ keeps ∙ ap (λ x. (view x).name) (sym same.1))
    (λ other. ap (λ x. (view x).name) other)
    (at_place xs at k old new d lt read)

-- a change that keeps the name, and lets none stand that didn't
pub apart-set : {X : Type 0} (view : X → NamedEnd) (xs : List X) (at : ℕ) (old new : X) → Apart view xs → at < length xs → old ≡ get_or xs at old
    → ((view new).stands ≡ true → (view old).stands ≡ true) → (view new).name ≡ (view old).name → Apart view (set xs at new)
apart-set view xs at old new apart lt read stands_too named = λ i j d below within si sj e.
    let inside : j < length xs = omega (arith, within, length-set xs at new) in
    apart i j d below inside (same_stands view xs at i old new d lt read stands_too si) (same_stands view xs at j old new d lt read stands_too sj)
    (sym (same_name view xs at i old new d lt read named) ∙ e ∙ same_name view xs at j old new d lt read named)

-- one more, under a name under which none stands
pub apart-push : {X : Type 0} (view : X → NamedEnd) (xs : List X) (new : X) → Apart view xs → stands (view new).name (map view xs) ≡ false → Apart view (xs ++ new ∷ [])
apart-push view xs new apart none =
    all_pairs_push (λ a b. (view a).stands ≡ true → (view b).stands ≡ true → (view a).name ≢ (view b).name) xs new apart (λ k d lt sa sb e.
    let it : stands_as (view new).name (view (get_or xs k d)) ≡ true = true_both _ _ sa ((bytes_eq-Decides (view (get_or xs k d)).name (view new).name).1 e) in
    let inside : k < length (map view xs) = omega (arith, lt, length-map xs view) in
    not_both _ (list_any_at (stands_as (view new).name) (map view xs) k (view d) inside (ap (λ y. stands_as (view new).name y) (get_or-map view xs k d (view d) lt) ∙ it)) none)

-- after a push that may have found no memory
pub apart-pushed : {X : Type 0} (view : X → NamedEnd) (xs : List X) (new : X) (pushed : Bool) → Apart view xs
    → stands (view new).name (map view xs) ≡ false → Apart view (cond pushed (xs ++ new ∷ []) xs)
apart-pushed view xs new true apart none = apart-push view xs new apart none
apart-pushed view xs new false apart none = apart

-- what holds of the endpoint that was read at a place holds at that place
pub holds_at : {X : Type 0} (view : X → NamedEnd) (xs : List X) (P : NamedEnd → Type 0) (at : ℕ) (x : X) → at < length (map view xs) → x ≡ get_or xs at x → P (view x) → HoldsAt P (map view xs) at
holds_at view xs P at x there read p d =
    let lt : at < length xs = omega (arith, there, length-map xs view) in
    subst P (ap view read ∙ sym (get_or-map view xs at x d lt)) p
