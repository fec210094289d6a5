-- Bindings that go turn by turn are in the order.
use Rattle.std.proofs.Common.{◌≡◌, ℕ, zero, suc, ◌<◌, ◌≤◌, Bool, true, false, not, cond, List, [], ◌∷◌, length, get_or, refl, sym, ap, subst, ◌∙◌, inl, inr, arith}
use Rattle.std.specs.Prelude.{◌==◌, filter, find, Option, None, Some}
use Rattle.std.specs.List.{All, AllPairs, Contains, list_any, cons_option}
use Rattle.std.specs.List.Sorted.{IsPermutation}
use Rattle.std.specs.Option.{option_map_or}
use Rattle.std.proofs.lemmas.Bool.{cases_Bool, eq-eqb, ne_eqb}
use Rattle.std.proofs.lemmas.Option.{same_Some}
use Rattle.std.proofs.lemmas.List.{get_or-map, get_or_default, length-map, nil_from_length}
use Rattle.std.proofs.lemmas.List.Elements.{All-nil, All-cons, All-head, All-tail, All-filter, All-contains, All-contains_itself}
use Rattle.std.proofs.lemmas.List.Folds.{list_any_none, Any-from_list_any, list_any-from_Any}
use Rattle.std.proofs.lemmas.List.Kept.{AllPairs-filter}
use Rattle.std.proofs.lemmas.List.Sorted.{IsPermutation-refl, IsPermutation-sym, IsPermutation-trans, IsPermutation-cons, IsPermutation-middle, length_permutation, All-permutation, Contains-permutation}
use Rattle.spin_place.specs.declared.binding.Binding.{Binding}
use Rattle.spin_place.specs.Orders.{AreDistinct, IsLawfulOrder, IsLeastOrder}
use Rattle.spin_place.specs.Precedence.{must_precede, numbers_of, MustPrecede, IsTheOrder, HasLawfulOrder}
use Rattle.spin_place.proofs.NumberLists.{AllPairs-head, AllPairs-tail, Contains-here, Contains-there}
use Rattle.spin_place.proofs.Precedences.{MustPrecede-irreflexive, MustPrecede-from, MustPrecede-at, Contains-number}
use Rattle.spin_place.proofs.LawfulOrders.{IsLeastOrder-nil, IsLeastOrder-cons}
use Rattle.spin_table.proofs.LawfulOrders.{map-filter, IsPermutation-filter}
use Rattle.spin_place.proofs.OrderLaws.{IsTheOrder-unique}
use Rattle.spin_table.specs.States.{binding_of}
use Rattle.spin_table.specs.Orders.{arranged}
use Rattle.spin_table.proofs.ArrangedBindings.{Contains-find}
use Rattle.spin_plain.specs.Order.{is_ready, all_but, in_turns, in_order}

-- ---- the first of a list that passes a test

pub keep_all : {X : Type 0} (p : X → Bool) (xs : List X) → All (λ x. p x ≡ true) xs → filter p xs ≡ xs
keep_all p [] all = refl
keep_all p (x ∷ xs) all =
    ap (λ b. cond b (x ∷ filter p xs) (filter p xs)) (All-head (λ y. p y ≡ true) x xs all) ∙ ap (λ ys. x ∷ ys) (keep_all p xs (All-tail (λ y. p y ≡ true) x xs all))

-- what is found is an element, and passes
record IsFound {X : Type 0} (p : X → Bool) (xs : List X) (x : X) : Type 0 where
  inside : Contains xs x
  passes : p x ≡ true

found : {X : Type 0} (p : X → Bool) (xs : List X) (x : X) → find p xs ≡ Some x → IsFound p xs x
found p [] x e = absurd (cc (e))
found p (y ∷ ys) x e = go (found p ys x) (p y) refl e
  where
    go : (find p ys ≡ Some x → IsFound p ys x) → (b : Bool) → p y ≡ b → cond b (Some y) (find p ys) ≡ Some x → IsFound p (y ∷ ys) x
    go later true is same = let one : y ≡ x = same_Some y x same in record { inside = (0, omega arith, one); passes = sym (ap p one) ∙ is }
    go later false is same = let rest = later same in record { inside = Contains-there x y ys rest.inside; passes = rest.passes }

-- where none is found, none passes
none_found : {X : Type 0} (p : X → Bool) (xs : List X) (x : X) → find p xs ≡ None → Contains xs x → p x ≡ true → ⊥
none_found p [] x e at passes = absurd (omega (arith, at.1))
none_found p (y ∷ ys) x e at passes = go (λ same there. none_found p ys x same there passes) (p y) refl e at
  where
    go : (find p ys ≡ None → Contains ys x → ⊥) → (b : Bool) → p y ≡ b → cond b (Some y) (find p ys) ≡ None → Contains (y ∷ ys) x → ⊥
    go later true is same at = cc
    go later false is same (zero, inside, here) = let no : false ≡ true = sym is ∙ ap p here ∙ passes in absurd (cc (no))
    go later false is same (suc k, inside, here) = later same (k, omega arith, here)

-- of bindings that rise by number, the one that is found has the least number of those that pass
found_least : (p : Binding → Bool) (bs : List Binding) (b c : Binding) → AllPairs (λ m n. m < n) (numbers_of bs) → find p bs ≡ Some b
    → Contains bs c → p c ≡ true → b.number ≤ c.number
found_least p [] b c rise e at passes = absurd (omega (arith, at.1))
found_least p (x ∷ xs) b c rise e at passes =
    go (λ same there. found_least p xs b c (AllPairs-tail (λ m n. m < n) x.number (numbers_of xs) rise) same there passes) (p x) refl e at
  where
    go : (find p xs ≡ Some b → Contains xs c → b.number ≤ c.number) → (t : Bool) → p x ≡ t → cond t (Some x) (find p xs) ≡ Some b
        → Contains (x ∷ xs) c → b.number ≤ c.number
    go later true is same (zero, inside, here) = let one : x ≡ b = same_Some x b same in omega (arith, ap (λ (y : Binding). y.number) one, ap (λ (y : Binding). y.number) here)
    go later true is same (suc k, inside, here) =
        let one : x ≡ b = same_Some x b same in
        let there = Contains-number xs c (k, omega arith, here) in
        let less = All-contains (λ n. x.number < n) (numbers_of xs) c.number (AllPairs-head (λ m n. m < n) x.number (numbers_of xs) rise) there in
        omega (arith, less, ap (λ (y : Binding). y.number) one)
    go later false is same (zero, inside, here) = let no : false ≡ true = sym is ∙ ap p here ∙ passes in absurd (cc (no))
    go later false is same (suc k, inside, here) = later same (k, omega arith, here)

-- ---- all bindings but one

pub distinct-from_pairs : (ns : List ℕ) → AllPairs (λ m n. m < n) ns → AreDistinct ns
distinct-from_pairs ns rise = λ i j d l m same. absurd (omega (arith, rise i j d l m))

others_numbered : (number : ℕ) (bs : List Binding) → numbers_of (all_but number bs) ≡ filter (λ n. not (n == number)) (numbers_of bs)
others_numbered number bs = map-filter (λ (b : Binding). b.number) (λ n. not (n == number)) bs

rise_without : (number : ℕ) (bs : List Binding) → AllPairs (λ m n. m < n) (numbers_of bs) → AllPairs (λ m n. m < n) (numbers_of (all_but number bs))
rise_without number bs rise =
    subst (AllPairs (λ m n. m < n)) (sym (others_numbered number bs)) (AllPairs-filter (λ m n. m < n) (λ n. not (n == number)) (numbers_of bs) rise)

to_front_by_number : (bs : List Binding) (b : Binding) → AreDistinct (numbers_of bs) → Contains bs b → IsPermutation (numbers_of bs) (b.number ∷ numbers_of (all_but b.number bs))
to_front_by_number [] b distinct at = absurd (omega (arith, at.1))
to_front_by_number (c ∷ cs) b distinct (zero, inside, here) =
    let apart = AllPairs-head (λ m n. m ≡ n → ⊥) c.number (numbers_of cs) distinct in
    let number : c.number ≡ b.number = ap (λ (x : Binding). x.number) here in
    let kept : all_but b.number cs ≡ cs = keep_all (λ (x : Binding). not (x.number == b.number)) cs (λ k d l.
    let other = apart k d.number (omega (arith, length-map cs (λ (x : Binding). x.number))) in
    ap not (ne_eqb (get_or cs k d).number b.number (λ same. other (number ∙ sym same ∙ sym (get_or-map (λ (x : Binding). x.number) cs k d d.number l))))) in
    let all : all_but b.number (c ∷ cs) ≡ cs = ap (λ t. cond (not t) (c ∷ all_but b.number cs) (all_but b.number cs)) (eq-eqb c.number b.number number) ∙ kept in
    subst (λ xs. IsPermutation (numbers_of (c ∷ cs)) (b.number ∷ numbers_of xs)) (sym all) (subst (λ n. IsPermutation (numbers_of (c ∷ cs)) (n ∷ numbers_of cs)) number (IsPermutation-refl (numbers_of (c ∷ cs))))
to_front_by_number (c ∷ cs) b distinct (suc k, inside, here) =
    let at : Contains cs b = (k, omega arith, here) in
    let other : c.number ≡ b.number → ⊥ = λ same. All-contains (λ n. c.number ≡ n → ⊥) (numbers_of cs) b.number (AllPairs-head (λ m n. m ≡ n → ⊥) c.number (numbers_of cs) distinct) (Contains-number cs b at) same in
    let rest = to_front_by_number cs b (AllPairs-tail (λ m n. m ≡ n → ⊥) c.number (numbers_of cs) distinct) at in
    let all : all_but b.number (c ∷ cs) ≡ c ∷ all_but b.number cs = ap (λ t. cond (not t) (c ∷ all_but b.number cs) (all_but b.number cs)) (ne_eqb c.number b.number other) in
    subst (λ xs. IsPermutation (numbers_of (c ∷ cs)) (b.number ∷ numbers_of xs)) (sym all)
    (IsPermutation-trans (numbers_of (c ∷ cs)) (c.number ∷ (b.number ∷ numbers_of (all_but b.number cs))) (b.number ∷ (c.number ∷ numbers_of (all_but b.number cs)))
    (IsPermutation-cons c.number (numbers_of cs) (b.number ∷ numbers_of (all_but b.number cs)) rest)
    (IsPermutation-middle (c.number ∷ []) b.number (numbers_of (all_but b.number cs))))

-- ---- turn by turn

at_place : (bs : List Binding) (k : ℕ) → k < length bs → (b : Binding) × (get_or bs k b ≡ b)
at_place [] k inside = absurd (omega arith)
at_place (b ∷ bs) zero inside = (b, refl)
at_place (b ∷ bs) (suc k) inside = at_place bs k (omega arith)

ready_from : (bs : List Binding) (b : Binding) → All (λ c. must_precede c b ≡ false) bs → is_ready bs b ≡ true
ready_from bs b none = ap not (list_any_none (λ c. must_precede c b) bs none)

module _ (all : List Binding) (distinct : AreDistinct (numbers_of all)) where
  -- none of the numbers of these bindings must precede that of one that is ready
  ready_numbers : (bs : List Binding) (b : Binding) → All (Contains all) bs → Contains bs b → is_ready bs b ≡ true
      → All (λ z. MustPrecede all z b.number → ⊥) (numbers_of bs)
  ready_numbers bs b within at ready k d l must =
      let inside : k < length bs = omega (arith, length-map bs (λ (x : Binding). x.number)) in
      let c = get_or bs k b in
      let number : get_or (numbers_of bs) k d ≡ c.number = get_or-map (λ (x : Binding). x.number) bs k b d inside in
      let first : Contains all c = within k b inside in
      let precedes : must_precede c b ≡ true =
      MustPrecede-at all c b distinct first (All-contains (Contains all) bs b within at) (subst (λ z. MustPrecede all z b.number) number must) in
      let any : list_any (λ x. must_precede x b) bs ≡ true = list_any-from_Any (λ x. must_precede x b) bs (k, c, inside, sym (get_or_default bs k b c inside), precedes) in
      let no : not true ≡ true = sym (ap not any) ∙ ready in
      cc (no)

  -- and one is ready whose number none of them must precede
  ready_by_number : (bs : List Binding) (b : Binding) → All (Contains all) bs → Contains bs b
      → All (λ z. MustPrecede all z b.number → ⊥) (numbers_of bs) → is_ready bs b ≡ true
  ready_by_number bs b within at none =
      elim (cases_Bool (list_any (λ x. must_precede x b) bs)) [
        | inl any ↦
            let one = Any-from_list_any (λ x. must_precede x b) bs any in
            let there : Contains bs one.1 = (one.0, one.2, one.3) in
            absurd (All-contains (λ z. MustPrecede all z b.number → ⊥) (numbers_of bs) one.1.number none (Contains-number bs one.1 there)
            (MustPrecede-from all one.1 b (All-contains (Contains all) bs one.1 within there) (All-contains (Contains all) bs b within at) one.4))
        | inr none_of ↦ ap not none_of
      ]

  -- what is placed first, where something is
  module _ (bs : List Binding) (b : Binding) (within : All (Contains all) bs) (rise : AllPairs (λ m n. m < n) (numbers_of bs))
      (first : IsFound (is_ready bs) bs b) where
    apart : AreDistinct (numbers_of bs)
    apart = distinct-from_pairs (numbers_of bs) rise

    others_within : All (Contains all) (all_but b.number bs)
    others_within = All-filter (λ (c : Binding). not (c.number == b.number)) (Contains all) bs within

    others_few : (n : ℕ) → length bs ≡ suc n → length (all_but b.number bs) ≡ n
    others_few n size =
        omega (
          arith,
          size,
          length_permutation (numbers_of bs) (b.number ∷ numbers_of (all_but b.number bs)) (to_front_by_number bs b apart first.inside),
          length-map bs (λ (c : Binding). c.number),
          length-map (all_but b.number bs) (λ (c : Binding). c.number),
        )

    others_lawful : (ms : List ℕ) → IsLawfulOrder (MustPrecede all) (numbers_of bs) ms
        → IsLawfulOrder (MustPrecede all) (numbers_of (all_but b.number bs)) (filter (λ n. not (n == b.number)) ms)
    others_lawful ms lawful = (
      subst (λ ns. IsPermutation ns (filter (λ n. not (n == b.number)) ms)) (sym (others_numbered b.number bs))
          (IsPermutation-filter (λ n. not (n == b.number)) (numbers_of bs) ms lawful.0),
      AllPairs-filter (λ m n. MustPrecede all n m → ⊥) (λ n. not (n == b.number)) ms lawful.1,
    )

    first_in_order : find (is_ready bs) bs ≡ Some b → (ns : List ℕ) → IsLeastOrder (MustPrecede all) (numbers_of (all_but b.number bs)) ns
        → IsLeastOrder (MustPrecede all) (numbers_of bs) (b.number ∷ ns)
    first_in_order is ns rest =
        IsLeastOrder-cons (MustPrecede all) (MustPrecede-irreflexive all) (numbers_of bs) (numbers_of (all_but b.number bs)) ns b.number
        (to_front_by_number bs b apart first.inside) (ready_numbers bs b within first.inside first.passes) least rest
      where
        least : (y : ℕ) → Contains (numbers_of bs) y → All (λ z. MustPrecede all z y → ⊥) (numbers_of bs) → b.number ≤ y
        least y (k, l, e) none =
            let inside : k < length bs = omega (arith, length-map bs (λ (x : Binding). x.number)) in
            let c = get_or bs k b in
            let number : c.number ≡ y = sym (get_or-map (λ (x : Binding). x.number) bs k b y inside) ∙ e in
            let at : Contains bs c = (k, inside, sym (get_or_default bs k b c inside)) in
            let ready = ready_by_number bs c within at (subst (λ m. All (λ z. MustPrecede all z m → ⊥) (numbers_of bs)) (sym number) none) in
            omega (arith, number, found_least (is_ready bs) bs b c rise is at ready)

  -- where all go, they go in the least order
  all_go : (n : ℕ) (bs : List Binding) → All (Contains all) bs → AllPairs (λ m n. m < n) (numbers_of bs) → length bs ≡ n
      → length (in_turns n bs) ≡ n → IsLeastOrder (MustPrecede all) (numbers_of bs) (numbers_of (in_turns n bs))
  all_go zero bs within rise size whole =
      subst (λ xs. IsLeastOrder (MustPrecede all) (numbers_of xs) []) (sym (nil_from_length bs size)) (IsLeastOrder-nil (MustPrecede all))
  all_go (suc n) bs within rise size whole = go (λ cs. all_go n cs) (find (is_ready bs) bs) refl whole
    where
      go : ((cs : List Binding) → All (Contains all) cs → AllPairs (λ m n. m < n) (numbers_of cs) → length cs ≡ n
          → length (in_turns n cs) ≡ n → IsLeastOrder (MustPrecede all) (numbers_of cs) (numbers_of (in_turns n cs)))
          → (o : Option Binding) → find (is_ready bs) bs ≡ o
          → length (option_map_or (λ b. b ∷ in_turns n (all_but b.number bs)) o []) ≡ suc n
          → IsLeastOrder (MustPrecede all) (numbers_of bs) (numbers_of (option_map_or (λ b. b ∷ in_turns n (all_but b.number bs)) o []))
      go later None is count = absurd (omega (arith, count))
      go later (Some b) is count =
          let first = found (is_ready bs) bs b is in
          first_in_order bs b within rise first is (numbers_of (in_turns n (all_but b.number bs)))
          (later (all_but b.number bs) (others_within bs b within rise first) (rise_without b.number bs rise) (others_few bs b within rise first n size) (omega (arith, count)))

  -- and where there is a lawful order, all go
  all_can_go : (n : ℕ) (bs : List Binding) (ms : List ℕ) → All (Contains all) bs → AllPairs (λ m n. m < n) (numbers_of bs) → length bs ≡ n
      → IsLawfulOrder (MustPrecede all) (numbers_of bs) ms → length (in_turns n bs) ≡ n
  all_can_go zero bs ms within rise size lawful = refl
  all_can_go (suc n) bs [] within rise size lawful =
      absurd (omega (arith, length_permutation (numbers_of bs) [] lawful.0, length-map bs (λ (b : Binding). b.number)))
  all_can_go (suc n) bs (m ∷ ms) within rise size lawful = go (λ cs. all_can_go n cs) (find (is_ready bs) bs) refl
    where
      none_before : All (λ z. MustPrecede all z m → ⊥) (numbers_of bs)
      none_before =
          All-permutation (λ z. MustPrecede all z m → ⊥) (m ∷ ms) (numbers_of bs) (IsPermutation-sym (numbers_of bs) (m ∷ ms) lawful.0)
          (All-cons (λ z. MustPrecede all z m → ⊥) m ms (MustPrecede-irreflexive all m) (AllPairs-head (λ a b. MustPrecede all b a → ⊥) m ms lawful.1))

      some_ready : find (is_ready bs) bs ≡ None → ⊥
      some_ready none =
          let at = Contains-permutation (m ∷ ms) (numbers_of bs) m (IsPermutation-sym (numbers_of bs) (m ∷ ms) lawful.0) (Contains-here m ms) in
          let inside : at.0 < length bs = omega (arith, at.1, length-map bs (λ (x : Binding). x.number)) in
          let c = at_place bs at.0 inside in
          let number : c.0.number ≡ m = sym (get_or-map (λ (x : Binding). x.number) bs at.0 c.0 m inside ∙ ap (λ (x : Binding). x.number) c.1) ∙ at.2 in
          let there : Contains bs c.0 = (at.0, inside, c.1) in
          none_found (is_ready bs) bs c.0 none there
          (ready_by_number bs c.0 within there (subst (λ k. All (λ z. MustPrecede all z k → ⊥) (numbers_of bs)) (sym number) none_before))

      go : ((cs : List Binding) (ks : List ℕ) → All (Contains all) cs → AllPairs (λ m n. m < n) (numbers_of cs) → length cs ≡ n
          → IsLawfulOrder (MustPrecede all) (numbers_of cs) ks → length (in_turns n cs) ≡ n)
          → (o : Option Binding) → find (is_ready bs) bs ≡ o → length (option_map_or (λ b. b ∷ in_turns n (all_but b.number bs)) o []) ≡ suc n
      go later None is = absurd (some_ready is)
      go later (Some b) is =
          let first = found (is_ready bs) bs b is in
          ap suc (later (all_but b.number bs) (filter (λ k. not (k == b.number)) (m ∷ ms)) (others_within bs b within rise first)
          (rise_without b.number bs rise) (others_few bs b within rise first n size) (others_lawful bs b within rise first (m ∷ ms) lawful))

-- ---- the bindings in their order

in_turns_within : (P : Binding → Type 0) (n : ℕ) (bs : List Binding) → All P bs → All P (in_turns n bs)
in_turns_within P zero bs all = All-nil P
in_turns_within P (suc n) bs all = go (λ cs. in_turns_within P n cs) (find (is_ready bs) bs) refl
  where
    go : ((cs : List Binding) → All P cs → All P (in_turns n cs)) → (o : Option Binding) → find (is_ready bs) bs ≡ o
        → All P (option_map_or (λ b. b ∷ in_turns n (all_but b.number bs)) o [])
    go later None is = All-nil P
    go later (Some b) is =
        All-cons P b (in_turns n (all_but b.number bs)) (All-contains P bs b all (Contains-find (is_ready bs) bs b is))
        (later (all_but b.number bs) (All-filter (λ (c : Binding). not (c.number == b.number)) P bs all))

-- a binding is found by its number
found_by_number : (bs : List Binding) (b : Binding) → AreDistinct (numbers_of bs) → Contains bs b → binding_of bs b.number ≡ Some b
found_by_number [] b distinct at = absurd (omega (arith, at.1))
found_by_number (c ∷ cs) b distinct (zero, inside, here) =
    ap (λ t. cond t (Some c) (binding_of cs b.number)) (eq-eqb c.number b.number (ap (λ (x : Binding). x.number) here)) ∙ ap Some here
found_by_number (c ∷ cs) b distinct (suc k, inside, here) =
    let at : Contains cs b = (k, omega arith, here) in
    let other : c.number ≡ b.number → ⊥ =
    λ same. All-contains (λ n. c.number ≡ n → ⊥) (numbers_of cs) b.number (AllPairs-head (λ m n. m ≡ n → ⊥) c.number (numbers_of cs) distinct) (Contains-number cs b at) same in
    ap (λ t. cond t (Some c) (binding_of cs b.number)) (ne_eqb c.number b.number other)
    ∙ found_by_number cs b (AllPairs-tail (λ m n. m ≡ n → ⊥) c.number (numbers_of cs) distinct) at

arranged_by_number : (bs cs : List Binding) → AreDistinct (numbers_of bs) → All (Contains bs) cs → arranged bs (numbers_of cs) ≡ cs
arranged_by_number bs [] distinct within = refl
arranged_by_number bs (c ∷ cs) distinct within =
    ap (λ o. cons_option o (arranged bs (numbers_of cs))) (found_by_number bs c distinct (All-head (Contains bs) c cs within))
    ∙ ap (λ xs. c ∷ xs) (arranged_by_number bs cs distinct (All-tail (Contains bs) c cs within))

module _ (bs : List Binding) (rise : AllPairs (λ m n. m < n) (numbers_of bs)) where
  distinct : AreDistinct (numbers_of bs)
  distinct = distinct-from_pairs (numbers_of bs) rise

  -- where a lawful order is, all bindings go
  pub whole-in_order : HasLawfulOrder bs → length (in_order bs) ≡ length bs
  whole-in_order (ns, lawful) = all_can_go bs distinct (length bs) bs ns (All-contains_itself bs) rise refl lawful

  -- and where all go, they go in the order
  pub IsTheOrder-in_order : length (in_order bs) ≡ length bs → IsTheOrder bs (numbers_of (in_order bs))
  IsTheOrder-in_order whole = all_go bs distinct (length bs) bs (All-contains_itself bs) rise refl whole

  -- so they go as the order arranges them
  pub arranged_is : (ns : List ℕ) → IsTheOrder bs ns → arranged bs ns ≡ in_order bs
  arranged_is ns order =
      let mine = IsTheOrder-in_order (whole-in_order (ns, order.0)) in
      ap (arranged bs) (IsTheOrder-unique bs ns (numbers_of (in_order bs)) order mine)
      ∙ arranged_by_number bs (in_order bs) distinct (in_turns_within (Contains bs) (length bs) bs (All-contains_itself bs))
