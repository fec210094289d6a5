-- Bindings that name no others: no cycle is among them, and their order changes no count.
use Rattle.std.proofs.Common.{◌≡◌, ◌∙◌, ◌<◌, ◌+◌, ℕ, Bool, true, false, not, ◌&&◌, ◌||◌, cond, List, [], ◌∷◌, refl, sym, ap, arith}
use Rattle.std.specs.Prelude.{◌==◌, Option, Some, None, IsTrue, IfSome, All, Contains, IsPermutation, find, count_by, sum_by}
use Rattle.std.specs.List.{list_any, cons_option, AllByRecursion}
use Rattle.std.specs.Option.{option_map_or}
use Rattle.std.proofs.lemmas.Bool.Decides.{nat_tests}
use Rattle.std.proofs.lemmas.List.Elements.{All-nil, All-cons, All-head, All-tail, All-contains, All-contains_itself, recursion_from_All}
use Rattle.std.proofs.lemmas.List.Sums.{sum_by-cons}
use Rattle.std.proofs.lemmas.List.Sorted.{sum_by-IsPermutation}
use Rattle.spin_word.specs.Commands.{no_number}
use Rattle.spin_word.specs.declared.command.Place.{Place}
use Rattle.spin_word.specs.declared.command.Place.TheVariants as place
use Rattle.spin_place.specs.declared.binding.Binding.{Binding}
use Rattle.spin_place.specs.Orders.{AreDistinct, Leads, IsRing}
use Rattle.spin_place.specs.Precedence.{is_first, is_last, names, must_precede, numbers_of, MustPrecede, IsCycle}
use Rattle.spin_table.specs.States.{binding_of}
use Rattle.spin_table.specs.Steps.{no_numbers}
use Rattle.spin_table.specs.Orders.{arranged}
use Rattle.spin_table.proofs.BindingSoundness.{found_is}

-- the binding goes before and after none that it names
pub record NamesNone (b : Binding) : Type 0 where
  pub before : b.before ≡ no_numbers
  pub after : b.after ≡ no_numbers

-- ---- no cycle

names_none : (n : ℕ) → names no_numbers n ≡ false
names_none n = go (n == no_number) refl
  where
    go : (t : Bool) → (n == no_number) ≡ t → (not t && list_any (λ m. m == n) no_numbers) ≡ false
    go true is = refl
    go false is =
        let other : (no_number == n) ≡ false = grind (arith, nat_tests, is) in
        rw other refl

-- where a place lies
rank : Place → ℕ
rank place.First = 0
rank place.Free = 1
rank place.Last = 2

by_places : (t : Bool) (p q : Place) → (not t && (is_first p && not (is_first q) || is_last q && not (is_last p) || false || false)) ≡ true → rank p < rank q
unfolding rank
by_places true p q e = cc
by_places false place.Free place.Free e = cc
by_places false place.Free place.First e = cc
by_places false place.Free place.Last e = omega arith
by_places false place.First place.Free e = omega arith
by_places false place.First place.First e = cc
by_places false place.First place.Last e = omega arith
by_places false place.Last place.Free e = cc
by_places false place.Last place.First e = cc
by_places false place.Last place.Last e = cc

must_rise : (b c : Binding) → NamesNone b → NamesNone c → IsTrue (must_precede b c) → rank b.place < rank c.place
must_rise b c h g must =
    let before : names b.before c.number ≡ false = ap (λ (ns : List ℕ). names ns c.number) h.before ∙ names_none c.number in
    let after : names c.after b.number ≡ false = ap (λ (ns : List ℕ). names ns b.number) g.after ∙ names_none b.number in
    by_places (b.number == c.number) b.place c.place
    (sym (λ i. not (b.number == c.number) && (is_first b.place && not (is_first c.place) || is_last c.place && not (is_last b.place) || before i || after i)) ∙ must)

rank_of : List Binding → ℕ → ℕ
rank_of bs n = option_map_or (λ (b : Binding). rank b.place) (binding_of bs n) 0

rank_found : (bs : List Binding) (b : Binding) (n : ℕ) → AreDistinct (numbers_of bs) → Contains bs b → b.number ≡ n → rank_of bs n ≡ rank b.place
unfolding rank_of
rank_found bs b n distinct there is =
    ap (λ (m : ℕ). option_map_or (λ (x : Binding). rank x.place) (binding_of bs m) 0) (sym is)
    ∙ ap (λ (o : Option Binding). option_map_or (λ (x : Binding). rank x.place) o 0) (found_is bs b distinct there)

must_rank : (bs : List Binding) (m n : ℕ) → AreDistinct (numbers_of bs) → All NamesNone bs → MustPrecede bs m n → rank_of bs m < rank_of bs n
must_rank bs m n distinct all (k, b, l, e, (is, (j, c, i, f, (is', must)))) =
    let first = rank_found bs b m distinct (k, l, e) is in
    let second = rank_found bs c n distinct (j, i, f) is' in
    let rise = must_rise b c (All-contains NamesNone bs b all (k, l, e)) (All-contains NamesNone bs c all (j, i, f)) must in
    omega (arith, first, second, rise)

leads_rank : (bs : List Binding) (m n : ℕ) (ns : List ℕ) → AreDistinct (numbers_of bs) → All NamesNone bs → Leads (MustPrecede bs) m ns n → rank_of bs m < rank_of bs n
leads_rank bs m n [] distinct all h = must_rank bs m n distinct all h
leads_rank bs m n (x ∷ ns) distinct all h =
    let first = must_rank bs m x distinct all h.0 in
    let rest = leads_rank bs x n ns distinct all h.1 in
    omega (arith, first, rest)

no_ring : (bs : List Binding) (ns : List ℕ) → AreDistinct (numbers_of bs) → All NamesNone bs → IsRing (MustPrecede bs) ns → ⊥
no_ring bs [] distinct all h = h
no_ring bs (n ∷ ns) distinct all h = let rise = leads_rank bs n n ns distinct all h in omega (arith, rise)

pub no_cycle : (bs : List Binding) (ns : List ℕ) → AreDistinct (numbers_of bs) → All NamesNone bs → IsCycle bs ns → ⊥
no_cycle bs ns distinct all cycle = no_ring bs ns distinct all cycle.closed

-- ---- the order changes no count

weight : (Binding → Bool) → Option Binding → ℕ
weight p o = option_map_or (λ (b : Binding). cond (p b) 1 0) o 0

count_option : (p : Binding → Bool) (o : Option Binding) (bs : List Binding) → count_by p (cons_option o bs) ≡ weight p o + count_by p bs
unfolding weight
count_option p None bs = omega arith
count_option p (Some b) bs = sum_by-cons (λ (x : Binding). cond (p x) 1 0) b bs

count_arranged : (p : Binding → Bool) (bs : List Binding) (ns : List ℕ) → count_by p (arranged bs ns) ≡ sum_by (λ n. weight p (binding_of bs n)) ns
count_arranged p bs [] = refl
count_arranged p bs (n ∷ ns) =
    let first = count_option p (binding_of bs n) (arranged bs ns) in
    let rest = count_arranged p bs ns in
    let sum = sum_by-cons (λ (m : ℕ). weight p (binding_of bs m)) n ns in
    omega (arith, first, rest, sum)

count_numbers : (p : Binding → Bool) (bs cs : List Binding) → AreDistinct (numbers_of bs) → All (Contains bs) cs → sum_by (λ n. weight p (binding_of bs n)) (numbers_of cs) ≡ count_by p cs
unfolding weight
count_numbers p bs [] distinct there = refl
count_numbers p bs (c ∷ cs) distinct there =
    let here : weight p (binding_of bs c.number) ≡ cond (p c) 1 0 = ap (weight p) (found_is bs c distinct (All-head (Contains bs) c cs there)) in
    let rest = count_numbers p bs cs distinct (All-tail (Contains bs) c cs there) in
    let left = sum_by-cons (λ (m : ℕ). weight p (binding_of bs m)) c.number (numbers_of cs) in
    let right = sum_by-cons (λ (x : Binding). cond (p x) 1 0) c cs in
    omega (arith, here, rest, left, right)

-- in whatever order bindings stand, as many of them pass
pub arranged_count : (p : Binding → Bool) (bs : List Binding) (ns : List ℕ) → AreDistinct (numbers_of bs) → IsPermutation (numbers_of bs) ns → count_by p (arranged bs ns) ≡ count_by p bs
arranged_count p bs ns distinct permuted =
    count_arranged p bs ns
    ∙ sum_by-IsPermutation (λ (n : ℕ). weight p (binding_of bs n)) (numbers_of bs) ns permuted
    ∙ count_numbers p bs bs distinct (All-contains_itself bs)

found_holds : (P : Binding → Type 0) (q : Binding → Bool) (bs : List Binding) → AllByRecursion P bs → IfSome (find q bs) P
found_holds P q [] all = tt
found_holds P q (b ∷ bs) all = go (q b) (found_holds P q bs all.1)
  where
    go : (t : Bool) → IfSome (find q bs) P → IfSome (cond t (Some b) (find q bs)) P
    go true rest = all.0
    go false rest = rest

-- what holds of each binding holds of each in an order
pub arranged_all : (P : Binding → Type 0) (bs : List Binding) (ns : List ℕ) → All P bs → All P (arranged bs ns)
arranged_all P bs [] all = All-nil P
arranged_all P bs (n ∷ ns) all = go (binding_of bs n) (found_holds P (λ (b : Binding). b.number == n) bs (recursion_from_All P bs all)) (arranged_all P bs ns all)
  where
    go : (o : Option Binding) → IfSome o P → All P (arranged bs ns) → All P (cons_option o (arranged bs ns))
    go None here rest = rest
    go (Some b) here rest = All-cons P b (arranged bs ns) here rest
