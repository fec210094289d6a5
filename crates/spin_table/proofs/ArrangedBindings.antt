-- The bindings of an order, and that there is one least order.
use Rattle.std.proofs.Common.{◌≡◌, ℕ, ◌+◌, ◌<◌, ◌≤◌, Bool, true, false, cond, List, [], ◌∷◌, ◌++◌, length, get_or, take, refl, sym, ap, ◌∙◌, inl, inr, arith}
use Rattle.std.specs.Prelude.{Option, None, Some, find, All, Contains}
use Rattle.std.specs.List.{cons_option}
use Rattle.std.specs.Option.{option_to_list}
use Rattle.std.proofs.lemmas.List.{take_more}
use Rattle.std.proofs.lemmas.List.Elements.{filter_map-append}
use Rattle.std.proofs.lemmas.Option.{same_Some}
use Rattle.std.proofs.lemmas.List.Elements.{All-cons, All-contains, All-head, All-tail}
use Rattle.std.proofs.lemmas.Bool.{eq-eqb, ne_eqb}
use Rattle.spin_place.specs.Orders.{AreDistinct}
use Rattle.spin_place.specs.declared.binding.Binding.{Binding}
use Rattle.spin_place.specs.Precedence.{IsTheOrder}
use Rattle.spin_place.proofs.NumberLists.{Contains-there, AllPairs-head, AllPairs-tail}
use Rattle.spin_place.specs.Precedence.{numbers_of}
use Rattle.std.proofs.lemmas.List.{length-map}
use Rattle.std.proofs.lemmas.List.Sorted.{length_permutation}
use Rattle.spin_place.proofs.LawfulOrders.{IsLess-one_way}
use Rattle.spin_table.specs.States.{binding_of}
use Rattle.spin_table.specs.Orders.{arranged}

found_or : {X : Type 0} (b : Bool) (y x : X) (ys : List X) (r : Option X) → (r ≡ Some x → Contains ys x) → cond b (Some y) r ≡ Some x → Contains (y ∷ ys) x
found_or true y x ys r rest e = let same : y ≡ x = same_Some _ _ e in (0, omega arith, same)
found_or false y x ys r rest e = Contains-there x y ys (rest e)

-- what is found is an element
pub Contains-find : {X : Type 0} (p : X → Bool) (xs : List X) (x : X) → find p xs ≡ Some x → Contains xs x
Contains-find p [] x e = cc
Contains-find p (y ∷ ys) x e = found_or (p y) y x ys (find p ys) (λ h. Contains-find p ys x h) e

All-cons_option : {X : Type 0} (P : X → Type 0) (o : Option X) (xs : List X) → ((x : X) → o ≡ Some x → P x) → All P xs → All P (cons_option o xs)
All-cons_option P None xs one rest = rest
All-cons_option P (Some x) xs one rest = All-cons P x xs (one x refl) rest

-- the bindings of an order are bindings of the list
pub All-arranged : (P : Binding → Type 0) (bs : List Binding) (ns : List ℕ) → All P bs → All P (arranged bs ns)
All-arranged P bs [] all = λ k d l. absurd (omega arith)
All-arranged P bs (n ∷ ns) all =
    All-cons_option P (binding_of bs n) (arranged bs ns) (λ b e. let at = All-contains P bs b all (Contains-find _ bs b e) in at) (All-arranged P bs ns all)

length-cons_option : {X : Type 0} (o : Option X) (xs : List X) (n : ℕ) → length xs ≤ n → length (cons_option o xs) ≤ n + 1
length-cons_option None xs n h = omega arith
length-cons_option (Some x) xs n h = omega arith

pub length-arranged : (bs : List Binding) (ns : List ℕ) → length (arranged bs ns) ≤ length ns
length-arranged bs [] = omega arith
length-arranged bs (n ∷ ns) = omega (arith, length-cons_option (binding_of bs n) (arranged bs ns) (length ns) (length-arranged bs ns))

-- two least orders are one
pub same_order : (bs : List Binding) (ms ns : List ℕ) → IsTheOrder bs ms → IsTheOrder bs ns → ms ≡ ns
same_order bs ms ns first second =
    elim (first.1 ns second.0) [
      | inl e ↦ sym e
      | inr less ↦ elim (second.1 ms first.0) [
        | inl e ↦ e
        | inr more ↦ absurd (IsLess-one_way ms ns less more)
      ]
    ]

-- one number more
pub arranged-more : (bs : List Binding) (ns : List ℕ) (at : ℕ) (n : ℕ) → at < length ns → get_or ns at 0 ≡ n
    → arranged bs (take (at + 1) ns) ≡ arranged bs (take at ns) ++ option_to_list (binding_of bs n)
arranged-more bs ns at n inside read =
    ap (arranged bs) (take_more ns at 0 inside ∙ ap (λ m. take at ns ++ m ∷ []) read)
    ∙ filter_map-append (binding_of bs) (take at ns) (n ∷ []) ∙ ap (λ l. arranged bs (take at ns) ++ l) (one (binding_of bs n))
  where
    one : {X : Type 0} (o : Option X) → cons_option o [] ≡ option_to_list o
    one None = refl
    one (Some x) = refl

-- an order has as many numbers as there are bindings
pub length-order : (bs : List Binding) (ns : List ℕ) → IsTheOrder bs ns → length (arranged bs ns) ≤ length bs
length-order bs ns order =
    omega (arith, length-arranged bs ns, length_permutation (numbers_of bs) ns order.0.0, length-map bs (λ (b : Binding). b.number))

-- a binding whose number is none of these isn't among those of these numbers
skip_first : (b : Binding) (bs : List Binding) (ns : List ℕ) → All (λ n. b.number ≡ n → ⊥) ns → arranged (b ∷ bs) ns ≡ arranged bs ns
skip_first b bs [] h = refl
skip_first b bs (n ∷ ns) h =
    let one : binding_of (b ∷ bs) n ≡ binding_of bs n = ap (λ t. cond t (Some b) (binding_of bs n)) (ne_eqb b.number n (All-head (λ m. b.number ≡ m → ⊥) n ns h)) in
    ap (λ o. cons_option o (arranged (b ∷ bs) ns)) one ∙ ap (cons_option (binding_of bs n)) (skip_first b bs ns (All-tail (λ m. b.number ≡ m → ⊥) n ns h))

-- the bindings of all numbers in their order are the bindings
pub arranged-in_place : (bs : List Binding) → AreDistinct (numbers_of bs) → arranged bs (numbers_of bs) ≡ bs
arranged-in_place [] distinct = refl
arranged-in_place (b ∷ bs) distinct =
    ap (λ t. cons_option (cond t (Some b) (binding_of bs b.number)) (arranged (b ∷ bs) (numbers_of bs))) (eq-eqb b.number b.number refl)
    ∙ ap (λ l. b ∷ l) (skip_first b bs (numbers_of bs) (AllPairs-head (λ m n. m ≡ n → ⊥) b.number (numbers_of bs) distinct)
    ∙ arranged-in_place bs (AllPairs-tail (λ m n. m ≡ n → ⊥) b.number (numbers_of bs) distinct))
