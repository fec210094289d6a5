-- Lists that are equal by places, and `==` of kinds.
use Rattle.std.proofs.Common.{◌≡◌, ℕ, Bool, true, false, not, suc, ◌<◌, List, [], ◌∷◌, length, map, Some, refl, sym, ap, ◌∙◌, arith}
use Rattle.std.specs.Prelude.{slice_get}
use Rattle.std.specs.Option.{option_map}
use Rattle.std.specs.Bool.{Decides}
use Rattle.std.proofs.lemmas.List.{length-map}
use Rattle.std.proofs.lemmas.Option.{slice_get-map, same_Some}
use Rattle.spin_values.specs.declared.types.Kind.{Kind}
use Rattle.spin_values.specs.declared.types.Kind.TheVariants.{Word, Bytes}
use Rattle.spin_values.specs.contracts.types.Kind.{the_type}
use denote.Enum.Bare.{sameb}

-- two lists with the same elements at each place
pub same_from_places : {A : Type 0} (xs ys : List A) → length xs ≡ length ys → ((k : ℕ) → k < length xs → slice_get xs k ≡ slice_get ys k) → xs ≡ ys
same_from_places [] [] n h = refl
same_from_places [] (y ∷ ys) n h = absurd (omega arith)
same_from_places (x ∷ xs) [] n h = absurd (omega arith)
same_from_places (x ∷ xs) (y ∷ ys) n h =
    let e : x ≡ y = same_Some x y (h 0 (omega arith)) in
    let t : xs ≡ ys = same_from_places xs ys (omega arith) (λ k l. h (suc k) (omega arith)) in
    cc

-- what two lists have at a place, of whose elements f and g speak
pub get_map : {A B : Type 0} (f : A → B) (xs : List A) (k : ℕ) (x : A) → slice_get xs k ≡ Some x → slice_get (map f xs) k ≡ Some (f x)
get_map f xs k x e = slice_get-map f xs k ∙ ap (λ o. option_map f o) e

pub same_maps : {A B C : Type 0} (f : A → C) (g : B → C) (xs : List A) (ys : List B) → length xs ≡ length ys
    → ((k : ℕ) → k < length xs → slice_get (map f xs) k ≡ slice_get (map g ys) k) → map f xs ≡ map g ys
same_maps f g xs ys n h =
    same_from_places (map f xs) (map g ys) (length-map xs f ∙ n ∙ sym (length-map ys g)) (λ k l. h k (omega (arith, length-map xs f)))

pub differ_at : {A B C : Type 0} (f : A → C) (g : B → C) (xs : List A) (ys : List B) (k : ℕ) (x : A) (y : B)
    → slice_get xs k ≡ Some x → slice_get ys k ≡ Some y → (f x ≡ g y → ⊥) → map f xs ≡ map g ys → ⊥
differ_at f g xs ys k x y ex ey apart e =
    let p : Some (f x) ≡ Some (g y) = sym (get_map f xs k x ex) ∙ ap (λ l. slice_get l k) e ∙ get_map g ys k y ey in
    apart (same_Some _ _ p)

pub kind_Decides : (a b : Kind) → Decides (sameb the_type a b) (a ≡ b)
kind_Decides Word Word = (λ e. refl, λ e. refl)
kind_Decides Word Bytes = (λ e. cc, λ e. cc)
kind_Decides Bytes Word = (λ e. cc, λ e. cc)
kind_Decides Bytes Bytes = (λ e. refl, λ e. refl)

-- what `a != b` says of two kinds
pub kind_alike : (a b : Kind) (differs : Bool) → differs ≡ not (sameb the_type a b) → differs ≡ false → a ≡ b
kind_alike Word Word differs is same = refl
kind_alike Word Bytes differs is same = cc
kind_alike Bytes Word differs is same = cc
kind_alike Bytes Bytes differs is same = refl

pub kind_apart : (a b : Kind) (differs : Bool) → differs ≡ not (sameb the_type a b) → differs ≡ true → a ≡ b → ⊥
kind_apart Word Word differs is apart e = cc
kind_apart Word Bytes differs is apart e = cc
kind_apart Bytes Word differs is apart e = cc
kind_apart Bytes Bytes differs is apart e = cc
