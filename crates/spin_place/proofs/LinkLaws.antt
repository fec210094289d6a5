-- The links that bindings say, and when one must precede another.
use Rattle.std.proofs.Common.{◌≡◌, ℕ, suc, ◌<◌, Bool, true, false, cond, not, ◌&&◌, ◌||◌, List, [], ◌∷◌, length, get_or, refl, sym, ap, ◌∙◌, inl, inr, ◌⊎◌, arith, count_by, sum_by}
use Rattle.std.specs.Prelude.{IsTrue, ◌==◌}
use Rattle.std.specs.List.{Contains, list_any}
use Rattle.std.proofs.lemmas.Bool.{and_parts, and_from, cases_lt, eqb-true, eqb-false, eq-eqb, ne_eqb, not-true, not_from_false, false≢true, both_ways}
use Rattle.std.proofs.lemmas.List.{get_or_default}
use Rattle.std.proofs.lemmas.List.Folds.{Any-from_list_any, list_any_at}
use Rattle.std.proofs.lemmas.List.Sums.{sum_by-cons, get_or-le-sum_by}
use Rattle.spin_word.specs.Commands.{no_number}
use Rattle.spin_place.specs.declared.binding.Binding.{Binding}
use Rattle.spin_place.specs.declared.links.Link.{Link}
use Rattle.spin_place.specs.Inner.Links.{names_other, said, times_linked}
use Rattle.spin_place.specs.Orders.{AreDistinct}
use Rattle.spin_place.specs.Precedence.{names, is_first, is_last, must_precede, numbers_of}
use Rattle.spin_place.proofs.NumberLists.{one_if, some_passes}
use Rattle.spin_place.proofs.Precedences.{same_binding}

-- where a sum isn't 0, neither is one of what is summed
some_counts : {X : Type 0} (f : X → ℕ) (xs : List X) → 0 < sum_by f xs → (x : X) × Contains xs x × (0 < f x)
some_counts f [] h = absurd (omega arith)
some_counts f (x ∷ xs) h =
    elim (cases_lt 0 (f x)) [
      | inl some ↦ (x, (0, omega arith, refl), some)
      | inr none ↦
          let rest = some_counts f xs (omega (arith, h, none, sum_by-cons f x xs)) in
          (rest.0, (suc rest.1.0, omega (arith, rest.1.1), rest.1.2), rest.2)
    ]

counts_at : {X : Type 0} (f : X → ℕ) (xs : List X) (x : X) → Contains xs x → 0 < f x → 0 < sum_by f xs
counts_at f xs x (k, l, e) some = omega (arith, get_or-le-sum_by f xs k x l, ap f e)

passes_at : {X : Type 0} (p : X → Bool) (xs : List X) (k : ℕ) (x : X) → k < length xs → get_or xs k x ≡ x → p x ≡ true → 0 < count_by p xs
passes_at p xs k x l e t = counts_at (λ y. cond (p y) 1 0) xs x (k, l, e) (omega (arith, ap one_if t))

four_parts : (n f l x y : Bool) → (n && (f || l || x || y)) ≡ true → (n ≡ true) × ((f ≡ true) ⊎ ((l ≡ true) ⊎ ((x ≡ true) ⊎ (y ≡ true))))
four_parts true true l x y h = (refl, inl refl)
four_parts true false true x y h = (refl, inr (inl refl))
four_parts true false false true y h = (refl, inr (inr (inl refl)))
four_parts true false false false true h = (refl, inr (inr (inr refl)))
four_parts true false false false false h = absurd (false≢true h)
four_parts false f l x y h = absurd (false≢true h)

from_first : (n f l x y : Bool) → n ≡ true → f ≡ true → (n && (f || l || x || y)) ≡ true
from_first true true l x y e h = refl
from_first true false l x y e h = absurd (false≢true h)
from_first false f l x y e h = absurd (false≢true e)

from_second : (n f l x y : Bool) → n ≡ true → l ≡ true → (n && (f || l || x || y)) ≡ true
from_second true true l x y e h = refl
from_second true false true x y e h = refl
from_second true false false x y e h = absurd (false≢true h)
from_second false f l x y e h = absurd (false≢true e)

from_third : (n f l x y : Bool) → n ≡ true → x ≡ true → (n && (f || l || x || y)) ≡ true
from_third true true l x y e h = refl
from_third true false true x y e h = refl
from_third true false false true y e h = refl
from_third true false false false y e h = absurd (false≢true h)
from_third false f l x y e h = absurd (false≢true e)

from_fourth : (n f l x y : Bool) → n ≡ true → y ≡ true → (n && (f || l || x || y)) ≡ true
from_fourth true true l x y e h = refl
from_fourth true false true x y e h = refl
from_fourth true false false true y e h = refl
from_fourth true false false false true e h = refl
from_fourth true false false false false e h = absurd (false≢true h)
from_fourth false f l x y e h = absurd (false≢true e)

unlike : (m n : ℕ) → (m ≡ n → ⊥) → not (m == n) ≡ true
unlike m n ne = not_from_false (m == n) (ne_eqb m n ne)

-- what a binding says of a number that it names
names_from : (ns : List ℕ) (own named n : ℕ) → Contains ns named → names_other own named ≡ true → named ≡ n → names ns n ≡ true
names_from ns own named n (k, l, e) other is =
    let parts = and_parts (not (named == no_number)) (not (named == own)) other in
    let some : not (n == no_number) ≡ true = ap (λ m. not (m == no_number)) (sym is) ∙ parts.0 in
    and_from (not (n == no_number)) (list_any (λ m. m == n) ns) some (list_any_at (λ m. m == n) ns k named l (eq-eqb (get_or ns k named) n (e ∙ is)))

-- of a number that is named, the place where it stands
names_at : (ns : List ℕ) (n : ℕ) → names ns n ≡ true → (n ≡ no_number → ⊥) × Contains ns n
names_at ns n h =
    let parts = and_parts (not (n == no_number)) (list_any (λ m. m == n) ns) h in
    let at = Any-from_list_any (λ m. m == n) ns parts.1 in
    let is : at.1 ≡ n = eqb-true at.1 n at.4 in
    (eqb-false n no_number (not-true (n == no_number) parts.0), (at.0, at.2, get_or_default ns at.0 n at.1 at.2 ∙ at.3 ∙ is))

-- a binding says of two numbers only what holds of it
pub said_holds : (m n : ℕ) (b : Binding) → 0 < said m n b → (m ≡ n → ⊥) × (((m ≡ b.number) × IsTrue (names b.before n)) ⊎ ((b.number ≡ n) × IsTrue (names b.after m)))
said_holds m n b h =
    elim (cases_lt 0 (count_by (λ named. names_other b.number named && (m == b.number && named == n)) b.before)) [
      | inl some ↦
          let at = some_passes (λ named. names_other b.number named && (m == b.number && named == n)) b.before some in
          let one = and_parts (names_other b.number at.1) (m == b.number && at.1 == n) at.4 in
          let two = and_parts (m == b.number) (at.1 == n) one.1 in
          let from : m ≡ b.number = eqb-true m b.number two.0 in
          let to : at.1 ≡ n = eqb-true at.1 n two.1 in
          let apart : at.1 ≡ b.number → ⊥ = eqb-false at.1 b.number (not-true (at.1 == b.number) (and_parts (not (at.1 == no_number)) (not (at.1 == b.number)) one.0).1) in
          ((λ e. apart (to ∙ sym e ∙ from)), inl (from, names_from b.before b.number at.1 n (at.0, at.2, at.3) one.0 to))
      | inr none ↦
          let at = some_passes (λ named. names_other b.number named && (m == named && b.number == n)) b.after (omega (arith, h, none)) in
          let one = and_parts (names_other b.number at.1) (m == at.1 && b.number == n) at.4 in
          let two = and_parts (m == at.1) (b.number == n) one.1 in
          let from : m ≡ at.1 = eqb-true m at.1 two.0 in
          let to : b.number ≡ n = eqb-true b.number n two.1 in
          let apart : at.1 ≡ b.number → ⊥ = eqb-false at.1 b.number (not-true (at.1 == b.number) (and_parts (not (at.1 == no_number)) (not (at.1 == b.number)) one.0).1) in
          ((λ e. apart (sym from ∙ e ∙ sym to)), inr (to, names_from b.after b.number at.1 m (at.0, at.2, at.3) one.0 (sym from)))
    ]

-- and all that it names
said_before : (b : Binding) (n : ℕ) → (b.number ≡ n → ⊥) → names b.before n ≡ true → 0 < said b.number n b
said_before b n ne h =
    let at = names_at b.before n h in
    let other = and_from (not (n == no_number)) (not (n == b.number)) (unlike n no_number at.0) (unlike n b.number (λ e. ne (sym e))) in
    let pass = and_from (names_other b.number n) (b.number == b.number && n == n) other (and_from (b.number == b.number) (n == n) (eq-eqb b.number b.number refl) (eq-eqb n n refl)) in
    omega (arith, passes_at (λ named. names_other b.number named && (b.number == b.number && named == n)) b.before at.1.0 n at.1.1 at.1.2 pass)

said_after : (c : Binding) (m : ℕ) → (m ≡ c.number → ⊥) → names c.after m ≡ true → 0 < said m c.number c
said_after c m ne h =
    let at = names_at c.after m h in
    let other = and_from (not (m == no_number)) (not (m == c.number)) (unlike m no_number at.0) (unlike m c.number ne) in
    let pass = and_from (names_other c.number m) (m == m && c.number == c.number) other (and_from (m == m) (c.number == c.number) (eq-eqb m m refl) (eq-eqb c.number c.number refl)) in
    omega (arith, passes_at (λ named. names_other c.number named && (m == named && c.number == c.number)) c.after at.1.0 m at.1.1 at.1.2 pass)

module _ (bs : List Binding) (links : List Link) (distinct : AreDistinct (numbers_of bs)) (linked : (m n : ℕ) → times_linked links m n ≡ sum_by (said m n) bs) where
  -- a link leads from what must precede
  pub linked_precedes : (b c : Binding) → Contains bs b → Contains bs c → 0 < times_linked links b.number c.number → IsTrue (must_precede b c)
  linked_precedes b c first second some =
      let at = some_counts (said b.number c.number) bs (omega (arith, some, linked b.number c.number)) in
      let a = at.0 in
      let what = said_holds b.number c.number a at.2 in
      let apart = unlike b.number c.number what.0 in
      elim what.1 [
        | inl (e, h) ↦
            let same : b ≡ a = same_binding bs b a distinct first at.1 e in
            from_third (not (b.number == c.number)) (is_first b.place && not (is_first c.place)) (is_last c.place && not (is_last b.place)) (names b.before c.number) (names c.after b.number) apart
            (ap (λ (x : Binding). names x.before c.number) same ∙ h)
        | inr (e, h) ↦
            let same : c ≡ a = same_binding bs c a distinct second at.1 (sym e) in
            from_fourth (not (b.number == c.number)) (is_first b.place && not (is_first c.place)) (is_last c.place && not (is_last b.place)) (names b.before c.number) (names c.after b.number) apart
            (ap (λ (x : Binding). names x.after b.number) same ∙ h)
      ]

  -- what must precede goes first, or the other last, or there is a link
  pub precedes_cases : (b c : Binding) → Contains bs b → Contains bs c → IsTrue (must_precede b c)
      → ((is_first b.place ≡ true) × (is_first c.place ≡ false)) ⊎ (((is_last c.place ≡ true) × (is_last b.place ≡ false)) ⊎ (0 < times_linked links b.number c.number))
  precedes_cases b c first second h =
      let parts = four_parts (not (b.number == c.number)) (is_first b.place && not (is_first c.place)) (is_last c.place && not (is_last b.place)) (names b.before c.number) (names c.after b.number) h in
      let apart = eqb-false b.number c.number (not-true (b.number == c.number) parts.0) in
      elim parts.1 [
        | inl f ↦ let both = and_parts (is_first b.place) (not (is_first c.place)) f in inl (both.0, not-true (is_first c.place) both.1)
        | inr (inl l) ↦ let both = and_parts (is_last c.place) (not (is_last b.place)) l in inr (inl (both.0, not-true (is_last b.place) both.1))
        | inr (inr (inl x)) ↦ inr (inr (omega (arith, linked b.number c.number, counts_at (said b.number c.number) bs b first (said_before b c.number apart x))))
        | inr (inr (inr y)) ↦ inr (inr (omega (arith, linked b.number c.number, counts_at (said b.number c.number) bs c second (said_after c b.number apart y))))
      ]

  -- one that goes first must precede one that doesn't
  pub first_precedes : (b c : Binding) → Contains bs b → Contains bs c → is_first b.place ≡ true → is_first c.place ≡ false → IsTrue (must_precede b c)
  first_precedes b c first second t f =
      let apart = λ (e : b.number ≡ c.number). both_ways (is_first b.place) (ap (λ (x : Binding). is_first x.place) (same_binding bs b c distinct first second e) ∙ f) t in
      from_first (not (b.number == c.number)) (is_first b.place && not (is_first c.place)) (is_last c.place && not (is_last b.place)) (names b.before c.number) (names c.after b.number)
      (unlike b.number c.number apart) (and_from (is_first b.place) (not (is_first c.place)) t (not_from_false (is_first c.place) f))

  -- one that doesn't go last must precede one that does
  pub last_follows : (b c : Binding) → Contains bs b → Contains bs c → is_last c.place ≡ true → is_last b.place ≡ false → IsTrue (must_precede b c)
  last_follows b c first second t f =
      let apart = λ (e : b.number ≡ c.number). both_ways (is_last c.place) (sym (ap (λ (x : Binding). is_last x.place) (same_binding bs b c distinct first second e)) ∙ f) t in
      from_second (not (b.number == c.number)) (is_first b.place && not (is_first c.place)) (is_last c.place && not (is_last b.place)) (names b.before c.number) (names c.after b.number)
      (unlike b.number c.number apart) (and_from (is_last c.place) (not (is_last b.place)) t (not_from_false (is_last b.place) f))
