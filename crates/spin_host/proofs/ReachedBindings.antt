-- The bindings that are told are those that are reached.
use Rattle.std.proofs.Common.{◌≡◌, ℕ, zero, suc, ◌≤◌, Bool, true, cond, List, [], ◌∷◌, ◌++◌, drop, length, map, unwrap_or}
use Rattle.std.proofs.Common.{Option, Some, None, refl, sym, ap, subst, ◌∙◌, add-one, arith}
use Rattle.std.specs.Prelude.{slice_get, IsSomeAnd, flat_map}
use Rattle.std.proofs.Math.Seq.{drop-nil}
use Rattle.spin_values.specs.declared.types.EventType.{EventType}
use Rattle.spin_values.specs.declared.values.Value.{Value}
use Rattle.spin_place.specs.declared.binding.Binding.{Binding}
use Rattle.spin_plan.specs.Next.{guards_hold, NonePass}
use Rattle.spin_raise.specs.Firing.{Units, Bound, args_left}
use Rattle.spin_host.specs.OpenRaises.{Next, Reached, Unreached, Fate, Done, Gave, Declined, Told, Standing, front, IsDue, fires, after, after_all, AreTold}
use Rattle.spin_host.specs.Laws.{binding_in, first_fate, other_fates, reached, FiringsAreReached, DeclinedIsNothing, EndIsOne}
use Rattle.std.proofs.lemmas.List.{append-nil}

-- how the rest goes on from a binding that is reached
abbrev pub from_here : Units → Binding → List Binding → List Value → List Fate → List Binding
from_here u b bs args fates = b ∷ reached u bs (args_left args (fires u args (Reached 0 b) (first_fate fates))) (other_fates fates)

later_pass : (p : Binding → Bool) (b : Binding) (bs : List Binding) (from to : ℕ) → NonePass p (b ∷ bs) (suc from) (suc to) → NonePass p bs from to
later_pass p b bs from to h = λ k low high. h (suc k) (omega arith) (omega arith)

tail_pass : (p : Binding → Bool) (b : Binding) (bs : List Binding) (to : ℕ) → NonePass p (b ∷ bs) zero (suc to) → NonePass p bs zero to
tail_pass p b bs to h = λ k low high. h (suc k) (omega arith) (omega arith)

reached_skip : (u : Units) (bs : List Binding) (args : List Value) (fates : List Fate) (from at : ℕ) → from ≤ at
    → NonePass (guards_hold u.tests args) bs from at → reached u (drop from bs) args fates ≡ reached u (drop at bs) args fates
reached_skip u [] args fates from at le h = ap (λ xs. reached u xs args fates) (drop-nil from ∙ sym (drop-nil at))
reached_skip u (b ∷ bs) args fates zero zero le h = refl
reached_skip u (b ∷ bs) args fates zero (suc at) le h =
    ap (λ t. cond t (from_here u b bs args fates) (reached u bs args fates)) (h zero (omega arith) (omega arith))
    ∙ reached_skip u bs args fates zero at (omega arith) (tail_pass (guards_hold u.tests args) b bs at h)
reached_skip u (b ∷ bs) args fates (suc from) zero le h = absurd (omega (arith, le))
reached_skip u (b ∷ bs) args fates (suc from) (suc at) le h =
    reached_skip u bs args fates from at (omega (arith, le)) (later_pass (guards_hold u.tests args) b bs from at h)

reached_end : (u : Units) (bs : List Binding) (args : List Value) (fates : List Fate) (from : ℕ) → NonePass (guards_hold u.tests args) bs from (length bs) → reached u (drop from bs) args fates ≡ []
reached_end u [] args fates from h = ap (λ xs. reached u xs args fates) (drop-nil from)
reached_end u (b ∷ bs) args fates zero h =
    ap (λ t. cond t (from_here u b bs args fates) (reached u bs args fates)) (h zero (omega arith) (omega arith))
    ∙ reached_end u bs args fates zero (λ k low high. h (suc k) (omega arith) (omega arith))
reached_end u (b ∷ bs) args fates (suc from) h = reached_end u bs args fates from (λ k low high. h (suc k) (omega arith) (omega arith))

reached_here : (u : Units) (bs : List Binding) (b : Binding) (args : List Value) (fates : List Fate) (at : ℕ) → slice_get bs at ≡ Some b → guards_hold u.tests args b ≡ true
    → reached u (drop at bs) args fates ≡ from_here u b (drop (suc at) bs) args fates
reached_here u [] b args fates at there h = cc
reached_here u (c ∷ bs) b args fates zero there h =
    let P : Binding → Type 0 = λ x. reached u (x ∷ bs) args fates ≡ from_here u b bs args fates in
    subst P (sym (ap (λ o. unwrap_or o c) there)) (ap (λ t. cond t (from_here u b bs args fates) (reached u bs args fates)) h)
reached_here u (c ∷ bs) b args fates (suc at) there h = reached_here u bs b args fates at there h

some_here : (P : Binding → Type 0) (o : Option Binding) (b : Binding) → IsSomeAnd o P → o ≡ Some b → P b
some_here P o b h e = let Q : Option Binding → Type 0 = λ o. IsSomeAnd o P in subst Q e h

-- what fires doesn't hang on the position
same_fires : (u : Units) (args : List Value) (at : ℕ) (b : Binding) (fate : Fate) → fires u args (Reached at b) fate ≡ fires u args (Reached 0 b) fate
same_fires u args at b Done = refl
same_fires u args at b (Gave gift) = refl
same_fires u args at b Declined = refl

abbrev pub fates_of : List Told → List Fate
fates_of told = map (λ (t : Told). t.fate) told

abbrev pub bindings_of : List Told → List Binding
bindings_of told = flat_map (λ (t : Told). binding_in t.next) told

reached_on : (u : Units) (e : Bound) (s : Standing) (n : Next) (saw : List Value) (fate : Fate) (fates : List Fate) → IsDue u e s (Some n)
    → let s' : Standing = after u e s record { next = n; saw = saw; fate = fate } in
    reached u (drop s.from e.bindings) s.args (fate ∷ fates) ≡ binding_in n ++ reached u (drop s'.from e.bindings) s'.args fates
reached_on u e s (Reached at b) saw fate fates due =
    reached_skip u e.bindings s.args (fate ∷ fates) s.from at due.0.0 due.0.2
    ∙ reached_here u e.bindings b s.args (fate ∷ fates) at due.1 (some_here (λ x. guards_hold u.tests s.args x ≡ true) (slice_get e.bindings at) b due.0.1 due.1)
    ∙ ap (λ fs. b ∷ reached u (drop (suc at) e.bindings) (args_left s.args fs) fates) (sym (same_fires u s.args at b fate))
    ∙ ap (λ k. b ∷ reached u (drop k e.bindings) (args_left s.args (fires u s.args (Reached at b) fate)) fates) (sym (add-one at))
reached_on u e s (Unreached default) saw fate fates due =
    let left : List Value = args_left s.args (fires u s.args (Unreached default) fate) in
    reached_end u e.bindings s.args (fate ∷ fates) s.from due.0
    ∙ sym (reached_end u e.bindings left fates (length e.bindings) (λ k low high. absurd (omega (arith, low, high))))

all_reached : (u : Units) (sig : EventType) (e : Bound) (s : Standing) (told : List Told) → AreTold u sig e s told → IsDue u e (after_all u e s told) None
    → bindings_of told ≡ reached u (drop s.from e.bindings) s.args (fates_of told)
all_reached u sig e s [] way end = sym (reached_end u e.bindings s.args [] s.from end.0)
all_reached u sig e s (t ∷ ts) way end =
    ap (λ xs. binding_in t.next ++ xs) (all_reached u sig e (after u e s t) ts way.3 end)
    ∙ sym (reached_on u e s t.next t.saw t.fate (fates_of ts) way.0)

pub firings_are_reached : FiringsAreReached
firings_are_reached u sig e args told a r = all_reached u sig e (front args) told r.way r.end

pub declined_is_nothing : DeclinedIsNothing
declined_is_nothing u e s t is =
    (ap (λ (x : Fate). s.fired ++ fires u s.args t.next x) is ∙ append-nil s.fired, ap (λ (x : Fate). args_left s.args (fires u s.args t.next x)) is)

pub end_is_one : EndIsOne
end_is_one u sig e args told a b h k = h.comes ∙ sym k.comes
