-- The answer so far is that of all that fired.
use Rattle.std.proofs.Common.{◌≡◌, ℕ, ◌+◌, ◌<◌, ◌≤◌, ◌==◌, Bool, true, false, not, cond, List, [], ◌∷◌, ◌++◌, length, fold}
use Rattle.std.proofs.Common.{Option, Some, None, refl, sym, ap, subst, ◌∙◌, arith}
use Rattle.std.specs.Prelude.{IsSomeAnd}
use Rattle.std.proofs.lemmas.Bool.{false≢true}
use Rattle.std.proofs.lemmas.Option.{slice_get_within}
use Rattle.spin_values.specs.declared.types.EventType.{EventType}
use Rattle.spin_values.specs.declared.values.Value.{Value}
use Rattle.spin_code.specs.declared.merge.Merge.{Merge}
use Rattle.spin_place.specs.declared.binding.Binding.{Binding}
use Rattle.spin_raise.specs.declared.answer.Answer.{Answer}
use Rattle.spin_raise.specs.declared.answer.Answer.TheVariants as answer
use Rattle.spin_raise.specs.declared.bound.Runner.TheVariants as runner
use Rattle.spin_raise.specs.Firing.{Units, Bound, Firing, Did, Apart, ByDefault, is_async, answer_of}
use Rattle.spin_raise.specs.Progress.{answer_after, default_now}
use Rattle.spin_raise.proofs.HandlerWalk.{AreBindings, fold_answer, firing_is}
use Rattle.spin_raise.proofs.RaiseSteps.{after_firing}
use Rattle.spin_host.specs.Gifts.{items_given, args_given}
use Rattle.spin_host.specs.OpenRaises.{Next, Reached, Unreached, Fate, Done, Gave, Declined, Told, Standing, or_unreached, IsDue}
use Rattle.spin_host.specs.OpenRaises.{fires, after, after_all, AreTold}
use Rattle.spin_host.specs.Frames.{is_default_next, unreached}

-- what fired is bindings, or the default alone, after which no binding is tried
abbrev pub IsLast : List Firing → Type 0
IsLast [] = Unit {0}
IsLast (ByDefault given left ∷ []) = Unit {0}
IsLast fs = ⊥

abbrev pub Tidy : ℕ → Bool → ℕ → List Firing → Type 0
Tidy count false from fired = AreBindings fired
Tidy count true from fired = (from ≡ count) × IsLast fired

are_both : (fs gs : List Firing) → AreBindings fs → AreBindings gs → AreBindings (fs ++ gs)
are_both [] gs h k = k
are_both (Did n m given left ∷ fs) gs h k = are_both fs gs h k
are_both (Apart n args ∷ fs) gs h k = are_both fs gs h k
are_both (ByDefault given left ∷ fs) gs h k = absurd h

fires_are : (u : Units) (args : List Value) (at : ℕ) (b : Binding) (fate : Fate) → AreBindings (fires u args (Reached at b) fate)
fires_are u args at b Done = firing_is runner.Raiser u b args [] tt
fires_are u args at b (Gave gift) =
    elim (is_async b.mode) as (λ t. AreBindings (cond t (Apart b.number args) (Did b.number true (items_given gift) (args_given args gift)) ∷ [])) [ true ↦ tt | false ↦ tt ]
fires_are u args at b Declined = tt

last_is : (u : Units) (args : List Value) (default : ℕ) (fate : Fate) → IsLast (fires u args (Unreached default) fate)
last_is u args default Done = tt
last_is u args default (Gave gift) = tt
last_is u args default Declined = tt

-- the default is next only where nothing was done of it or a binding
pub not_asked : (d default : ℕ) (asked : Bool) (fired : List Firing) → Some (Unreached d) ≡ or_unreached default asked fired → (asked ≡ false) × (fired ≡ [])
not_asked d default false [] is = (refl, refl)
not_asked d default false (f ∷ fs) is = cc
not_asked d default true [] is = cc
not_asked d default true (f ∷ fs) is = cc

pub there : (P : Binding → Type 0) (o : Option Binding) → IsSomeAnd o P → (b : Binding) × (o ≡ Some b)
there P None h = absurd h
there P (Some b) h = (b, refl)

no_more : (u : Units) (e : Bound) (s : Standing) (at : ℕ) (b : Binding) → IsDue u e s (Some (Reached at b)) → s.from ≡ length e.bindings → ⊥
no_more u e s at b due is =
    let low : s.from ≤ at = due.0.0 in
    let within : at < length e.bindings = slice_get_within e.bindings at b due.1 in
    omega (arith, low, within, is)

tidy_on : (u : Units) (e : Bound) (s : Standing) (n : Next) (saw : List Value) (fate : Fate) → Tidy (length e.bindings) s.asked s.from s.fired → IsDue u e s (Some n)
    → let s' : Standing = after u e s record { next = n; saw = saw; fate = fate } in Tidy (length e.bindings) s'.asked s'.from s'.fired
tidy_on u e s (Reached at b) saw fate h due = choose s.asked refl
  where
    choose : (asked : Bool) → s.asked ≡ asked → Tidy (length e.bindings) s.asked (at + 1) (s.fired ++ fires u s.args (Reached at b) fate)
    choose false is =
        let P : Bool → Type 0 = λ t. Tidy (length e.bindings) t s.from s.fired in
        let Q : Bool → Type 0 = λ t. Tidy (length e.bindings) t (at + 1) (s.fired ++ fires u s.args (Reached at b) fate) in
        subst Q (sym is) (are_both s.fired (fires u s.args (Reached at b) fate) (subst P is h) (fires_are u s.args at b fate))
    choose true is =
        let P : Bool → Type 0 = λ t. Tidy (length e.bindings) t s.from s.fired in
        absurd (no_more u e s at b due (subst P is h).0)
tidy_on u e s (Unreached default) saw fate h due =
    let P : List Firing → Type 0 = λ fs. IsLast (fs ++ fires u s.args (Unreached default) fate) in
    (refl, subst P (sym (not_asked default e.default s.asked s.fired due.1).1) (last_is u s.args default fate))

pub tidy : (u : Units) (sig : EventType) (e : Bound) (s : Standing) (told : List Told) → Tidy (length e.bindings) s.asked s.from s.fired → AreTold u sig e s told
    → let s' : Standing = after_all u e s told in Tidy (length e.bindings) s'.asked s'.from s'.fired
tidy u sig e s [] h way = h
tidy u sig e s (t ∷ ts) h way = tidy u sig e (after u e s t) ts (tidy_on u e s t.next t.saw t.fate h way.0) way.3

pub answers : (m : Merge) (count from : ℕ) (asked : Bool) (fired : List Firing) → Tidy count asked from fired → fold (answer_after m) answer.NoHandler fired ≡ answer_of m fired
answers m count from false fired h = fold_answer m fired h
answers m count from true [] h = refl
answers m count from true (ByDefault given left ∷ []) h = refl
answers m count from true (ByDefault given left ∷ f ∷ fs) h = absurd h.1
answers m count from true (Did n merged given left ∷ fs) h = absurd h.1
answers m count from true (Apart n args ∷ fs) h = absurd h.1

-- the default by what was answered so far -----------------------------------------

stays_off : (m : Merge) (a : Answer) (fs : List Firing) (d : ℕ) → default_now a d ≡ 0 → default_now (fold (answer_after m) a fs) d ≡ 0
stays_off m a [] d h = h
stays_off m a (f ∷ fs) d h = stays_off m (answer_after m a f) fs d (after_firing m a f d)

some_fired : (m : Merge) (f : Firing) (fs : List Firing) (d : ℕ) → is_default_next false (fold (answer_after m) answer.NoHandler (f ∷ fs)) d ≡ false
some_fired m f fs d = ap (λ k. not (k == 0)) (stays_off m (answer_after m answer.NoHandler f) fs d (after_firing m answer.NoHandler f d))

opposite : (b : Bool) → not b ≡ true → b ≡ false
opposite true e = cc
opposite false e = refl

same : (b : Bool) → not b ≡ false → b ≡ true
same true e = refl
same false e = cc

pub default_is_next : (m : Merge) (asked : Bool) (fired : List Firing) (d : ℕ) → is_default_next asked (fold (answer_after m) answer.NoHandler fired) d ≡ true
    → (or_unreached d asked fired ≡ Some (Unreached d)) × (unreached d ≡ Some (Unreached d))
default_is_next m true fired d is = absurd (false≢true is)
default_is_next m false [] d is =
    let e : or_unreached d false [] ≡ Some (Unreached d) = ap (λ t. cond t None (Some (Unreached d))) (opposite (d == 0) is) in (e, e)
default_is_next m false (f ∷ fs) d is = absurd (false≢true (sym (some_fired m f fs d) ∙ is))

pub default_is_not_next : (m : Merge) (asked : Bool) (fired : List Firing) (d : ℕ) → is_default_next asked (fold (answer_after m) answer.NoHandler fired) d ≡ false
    → or_unreached d asked fired ≡ None
default_is_not_next m true [] d is = refl
default_is_not_next m true (f ∷ fs) d is = refl
default_is_not_next m false [] d is = ap (λ t. cond t None (Some (Unreached d))) (same (d == 0) is)
default_is_not_next m false (f ∷ fs) d is = refl
