-- A raise handler by handler is the whole raise.
use Rattle.std.proofs.Common.{◌≡◌, ℕ, zero, suc, ◌≤◌, Bool, true, false, not, ◌&&◌, cond, List, [], ◌∷◌, ◌++◌, length, drop}
use Rattle.std.proofs.Common.{slice_get, fold, Some, None, ◌-◌, ◌==◌, unwrap_or, refl, sym, ap, subst, ◌∙◌, append_assoc, arith}
use Rattle.std.specs.List.{flat_map}
use Rattle.std.proofs.Math.Seq.{drop-nil}
use Rattle.spin_values.specs.declared.values.Value.{Value}
use Rattle.spin_code.specs.declared.act.Act.{Act}
use Rattle.spin_code.specs.declared.merge.Merge.{Merge}
use Rattle.spin_objects.specs.declared.item.Item.{Item}
use Rattle.spin_objects.specs.declared.item.Item.TheVariants as item
use Rattle.spin_objects.specs.Doing.{IsDone, args_after, items_of, last_result}
use Rattle.spin_place.specs.declared.binding.Binding.{Binding}
use Rattle.spin_plan.specs.Next.{guards_hold, NonePass}
use Rattle.spin_raise.specs.declared.bound.Runner.{Runner}
use Rattle.spin_raise.specs.declared.answer.Answer.TheVariants as answer
use Rattle.spin_raise.specs.Firing.{Units, Bound, Firing, Did, Apart, ByDefault, steps_at, is_async, leaves_jobs, firing_of}
use Rattle.spin_raise.specs.Firing.{firings, fired, or_default, left_by, one_if, merged_by, combine, answer_of_results, answer_of}
use Rattle.spin_raise.specs.Progress.{with_result, answer_after}

-- the doing of the act of a handler --------------------------------------------

pub done_items : (act : Act) (n : ℕ) (args args' : List Value) (out mid out' : List Item)
    → IsDone act args mid args' out' → mid ≡ out ++ item.Ran n ∷ [] → out' ≡ out ++ item.Ran n ∷ items_of act.steps args
done_items act n args args' out mid out' h e =
    h.items_given ∙ ap (λ xs. xs ++ items_of act.steps args) e ∙ append_assoc out (item.Ran n ∷ []) (items_of act.steps args)

-- which binding fires next ----------------------------------------------------

later_pass : (p : Binding → Bool) (b : Binding) (bs : List Binding) (from to : ℕ) → NonePass p (b ∷ bs) (suc from) (suc to) → NonePass p bs from to
later_pass p b bs from to h = λ k low high. h (suc k) (omega arith) (omega arith)

tail_pass : (p : Binding → Bool) (b : Binding) (bs : List Binding) (to : ℕ) → NonePass p (b ∷ bs) zero (suc to) → NonePass p bs zero to
tail_pass p b bs to h = λ k low high. h (suc k) (omega arith) (omega arith)

-- the bindings that don't fire are passed over
pub firings_skip : (by : Runner) (u : Units) (bs : List Binding) (args : List Value) (from at : ℕ) → from ≤ at
    → NonePass (guards_hold u.tests args) bs from at → firings by u (drop from bs) args ≡ firings by u (drop at bs) args
firings_skip by u [] args from at le h = ap (λ xs. firings by u xs args) (drop-nil from ∙ sym (drop-nil at))
firings_skip by u (b ∷ bs) args zero zero le h = refl
firings_skip by u (b ∷ bs) args zero (suc at) le h =
    ap (λ t. cond t (firing_of by u b args ∷ firings by u bs (left_by (firing_of by u b args))) (firings by u bs args)) (h zero (omega arith) (omega arith))
    ∙ firings_skip by u bs args zero at (omega arith) (tail_pass (guards_hold u.tests args) b bs at h)
firings_skip by u (b ∷ bs) args (suc from) zero le h = absurd (omega (arith, le))
firings_skip by u (b ∷ bs) args (suc from) (suc at) le h = firings_skip by u bs args from at (omega (arith, le)) (later_pass (guards_hold u.tests args) b bs from at h)

-- none fires any more
pub firings_end : (by : Runner) (u : Units) (bs : List Binding) (args : List Value) (from : ℕ) → NonePass (guards_hold u.tests args) bs from (length bs) → firings by u (drop from bs) args ≡ []
firings_end by u [] args from h = ap (λ xs. firings by u xs args) (drop-nil from)
firings_end by u (b ∷ bs) args zero h =
    ap (λ t. cond t (firing_of by u b args ∷ firings by u bs (left_by (firing_of by u b args))) (firings by u bs args)) (h zero (omega arith) (omega arith))
    ∙ firings_end by u bs args zero (λ k low high. h (suc k) (omega arith) (omega arith))
firings_end by u (b ∷ bs) args (suc from) h = firings_end by u bs args from (λ k low high. h (suc k) (omega arith) (omega arith))

-- the binding at a position fires
pub firings_here : (by : Runner) (u : Units) (bs : List Binding) (b : Binding) (args : List Value) (at : ℕ) → slice_get bs at ≡ Some b
    → guards_hold u.tests args b ≡ true → firings by u (drop at bs) args ≡ firing_of by u b args ∷ firings by u (drop (suc at) bs) (left_by (firing_of by u b args))
firings_here by u [] b args at there h = cc
firings_here by u (c ∷ bs) b args zero there h =
    let P : Binding → Type 0 = λ x. firings by u (x ∷ bs) args ≡ firing_of by u b args ∷ firings by u bs (left_by (firing_of by u b args)) in
    subst P (sym (ap (λ o. unwrap_or o c) there)) (ap (λ t. cond t (firing_of by u b args ∷ firings by u bs (left_by (firing_of by u b args))) (firings by u bs args)) h)
firings_here by u (c ∷ bs) b args (suc at) there h = firings_here by u bs b args at there h

-- the answer so far -----------------------------------------------------------

-- none of these is the default
abbrev pub AreBindings : List Firing → Type 0
AreBindings [] = Unit {0}
AreBindings (Did n m given left ∷ fs) = AreBindings fs
AreBindings (Apart n args ∷ fs) = AreBindings fs
AreBindings (ByDefault given left ∷ fs) = ⊥

-- a binding's firing is no default
pub firing_is : (by : Runner) (u : Units) (b : Binding) (args : List Value) (fs : List Firing) → AreBindings fs → AreBindings (firing_of by u b args ∷ fs)
firing_is by u b args fs h =
    elim (is_async b.mode && leaves_jobs by) as (λ t. AreBindings
    (cond t (Apart b.number args) (Did b.number (not (is_async b.mode)) (items_of (steps_at u b.handler) args) (args_after (steps_at u b.handler) args)) ∷ fs)) [ true ↦ h | false ↦ h ]

pub firings_are : (by : Runner) (u : Units) (bs : List Binding) (args : List Value) → AreBindings (firings by u bs args)
firings_are by u [] args = tt
firings_are by u (b ∷ bs) args =
    elim (guards_hold u.tests args b) as (λ t. AreBindings (cond t (firing_of by u b args ∷ firings by u bs (left_by (firing_of by u b args))) (firings by u bs args))) [
      | true ↦ firing_is by u b args _ (firings_are by u bs (left_by (firing_of by u b args)))
      | false ↦ firings_are by u bs args
    ]

fold_value : (m : Merge) (fs : List Firing) (n : ℕ) → AreBindings fs → fold (answer_after m) (answer.Value n) fs ≡ answer.Value (fold (combine m) n (flat_map merged_by fs))
fold_value m [] n h = refl
fold_value m (Did k true given left ∷ fs) n h =
    elim (last_result given) as (λ o. fold (answer_after m) (with_result m (answer.Value n) o) fs ≡ answer.Value (fold (combine m) n (one_if o ++ flat_map merged_by fs))) [
      | None ↦ fold_value m fs n h
      | Some next ↦ fold_value m fs (combine m n next) h
    ]
fold_value m (Did k false given left ∷ fs) n h = fold_value m fs n h
fold_value m (Apart k args ∷ fs) n h = fold_value m fs n h
fold_value m (ByDefault given left ∷ fs) n h = absurd h

fold_done : (m : Merge) (fs : List Firing) → AreBindings fs → fold (answer_after m) answer.Done fs ≡ answer_of_results m (flat_map merged_by fs)
fold_done m [] h = refl
fold_done m (Did k true given left ∷ fs) h =
    elim (last_result given) as (λ o. fold (answer_after m) (with_result m answer.Done o) fs ≡ answer_of_results m (one_if o ++ flat_map merged_by fs)) [
      | None ↦ fold_done m fs h
      | Some next ↦ fold_value m fs next h
    ]
fold_done m (Did k false given left ∷ fs) h = fold_done m fs h
fold_done m (Apart k args ∷ fs) h = fold_done m fs h
fold_done m (ByDefault given left ∷ fs) h = absurd h

-- the answer that is built up along bindings is that of their firings
pub fold_answer : (m : Merge) (fs : List Firing) → AreBindings fs → fold (answer_after m) answer.NoHandler fs ≡ answer_of m fs
fold_answer m [] h = refl
fold_answer m (Did k true given left ∷ fs) h =
    elim (last_result given) as (λ o. fold (answer_after m) (with_result m answer.NoHandler o) fs ≡ answer_of_results m (one_if o ++ flat_map merged_by fs)) [
      | None ↦ fold_done m fs h
      | Some next ↦ fold_value m fs next h
    ]
fold_answer m (Did k false given left ∷ fs) h = fold_done m fs h
fold_answer m (Apart k args ∷ fs) h = fold_done m fs h
fold_answer m (ByDefault given left ∷ fs) h = absurd h

fold_default : (m : Merge) (u : Units) (default : ℕ) (args : List Value) (fs : List Firing) → AreBindings fs
    → fold (answer_after m) answer.NoHandler (or_default u default args fs) ≡ answer_of m (or_default u default args fs)
fold_default m u default args [] h =
    elim (default == 0) as (λ t. fold (answer_after m) answer.NoHandler (cond t [] (ByDefault (items_of (steps_at u default) args) (args_after (steps_at u default) args) ∷ []))
    ≡ answer_of m (cond t [] (ByDefault (items_of (steps_at u default) args) (args_after (steps_at u default) args) ∷ []))) [ true ↦ refl | false ↦ refl ]
fold_default m u default args (f ∷ fs) h = fold_answer m (f ∷ fs) h

-- the answer that is built up along the way is that of all that fired
pub fold_fired : (by : Runner) (u : Units) (e : Bound) (args : List Value) → fold (answer_after e.merge) answer.NoHandler (fired by u e args) ≡ answer_of e.merge (fired by u e args)
fold_fired by u e args = fold_default e.merge u e.default args (firings by u e.bindings args) (firings_are by u e.bindings args)
