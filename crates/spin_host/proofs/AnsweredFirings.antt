-- What is due is answered.
use Rattle.std.proofs.Common.{◌≡◌, ℕ, ◌+◌, ◌<◌, ◌==◌, Bool, true, false, cond, List, [], ◌∷◌, ◌++◌, length, Option, Some, None, refl, sym, ap, ◌∙◌, arith, inl, inr}
use Rattle.std.specs.Prelude.{slice_get, flat_map}
use Rattle.std.specs.Option.{option_map}
use Rattle.std.proofs.lemmas.Bool.Decides.{nat_tests}
use Rattle.std.proofs.lemmas.List.{append-nil}
use Rattle.std.proofs.lemmas.Option.{slice_get_cases}
use Rattle.spin_values.specs.declared.types.EventType.{EventType}
use Rattle.spin_values.specs.declared.values.Value.{Value}
use Rattle.spin_code.specs.declared.merge.Merge.{Merge}
use Rattle.spin_objects.specs.declared.item.Item.{Item}
use Rattle.spin_objects.specs.declared.item.Item.TheVariants as item
use Rattle.spin_objects.specs.Doing.{last_result, items_of, args_after}
use Rattle.spin_place.specs.declared.binding.Binding.{Binding}
use Rattle.spin_raise.specs.declared.answer.Answer.{Answer}
use Rattle.spin_raise.specs.declared.answer.Answer.TheVariants as answer
use Rattle.spin_raise.specs.declared.bound.Runner.TheVariants as runner
use Rattle.spin_raise.specs.Firing.{Units, Bound, Firing, Did, Apart, ByDefault, is_async, firing_of, steps_at, left_by, items_by, merged_by, one_if}
use Rattle.spin_raise.specs.Progress.{answer_after, with_result}
use Rattle.spin_raise.proofs.RaiseSteps.{merged_after}
use Rattle.spin_host.specs.declared.frame.Due.TheVariants as due
use Rattle.spin_host.specs.declared.frame.Frame.{Frame}
use Rattle.spin_host.specs.declared.gift.Given.{Given}
use Rattle.spin_host.specs.Gifts.{items_given, args_given, gift_fault}
use Rattle.spin_host.specs.OpenRaises.{Reached, Unreached, Done, Gave, Declined, gives, mode_of}
use Rattle.spin_host.specs.Frames.{due_in, next_if, Tells, binding_settled, default_settled}
use Rattle.spin_host.proofs.ToldFirings.{tells}

-- what is due ----------------------------------------------------------------------

pub due_binding : (e : Bound) (f : Frame) (at : ℕ) (b : Binding) → f.due ≡ Some (due.Binding at) → slice_get e.bindings at ≡ Some b → due_in e f ≡ Some (Reached at b)
due_binding e f at b is here = ap (next_if e) is ∙ ap (option_map (Reached at)) here

pub due_default : (e : Bound) (f : Frame) → f.due ≡ Some due.Default → 0 < e.default → due_in e f ≡ Some (Unreached e.default)
due_default e f is some =
    let no : (e.default == 0) ≡ false = not_zero e.default some in
    ap (next_if e) is ∙ ap (λ t. cond t None (Some (Unreached e.default))) no
  where
    not_zero : (n : ℕ) → 0 < n → (n == 0) ≡ false
    not_zero n some = grind (arith, nat_tests)

the_binding : (e : Bound) (at : ℕ) → at < length e.bindings → (b : Binding) × (slice_get e.bindings at ≡ Some b)
the_binding e at within =
    elim (slice_get_cases e.bindings at).1 [
      | inl (b, inside, here, is) ↦ (b, here)
      | inr (past, none) ↦ absurd (omega (arith, past, within))
    ]

-- the host's guard didn't hold -----------------------------------------------------

pub declines_binding : (u : Units) (sig : EventType) (e : Bound) (at : ℕ) (f f' : Frame) → f.due ≡ Some (due.Binding at) → at < length e.bindings → f'.progress.from ≡ at + 1
    → f'.progress.args ≡ f.progress.args → f'.progress.answer ≡ f.progress.answer → f'.asked ≡ f.asked → f'.due ≡ None → Tells u sig e Declined f f' [] []
declines_binding u sig e at f f' is within from left so_far asked none =
    let b = the_binding e at within in
    tells u e (Reached at b.0) Declined f f' (due_binding e f at b.0 is b.1) from left so_far asked (ap (next_if e) none) sig [] [] refl refl

pub declines_default : (u : Units) (sig : EventType) (e : Bound) (f f' : Frame) → f.due ≡ Some due.Default → 0 < e.default → f'.progress.from ≡ length e.bindings
    → f'.progress.args ≡ f.progress.args → f'.progress.answer ≡ f.progress.answer → f'.asked ≡ true → f'.due ≡ None → Tells u sig e Declined f f' [] []
declines_default u sig e f f' is some from left so_far asked none =
    tells u e (Unreached e.default) Declined f f' (due_default e f is some) from left so_far asked (ap (next_if e) none) sig [] [] refl refl

-- how a firing is settled -----------------------------------------------------------

-- The firing left these arguments and a word to be merged, its items stand behind those before, and the frame is settled by both.
pub record IsSettled (g : Firing) (Merges : Option ℕ → Type 0) (settle : Option ℕ → Frame → Frame) (f f' : Frame) (before after : List Item) : Type 0 where
  pub word : Option ℕ
  pub args : List Value
  pub left : args ≡ left_by g
  pub merges : Merges word
  pub items : after ≡ before ++ items_by g
  pub settled : f' ≡ settle word record f { progress = record { from = f.progress.from; answer = f.progress.answer; args = args } }

-- a binding's firing, whose word is merged by the event's way
abbrev pub IsBindingSettled : Bound → ℕ → Firing → Frame → Frame → List Item → List Item → Type 0
IsBindingSettled e at g = IsSettled g (λ word. merged_by g ≡ one_if word) (binding_settled e.merge at)

-- the default's, whose word is its result
abbrev pub IsDefaultSettled : Bound → List Item → List Value → Frame → Frame → List Item → List Item → Type 0
IsDefaultSettled e items args = IsSettled (ByDefault items args) (λ word. word ≡ last_result items) (default_settled e)

one_firing : (f : Firing) → flat_map items_by (f ∷ []) ≡ items_by f
one_firing f = append-nil (items_by f)

-- its act was done, or the host gave ------------------------------------------------

one_same : (o w : Option ℕ) → one_if o ≡ one_if w → w ≡ o
one_same None None e = refl
one_same None (Some n) e = cc
one_same (Some m) None e = cc
one_same (Some m) (Some n) e = cc

merged_gave : (m : Merge) (a : Answer) (args : List Value) (gift : List Given) (at : ℕ) (b : Binding) (word : Option ℕ)
    → merged_by (gives args gift (Reached at b)) ≡ one_if word → with_result m a word ≡ answer_after m a (gives args gift (Reached at b))
merged_gave m a args gift at b word = choose (is_async b.mode)
  where
    choose : (t : Bool) → merged_by (cond t (Apart b.number args) (Did b.number true (items_given gift) (args_given args gift))) ≡ one_if word
        → with_result m a word ≡ answer_after m a (cond t (Apart b.number args) (Did b.number true (items_given gift) (args_given args gift)))
    choose true e = ap (with_result m a) (one_same None word e)
    choose false e = ap (with_result m a) (one_same (last_result (items_given gift)) word e)

module _ (u : Units) (sig : EventType) (e : Bound) (f f' : Frame) (out out' : List Item) where
  pub does_binding : (at : ℕ) (b : Binding) → f.due ≡ Some (due.Binding at) → slice_get e.bindings at ≡ Some b
      → IsBindingSettled e at (firing_of runner.Raiser u b f.progress.args) f f' out out' → Tells u sig e Done f f' out out'
  does_binding at b is here s =
      tells u e (Reached at b) Done f f' (due_binding e f at b is here)
      (ap (λ (x : Frame). x.progress.from) s.settled)
      (ap (λ (x : Frame). x.progress.args) s.settled ∙ s.left)
      (ap (λ (x : Frame). x.progress.answer) s.settled ∙ merged_after e.merge f.progress.answer runner.Raiser u b f.progress.args s.word s.merges)
      (ap (λ (x : Frame). x.asked) s.settled)
      (ap (λ (x : Frame). due_in e x) s.settled)
      sig out out' refl (s.items ∙ ap (λ xs. out ++ xs) (sym (one_firing (firing_of runner.Raiser u b f.progress.args))))

  pub does_default : f.due ≡ Some due.Default → 0 < e.default
      → IsDefaultSettled e (items_of (steps_at u e.default) f.progress.args) (args_after (steps_at u e.default) f.progress.args) f f' out out' → Tells u sig e Done f f' out out'
  does_default is some s =
      tells u e (Unreached e.default) Done f f' (due_default e f is some)
      (ap (λ (x : Frame). x.progress.from) s.settled)
      (ap (λ (x : Frame). x.progress.args) s.settled ∙ s.left)
      (ap (λ (x : Frame). x.progress.answer) s.settled ∙ ap answer.Default s.merges)
      (ap (λ (x : Frame). x.asked) s.settled)
      (ap (λ (x : Frame). due_in e x) s.settled)
      sig out out' refl (s.items ∙ ap (λ xs. out ++ xs) (sym (append-nil (item.Ran 0 ∷ items_of (steps_at u e.default) f.progress.args))))

  pub gives_binding : (at : ℕ) (b : Binding) (gift : List Given) → f.due ≡ Some (due.Binding at) → slice_get e.bindings at ≡ Some b → gift_fault sig b.mode gift ≡ None
      → IsBindingSettled e at (gives f.progress.args gift (Reached at b)) f f' out out' → Tells u sig e (Gave gift) f f' out out'
  gives_binding at b gift is here fit s =
      tells u e (Reached at b) (Gave gift) f f' (due_binding e f at b is here)
      (ap (λ (x : Frame). x.progress.from) s.settled)
      (ap (λ (x : Frame). x.progress.args) s.settled ∙ s.left)
      (ap (λ (x : Frame). x.progress.answer) s.settled ∙ merged_gave e.merge f.progress.answer f.progress.args gift at b s.word s.merges)
      (ap (λ (x : Frame). x.asked) s.settled)
      (ap (λ (x : Frame). due_in e x) s.settled)
      sig out out' fit (s.items ∙ ap (λ xs. out ++ xs) (sym (one_firing (gives f.progress.args gift (Reached at b)))))

  pub gives_default : (gift : List Given) → f.due ≡ Some due.Default → 0 < e.default → gift_fault sig (mode_of (Unreached e.default)) gift ≡ None
      → IsDefaultSettled e (items_given gift) (args_given f.progress.args gift) f f' out out' → Tells u sig e (Gave gift) f f' out out'
  gives_default gift is some fit s =
      tells u e (Unreached e.default) (Gave gift) f f' (due_default e f is some)
      (ap (λ (x : Frame). x.progress.from) s.settled)
      (ap (λ (x : Frame). x.progress.args) s.settled ∙ s.left)
      (ap (λ (x : Frame). x.progress.answer) s.settled ∙ ap answer.Default s.merges)
      (ap (λ (x : Frame). x.asked) s.settled)
      (ap (λ (x : Frame). due_in e x) s.settled)
      sig out out' fit (s.items ∙ ap (λ xs. out ++ xs) (sym (append-nil (item.Ran 0 ∷ items_given gift))))
