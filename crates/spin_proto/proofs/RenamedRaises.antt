-- A raise where bindings have other numbers tells of the other numbers, and is the same for the rest.
use Rattle.std.proofs.Common.{◌≡◌, ℕ, suc, ◌==◌, Bool, true, false, not, ◌&&◌, List, [], ◌∷◌, ◌++◌, map, refl, sym, ap, ◌∙◌}
use Rattle.std.specs.Prelude.{if◌then◌else◌, Result, Ok, Err}
use Rattle.std.specs.List.{flat_map}
use Rattle.std.proofs.lemmas.List.{map-append}
use Rattle.spin_values.specs.declared.values.Value.{Value}
use Rattle.spin_headers.specs.declared.fault.HeaderFault.{HeaderFault}
use Rattle.spin_code.specs.declared.act.ActStep.{ActStep}
use Rattle.spin_code.specs.declared.act.ActStep.TheVariants as act
use Rattle.spin_code.specs.declared.merge.Merge.{Merge}
use Rattle.spin_objects.specs.declared.item.Item.{Item}
use Rattle.spin_objects.specs.declared.item.Item.TheVariants as item
use Rattle.spin_objects.specs.Doing.{up_or_dropped, step_args, step_items, items_of, args_after}
use Rattle.spin_objects.specs.Layers.{layer_args}
use Rattle.spin_place.specs.declared.binding.Binding.{Binding}
use Rattle.spin_plan.specs.Next.{guards_hold}
use Rattle.spin_raise.specs.declared.answer.Answer.{Answer}
use Rattle.spin_raise.specs.declared.bound.Runner.{Runner}
use Rattle.spin_raise.specs.Firing.{Units, Bound, Firing, Did, Apart, ByDefault, steps_at, is_async, leaves_jobs, firing_of}
use Rattle.spin_raise.specs.Firing.{left_by, firings, or_default, fired, items_by, merged_by, answer_of_results, answer_of}
use Rattle.spin_proto.specs.declared.walk.Upward.{Upward}
use Rattle.spin_proto.specs.declared.reply.Step.TheVariants as step
use Rattle.spin_proto.specs.Whole.{Mark, Plain, Queued, Raised, marks_at, up_of, ups_of, marks_up, marks_of, raised_with, raised}
use Rattle.spin_proto.specs.Renamings.{renamed_step}
use Rattle.spin_table.specs.Renamings.{IsRenamedBinding, AreRenamed}
use Rattle.spin_table.proofs.RenamedBindings.{same_rest}

-- the same of marks, items and firings
abbrev pub renamed_mark : (ℕ → ℕ) → Mark → Mark
renamed_mark to (Plain s) = Plain (renamed_step to s)
renamed_mark to (Queued event number args) = Queued event (to number) args

abbrev pub renamed_item : (ℕ → ℕ) → Item → Item
renamed_item to (item.Ran number) = item.Ran (to number)
renamed_item to (item.Job number args) = item.Job (to number) args
renamed_item to i = i

abbrev pub renamed_firing : (ℕ → ℕ) → Firing → Firing
renamed_firing to (Did number merged given left) = Did (to number) merged given left
renamed_firing to (Apart number args) = Apart (to number) args
renamed_firing to (ByDefault given left) = ByDefault given left

abbrev pub renamed_raised : (ℕ → ℕ) → Raised → Raised
renamed_raised to r = record { answer = r.answer; marks = map (renamed_mark to) r.marks }

-- an event as raises find it, with its bindings under other numbers
pub record IsSameBound (to : ℕ → ℕ) (b c : Bound) : Type 0 where
  pub bindings : AreRenamed to b.bindings c.bindings
  pub merge : c.merge ≡ b.merge
  pub default : c.default ≡ b.default

abbrev pub AreSameBounds : (ℕ → ℕ) → List Bound → List Bound → Type 0
AreSameBounds to [] [] = Unit {0}
AreSameBounds to (b ∷ bs) (c ∷ cs) = IsSameBound to b c × AreSameBounds to bs cs
AreSameBounds to bs cs = ⊥

-- what is made of each element in turn, before and after
flat_map-same : {X Y : Type 0} (f : X → X) (h : X → List Y) → ((x : X) → h (f x) ≡ h x) → (xs : List X) → flat_map h (map f xs) ≡ flat_map h xs
flat_map-same f h same [] = refl
flat_map-same f h same (x ∷ xs) = ap (λ ys. ys ++ flat_map h (map f xs)) (same x) ∙ ap (λ ys. h x ++ ys) (flat_map-same f h same xs)

pub flat_map-both : {X Y : Type 0} (f : X → X) (g : Y → Y) (h : X → List Y) → ((x : X) → h (f x) ≡ map g (h x)) → (xs : List X) → flat_map h (map f xs) ≡ map g (flat_map h xs)
flat_map-both f g h same [] = refl
flat_map-both f g h same (x ∷ xs) =
    ap (λ ys. ys ++ flat_map h (map f xs)) (same x) ∙ ap (λ ys. map g (h x) ++ ys) (flat_map-both f g h same xs) ∙ sym (map-append g (h x) (flat_map h xs))

-- of an act no item names a binding
layer_own : (to : ℕ → ℕ) (event : ℕ) (r : Result (List Value) HeaderFault) → map (renamed_item to) (up_or_dropped event r ∷ []) ≡ up_or_dropped event r ∷ []
layer_own to event (Ok args) = refl
layer_own to event (Err fault) = refl

step_own : (to : ℕ → ℕ) (s : ActStep) (args : List Value) → map (renamed_item to) (step_items s args) ≡ step_items s args
step_own to (act.Set arg e) args = refl
step_own to (act.Send endpoint arg from) args = refl
step_own to (act.Result e) args = refl
step_own to (act.Up event parts) args = refl
step_own to (act.Layer kind event) args = layer_own to event (layer_args kind args)

pub items_own : (to : ℕ → ℕ) (steps : List ActStep) (args : List Value) → map (renamed_item to) (items_of steps args) ≡ items_of steps args
items_own to [] args = refl
items_own to (s ∷ steps) args =
    map-append (renamed_item to) (step_items s args) (items_of steps (step_args s args))
    ∙ ap (λ is. is ++ map (renamed_item to) (items_of steps (step_args s args))) (step_own to s args)
    ∙ ap (λ is. step_items s args ++ is) (items_own to steps (step_args s args))

marks_one : (to : ℕ → ℕ) (event : ℕ) (i : Item) → marks_at event (renamed_item to i) ≡ map (renamed_mark to) (marks_at event i)
marks_one to event (item.Ran number) = refl
marks_one to event (item.Result n) = refl
marks_one to event (item.Send endpoint bytes) = refl
marks_one to event (item.Up up args) = refl
marks_one to event (item.Dropped fault) = refl
marks_one to event (item.Job number args) = refl

ups_one : (to : ℕ → ℕ) (i : Item) → up_of (renamed_item to i) ≡ up_of i
ups_one to (item.Ran number) = refl
ups_one to (item.Result n) = refl
ups_one to (item.Send endpoint bytes) = refl
ups_one to (item.Up up args) = refl
ups_one to (item.Dropped fault) = refl
ups_one to (item.Job number args) = refl

module _ (to : ℕ → ℕ) (first other : ℕ → List Value → Raised) (same : (event : ℕ) (args : List Value) → other event args ≡ renamed_raised to (first event args)) where
  up_both : (up : Upward) → marks_up other up ≡ map (renamed_mark to) (marks_up first up)
  up_both up =
      ap (λ (r : Raised). Plain (step.Up up.event) ∷ r.marks ++ Plain (step.Back r.answer) ∷ []) (same up.event up.args)
      ∙ ap (λ ms. Plain (step.Up up.event) ∷ ms) (sym (map-append (renamed_mark to) (first up.event up.args).marks (Plain (step.Back (first up.event up.args).answer) ∷ [])))

  all_ups : (ups : List Upward) → flat_map (marks_up other) ups ≡ map (renamed_mark to) (flat_map (marks_up first) ups)
  all_ups [] = refl
  all_ups (up ∷ ups) =
      ap (λ ms. ms ++ flat_map (marks_up other) ups) (up_both up) ∙ ap (λ ms. map (renamed_mark to) (marks_up first up) ++ ms) (all_ups ups)
      ∙ sym (map-append (renamed_mark to) (marks_up first up) (flat_map (marks_up first) ups))

  -- the marks of what was given
  pub given_both : (event : ℕ) (given : List Item) → marks_of event other (map (renamed_item to) given) ≡ map (renamed_mark to) (marks_of event first given)
  given_both event given =
      ap (λ ms. ms ++ flat_map (marks_up other) (ups_of (map (renamed_item to) given))) (flat_map-both (renamed_item to) (renamed_mark to) (marks_at event) (marks_one to event) given)
      ∙ ap (λ us. map (renamed_mark to) (flat_map (marks_at event) given) ++ flat_map (marks_up other) us) (flat_map-same (renamed_item to) up_of (ups_one to) given)
      ∙ ap (λ ms. map (renamed_mark to) (flat_map (marks_at event) given) ++ ms) (all_ups (ups_of given))
      ∙ sym (map-append (renamed_mark to) (flat_map (marks_at event) given) (flat_map (marks_up first) (ups_of given)))

-- the items of a firing are those of the other one
abbrev IsOwn : (ℕ → ℕ) → Firing → Type 0
IsOwn to f = items_by (renamed_firing to f) ≡ map (renamed_item to) (items_by f)

abbrev AreOwn : (ℕ → ℕ) → List Firing → Type 0
AreOwn to [] = Unit {0}
AreOwn to (f ∷ fs) = IsOwn to f × AreOwn to fs

module _ (to : ℕ → ℕ) (zero_stays : to 0 ≡ 0) (by : Runner) (u : Units) where
  fire : Bool → Bool → ℕ → ℕ → List Value → Firing
  fire apart async number handler args =
      if apart then Apart number args else Did number (not async) (items_of (steps_at u handler) args) (args_after (steps_at u handler) args)

  fire_both : (apart async : Bool) (number handler : ℕ) (args : List Value) → fire apart async (to number) handler args ≡ renamed_firing to (fire apart async number handler args)
  unfolding fire
  fire_both true async number handler args = refl
  fire_both false async number handler args = refl

  fire_own : (apart async : Bool) (number handler : ℕ) (args : List Value) → IsOwn to (fire apart async number handler args)
  unfolding fire
  fire_own true async number handler args = refl
  fire_own false async number handler args = ap (λ is. item.Ran (to number) ∷ is) (sym (items_own to (steps_at u handler) args))

  firing_both : (b c : Binding) (args : List Value) → IsRenamedBinding to b c → firing_of by u c args ≡ renamed_firing to (firing_of by u b args)
  unfolding fire
  firing_both b c args h =
      ap (λ m. fire (is_async m && leaves_jobs by) (is_async m) c.number c.handler args) (same_rest to b c (λ (x : Binding). x.mode) refl h)
      ∙ ap (λ n. fire (is_async b.mode && leaves_jobs by) (is_async b.mode) n c.handler args) h.number
      ∙ ap (λ n. fire (is_async b.mode && leaves_jobs by) (is_async b.mode) (to b.number) n args) (same_rest to b c (λ (x : Binding). x.handler) refl h)
      ∙ fire_both (is_async b.mode && leaves_jobs by) (is_async b.mode) b.number b.handler args

  firing_own : (b : Binding) (args : List Value) → IsOwn to (firing_of by u b args)
  unfolding fire
  firing_own b args = fire_own (is_async b.mode && leaves_jobs by) (is_async b.mode) b.number b.handler args

  left_both : (f : Firing) → left_by (renamed_firing to f) ≡ left_by f
  left_both (Did number merged given left) = refl
  left_both (Apart number args) = refl
  left_both (ByDefault given left) = refl

  chosen : (q : Bool) (f : Firing) (xs ys : List Firing)
      → (if q then renamed_firing to f ∷ map (renamed_firing to) xs else map (renamed_firing to) ys) ≡ map (renamed_firing to) (if q then f ∷ xs else ys)
  chosen true f xs ys = refl
  chosen false f xs ys = refl

  chosen_own : (q : Bool) (f : Firing) (xs ys : List Firing) → IsOwn to f → AreOwn to xs → AreOwn to ys → AreOwn to (if q then f ∷ xs else ys)
  chosen_own true f xs ys one more rest = (one, more)
  chosen_own false f xs ys one more rest = rest

  firings_both : (bs cs : List Binding) (args : List Value) → AreRenamed to bs cs → firings by u cs args ≡ map (renamed_firing to) (firings by u bs args)
  firings_both [] [] args h = refl
  firings_both [] (c ∷ cs) args h = absurd h
  firings_both (b ∷ bs) [] args h = absurd h
  firings_both (b ∷ bs) (c ∷ cs) args h =
      let f = firing_of by u b args in
      let one = firing_both b c args h.0 in
      let left : left_by (firing_of by u c args) ≡ left_by f = ap left_by one ∙ left_both f in
      ap (λ q. if q then firing_of by u c args ∷ firings by u cs (left_by (firing_of by u c args)) else firings by u cs args) (same_rest to b c (guards_hold u.tests args) refl h.0)
      ∙ ap (λ x. if guards_hold u.tests args b then x ∷ firings by u cs (left_by (firing_of by u c args)) else firings by u cs args) one
      ∙ ap (λ x. if guards_hold u.tests args b then renamed_firing to f ∷ firings by u cs x else firings by u cs args) left
      ∙ ap (λ x. if guards_hold u.tests args b then renamed_firing to f ∷ x else firings by u cs args) (firings_both bs cs (left_by f) h.1)
      ∙ ap (λ x. if guards_hold u.tests args b then renamed_firing to f ∷ map (renamed_firing to) (firings by u bs (left_by f)) else x) (firings_both bs cs args h.1)
      ∙ chosen (guards_hold u.tests args b) f (firings by u bs (left_by f)) (firings by u bs args)

  firings_own : (bs : List Binding) (args : List Value) → AreOwn to (firings by u bs args)
  firings_own [] args = tt
  firings_own (b ∷ bs) args =
      chosen_own (guards_hold u.tests args b) (firing_of by u b args) (firings by u bs (left_by (firing_of by u b args))) (firings by u bs args)
      (firing_own b args) (firings_own bs (left_by (firing_of by u b args))) (firings_own bs args)

  none_or : (q : Bool) (f : Firing) → renamed_firing to f ≡ f → (if q then [] else f ∷ []) ≡ map (renamed_firing to) (if q then [] else f ∷ [])
  none_or true f same = refl
  none_or false f same = ap (λ x. x ∷ []) (sym same)

  none_or_own : (q : Bool) (f : Firing) → IsOwn to f → AreOwn to (if q then [] else f ∷ [])
  none_or_own true f own = tt
  none_or_own false f own = (own, tt)

  default_both : (default : ℕ) (args : List Value) (fs : List Firing) → or_default u default args (map (renamed_firing to) fs) ≡ map (renamed_firing to) (or_default u default args fs)
  default_both default args [] = none_or (default == 0) (ByDefault (items_of (steps_at u default) args) (args_after (steps_at u default) args)) refl
  default_both default args (f ∷ fs) = refl

  default_own : (default : ℕ) (args : List Value) (fs : List Firing) → AreOwn to fs → AreOwn to (or_default u default args fs)
  default_own default args [] own =
      none_or_own (default == 0) (ByDefault (items_of (steps_at u default) args) (args_after (steps_at u default) args))
      (ap (λ n. item.Ran n ∷ items_of (steps_at u default) args) (sym zero_stays) ∙ ap (λ is. item.Ran (to 0) ∷ is) (sym (items_own to (steps_at u default) args)))
  default_own default args (f ∷ fs) own = own

  fired_both : (b c : Bound) (args : List Value) → IsSameBound to b c → fired by u c args ≡ map (renamed_firing to) (fired by u b args)
  fired_both b c args h =
      ap (λ n. or_default u n args (firings by u c.bindings args)) h.default
      ∙ ap (or_default u b.default args) (firings_both b.bindings c.bindings args h.bindings)
      ∙ default_both b.default args (firings by u b.bindings args)

  fired_own : (b : Bound) (args : List Value) → AreOwn to (fired by u b args)
  fired_own b args = default_own b.default args (firings by u b.bindings args) (firings_own b.bindings args)

  merged_both : (f : Firing) → merged_by (renamed_firing to f) ≡ merged_by f
  merged_both (Did number true given left) = refl
  merged_both (Did number false given left) = refl
  merged_both (Apart number args) = refl
  merged_both (ByDefault given left) = refl

  answers_both : (m : Merge) (fs : List Firing) → answer_of m (map (renamed_firing to) fs) ≡ answer_of m fs
  answers_both m [] = refl
  answers_both m (ByDefault given left ∷ fs) = refl
  answers_both m (Did number merged given left ∷ fs) = ap (answer_of_results m) (flat_map-same (renamed_firing to) merged_by merged_both (Did number merged given left ∷ fs))
  answers_both m (Apart number args ∷ fs) = ap (answer_of_results m) (flat_map-same (renamed_firing to) merged_by merged_both (Apart number args ∷ fs))

  module _ (event : ℕ) (first other : ℕ → List Value → Raised) (same : (event : ℕ) (args : List Value) → other event args ≡ renamed_raised to (first event args)) where
    marks_both : (fs : List Firing) → AreOwn to fs
        → flat_map (λ f. marks_of event other (items_by f)) (map (renamed_firing to) fs) ≡ map (renamed_mark to) (flat_map (λ f. marks_of event first (items_by f)) fs)
    marks_both [] own = refl
    marks_both (f ∷ fs) own =
        ap (λ is. marks_of event other is ++ flat_map (λ f. marks_of event other (items_by f)) (map (renamed_firing to) fs)) own.0
        ∙ ap (λ ms. ms ++ flat_map (λ f. marks_of event other (items_by f)) (map (renamed_firing to) fs)) (given_both to first other same event (items_by f))
        ∙ ap (λ ms. map (renamed_mark to) (marks_of event first (items_by f)) ++ ms) (marks_both fs own.1)
        ∙ sym (map-append (renamed_mark to) (marks_of event first (items_by f)) (flat_map (λ f. marks_of event first (items_by f)) fs))

    with_both : (b c : Bound) (args : List Value) → IsSameBound to b c → raised_with by u event c other args ≡ renamed_raised to (raised_with by u event b first args)
    with_both b c args h =
        let raised_of : Merge → List Firing → Raised = λ m fs. record { answer = answer_of m fs; marks = flat_map (λ f. marks_of event other (items_by f)) fs } in
        ap (λ m. raised_of m (fired by u c args)) h.merge ∙ ap (raised_of b.merge) (fired_both b c args h)
        ∙ ap (λ (a : Answer). record { answer = a; marks = flat_map (λ f. marks_of event other (items_by f)) (map (renamed_firing to) (fired by u b args)) }) (answers_both b.merge (fired by u b args))
        ∙ ap (λ (ms : List Mark). record { answer = answer_of b.merge (fired by u b args); marks = ms }) (marks_both (fired by u b args) (fired_own b args))

  either : (q : Bool) (x y : Raised) → (if q then renamed_raised to x else renamed_raised to y) ≡ renamed_raised to (if q then x else y)
  either true x y = refl
  either false x y = refl

  -- a whole raise
  pub raised_both : (bs cs : List Bound) (from event : ℕ) (args : List Value) → AreSameBounds to bs cs → raised by u cs from event args ≡ renamed_raised to (raised by u bs from event args)
  raised_both [] [] from event args h = refl
  raised_both [] (c ∷ cs) from event args h = absurd h
  raised_both (b ∷ bs) [] from event args h = absurd h
  raised_both (b ∷ bs) (c ∷ cs) from event args h =
      ap (λ x. if from == event then x else raised by u cs (suc from) event args)
      (with_both event (raised by u bs (suc from)) (raised by u cs (suc from)) (λ to_event up_args. raised_both bs cs (suc from) to_event up_args h.1) b c args h.0)
      ∙ ap (λ x. if from == event then renamed_raised to (raised_with by u event b (raised by u bs (suc from)) args) else x) (raised_both bs cs (suc from) event args h.1)
      ∙ either (from == event) (raised_with by u event b (raised by u bs (suc from)) args) (raised by u bs (suc from) event args)
