-- Where boxes lie changes nothing in what expressions, acts and raises come to.
use Rattle.std.proofs.Common.{◌≡◌, ◌∙◌, ◌+◌, ◌-◌, ◌%◌, ◌^◌, ℕ, suc, not, ◌&&◌, ◌||◌, List, [], ◌∷◌, ◌++◌, map, refl, ap}
use Rattle.std.specs.Prelude.{◌==◌, if◌then◌else◌, slice_get, drop, Option, Some, None, fold, bit_and, bit_or}
use Rattle.std.specs.Option.{option_map}
use Rattle.std.specs.List.{list_all, flat_map}
use Rattle.std.proofs.lemmas.List.{drop-map}
use Rattle.std.proofs.lemmas.Option.{slice_get-map}
use Rattle.spin_values.specs.First.{numbered}
use Rattle.spin_values.specs.declared.values.Value.{Value}
use Rattle.spin_values.specs.declared.values.Value.TheVariants as value
use Rattle.spin_code.specs.declared.expr.Expr.{Expr}
use Rattle.spin_code.specs.declared.expr.Expr.TheVariants as expr
use Rattle.spin_code.specs.declared.test.Test.{Test}
use Rattle.spin_code.specs.declared.test.Test.TheVariants as test
use Rattle.spin_code.specs.declared.act.Act.{Act}
use Rattle.spin_code.specs.declared.act.Part.{Part}
use Rattle.spin_code.specs.declared.act.Part.TheVariants as part
use Rattle.spin_code.specs.declared.act.ActStep.{ActStep}
use Rattle.spin_code.specs.declared.act.ActStep.TheVariants as step
use Rattle.spin_code.specs.declared.merge.Merge.{Merge}
use Rattle.spin_code.specs.declared.merge.Merge.TheVariants as merge
use Rattle.spin_code.specs.Value.{value_of}
use Rattle.spin_code.specs.Truth.{truth_of, compares, holds_if}
use Rattle.spin_objects.specs.declared.item.Item.TheVariants as item
use Rattle.spin_objects.specs.Doing.{part_of, step_args, step_items, args_after, items_of, last_result}
use Rattle.spin_objects.specs.Units.{act_if}
use Rattle.spin_objects.proofs.NumberedItems.{numbered-map}
use Rattle.spin_place.specs.declared.binding.Binding.{Binding}
use Rattle.spin_plan.specs.Next.{guard_holds, guards_hold}
use Rattle.spin_raise.specs.declared.bound.Runner.{Runner}
use Rattle.spin_raise.specs.declared.answer.Answer.TheVariants as answer
use Rattle.spin_raise.specs.Firing.{Units, Bound, Firing, Did, Apart, ByDefault, steps_at, is_async, leaves_jobs, firing_of}
use Rattle.spin_raise.specs.Firing.{left_by, firings, or_default, fired, items_by, merged_by, combine, answer_of_results, answer_of}
use Rattle.spin_proto.specs.Whole.{Raised, marks_of, raised_with, raised, raised_after, job_answer, job_of}
use Rattle.spin_grammar.specs.Bare.{bare_expr, bare_test, bare_part, bare_step, bare_merge}

-- ---- expressions and tests

value_same : (e : Expr) (args : List Value) → value_of (bare_expr e) args ≡ value_of e args
value_same (expr.Const n) args = refl
value_same (expr.Arg a) args = refl
value_same (expr.Field a offset width) args = refl
value_same (expr.Plus' p x q y) args = λ i. (value_same x args i + value_same y args i) % 2 ^ 64
value_same (expr.And' p x q y) args = λ i. bit_and (value_same x args i) (value_same y args i)
value_same (expr.Or' p x q y) args = λ i. bit_or (value_same x args i) (value_same y args i)

truth_same : (t : Test) (args : List Value) → truth_of (bare_test t) args ≡ truth_of t args
truth_same test.True args = refl
truth_same (test.Compare c x y) args = λ i. compares c (value_same x args i) (value_same y args i)
truth_same (test.HasBytes a n) args = refl
truth_same (test.Not' p t) args = ap not (truth_same t args)
truth_same (test.All' p t q u) args = λ i. truth_same t args i && truth_same u args i
truth_same (test.Any' p t q u) args = λ i. truth_same t args i || truth_same u args i

-- ---- acts

part_same : (args : List Value) (p : Part) → part_of args (bare_part p) ≡ part_of args p
part_same args (part.Word e) = ap (λ (n : ℕ). value.Word n) (value_same e args)
part_same args (part.Bytes arg from) = refl

parts_same : (args : List Value) (parts : List Part) → map (part_of args) (map bare_part parts) ≡ map (part_of args) parts
parts_same args [] = refl
parts_same args (p ∷ parts) = λ i. part_same args p i ∷ parts_same args parts i

step_args_same : (s : ActStep) (args : List Value) → step_args (bare_step s) args ≡ step_args s args
step_args_same (step.Set arg e) args = ap (λ (n : ℕ). step_args (step.Set arg (expr.Const n)) args) (value_same e args)
step_args_same (step.Send endpoint arg from) args = refl
step_args_same (step.Result e) args = refl
step_args_same (step.Up event parts) args = refl
step_args_same (step.Layer kind event) args = refl

step_items_same : (s : ActStep) (args : List Value) → step_items (bare_step s) args ≡ step_items s args
step_items_same (step.Set arg e) args = refl
step_items_same (step.Send endpoint arg from) args = refl
step_items_same (step.Result e) args = ap (λ (n : ℕ). item.Result n ∷ []) (value_same e args)
step_items_same (step.Up event parts) args = ap (λ (vs : List Value). item.Up event vs ∷ []) (parts_same args parts)
step_items_same (step.Layer kind event) args = refl

args_after_same : (steps : List ActStep) (args : List Value) → args_after (map bare_step steps) args ≡ args_after steps args
args_after_same [] args = refl
args_after_same (s ∷ steps) args = ap (args_after (map bare_step steps)) (step_args_same s args) ∙ args_after_same steps (step_args s args)

items_of_same : (steps : List ActStep) (args : List Value) → items_of (map bare_step steps) args ≡ items_of steps args
items_of_same [] args = refl
items_of_same (s ∷ steps) args =
    let rest = ap (items_of (map bare_step steps)) (step_args_same s args) ∙ items_of_same steps (step_args s args) in
    λ i. step_items_same s args i ++ rest i

abbrev bare_act : Act → Act
bare_act a = record { steps = map bare_step a.steps }

abbrev pub bare_units : Units → Units
bare_units u = record { acts = map bare_act u.acts; tests = map bare_test u.tests }

steps_at_same : (u : Units) (handler : ℕ) → steps_at (bare_units u) handler ≡ map bare_step (steps_at u handler)
steps_at_same u handler = ap (λ (o : Option Act). (act_if o).steps) (numbered-map bare_act u.acts handler) ∙ go (numbered u.acts handler)
  where
    go : (o : Option Act) → (act_if (option_map bare_act o)).steps ≡ map bare_step (act_if o).steps
    go None = refl
    go (Some a) = refl

items_at : (u : Units) (handler : ℕ) (args : List Value) → items_of (steps_at (bare_units u) handler) args ≡ items_of (steps_at u handler) args
items_at u handler args = ap (λ (steps : List ActStep). items_of steps args) (steps_at_same u handler) ∙ items_of_same (steps_at u handler) args

args_at : (u : Units) (handler : ℕ) (args : List Value) → args_after (steps_at (bare_units u) handler) args ≡ args_after (steps_at u handler) args
args_at u handler args = ap (λ (steps : List ActStep). args_after steps args) (steps_at_same u handler) ∙ args_after_same (steps_at u handler) args

-- ---- guards

holds_same : (o : Option Test) (args : List Value) → holds_if (option_map bare_test o) args ≡ holds_if o args
holds_same None args = refl
holds_same (Some t) args = truth_same t args

guard_same : (tests : List Test) (args : List Value) (guard : ℕ) → guard_holds (map bare_test tests) args guard ≡ guard_holds tests args guard
guard_same tests args guard =
    let test = ap (λ (o : Option Test). holds_if o args) (slice_get-map bare_test tests (guard - 1)) ∙ holds_same (slice_get tests (guard - 1)) args in
    λ i. (guard == 0) || test i

guards_same : (tests : List Test) (args : List Value) (b : Binding) → guards_hold (map bare_test tests) args b ≡ guards_hold tests args b
guards_same tests args b = λ i. list_all (λ guard. guard_same tests args guard i) (b.own_guard ∷ b.imposed)

-- ---- firings

abbrev pub bare_bound : Bound → Bound
bare_bound b = record b { merge = bare_merge b.merge }

module _ (by : Runner) (u : Units) where
  firing_same : (b : Binding) (args : List Value) → firing_of by (bare_units u) b args ≡ firing_of by u b args
  firing_same b args = λ i.
      if is_async b.mode && leaves_jobs by
      then Apart b.number args
      else Did b.number (not (is_async b.mode)) (items_at u b.handler args i) (args_at u b.handler args i)

  firings_same : (bs : List Binding) (args : List Value) → firings by (bare_units u) bs args ≡ firings by u bs args
  firings_same [] args = refl
  firings_same (b ∷ bs) args =
      let first = firing_same b args in
      let behind : firings by (bare_units u) bs (left_by (firing_of by (bare_units u) b args)) ≡ firings by u bs (left_by (firing_of by u b args)) =
      ap (λ (f : Firing). firings by (bare_units u) bs (left_by f)) first ∙ firings_same bs (left_by (firing_of by u b args)) in
      let others = firings_same bs args in
      λ i. if guards_same u.tests args b i then first i ∷ behind i else others i

  default_same : (default : ℕ) (args : List Value) (fs : List Firing) → or_default (bare_units u) default args fs ≡ or_default u default args fs
  default_same default args [] = λ i. if default == 0 then [] else ByDefault (items_at u default args i) (args_at u default args i) ∷ []
  default_same default args (f ∷ fs) = refl

  fired_same : (b : Bound) (args : List Value) → fired by (bare_units u) (bare_bound b) args ≡ fired by u b args
  fired_same b args = ap (or_default (bare_units u) b.default args) (firings_same b.bindings args) ∙ default_same b.default args (firings by u b.bindings args)

-- ---- answers

combine_same : (m : Merge) (so_far next : ℕ) → combine (bare_merge m) so_far next ≡ combine m so_far next
combine_same merge.Last so_far next = refl
combine_same (merge.Fold e) so_far next = value_same e (value.Word so_far ∷ value.Word next ∷ [])

results_same : (m : Merge) (results : List ℕ) → answer_of_results (bare_merge m) results ≡ answer_of_results m results
results_same m [] = refl
results_same m (n ∷ ns) = λ i. answer.Value (fold (λ so_far next. combine_same m so_far next i) n ns)

answer_same : (m : Merge) (fs : List Firing) → answer_of (bare_merge m) fs ≡ answer_of m fs
answer_same m [] = refl
answer_same m (ByDefault given left ∷ fs) = refl
answer_same m (Did number merged given left ∷ fs) = results_same m (flat_map merged_by (Did number merged given left ∷ fs))
answer_same m (Apart number args ∷ fs) = results_same m (flat_map merged_by (Apart number args ∷ fs))

-- ---- raises

module _ (by : Runner) (u : Units) where
  with_same : (event : ℕ) (b : Bound) (raise raise' : ℕ → List Value → Raised) (args : List Value) → ((to : ℕ) (given : List Value) → raise' to given ≡ raise to given)
      → raised_with by (bare_units u) event (bare_bound b) raise' args ≡ raised_with by u event b raise args
  with_same event b raise raise' args same =
      let firing = fired_same by u b args in
      let answer = ap (answer_of (bare_merge b.merge)) firing ∙ answer_same b.merge (fired by u b args) in
      λ i. record { answer = answer i; marks = flat_map (λ f. marks_of event (λ to given. same to given i) (items_by f)) (firing i) }

  pub raised_same : (bs : List Bound) (from event : ℕ) (args : List Value) → raised by (bare_units u) (map bare_bound bs) from event args ≡ raised by u bs from event args
  raised_same [] from event args = refl
  raised_same (b ∷ bs) from event args =
      let here = with_same event b (raised by u bs (suc from)) (raised by (bare_units u) (map bare_bound bs) (suc from)) args (λ to given. raised_same bs (suc from) to given) in
      let others = raised_same bs (suc from) event args in
      λ i. if from == event then here i else others i

  pub raised_after_same : (bs : List Bound) (event to : ℕ) (args : List Value) → raised_after by (bare_units u) (map bare_bound bs) event to args ≡ raised_after by u bs event to args
  raised_after_same bs event to args =
      ap (λ (later : List Bound). raised by (bare_units u) later (suc event) to args) (drop-map bare_bound (suc event) bs) ∙ raised_same (drop (suc event) bs) (suc event) to args

-- ---- jobs

pub job_of_same : (u : Units) (event number handler : ℕ) (raise raise' : ℕ → List Value → Raised) (args : List Value) → ((to : ℕ) (given : List Value) → raise' to given ≡ raise to given)
    → job_of (bare_units u) event number handler raise' args ≡ job_of u event number handler raise args
job_of_same u event number handler raise raise' args same =
    let items = items_at u handler args in
    λ i. record { answer = job_answer (last_result (items i)); marks = marks_of event (λ to given. same to given i) (item.Ran number ∷ items i) }
