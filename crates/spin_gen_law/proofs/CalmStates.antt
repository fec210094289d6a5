-- States whose first eight events are of words, and what a raise of such an event comes to.
use Rattle.std.proofs.Common.{◌≡◌, ◌∙◌, ◌≤◌, ℕ, Bool, cond, List, [], ◌∷◌, map, refl, sym, ap, arith}
use Rattle.std.specs.Prelude.{if◌then◌else◌, slice_get, Option, Some, All, count_by}
use Rattle.std.specs.Option.{option_map, option_map_or}
use Rattle.std.proofs.lemmas.Option.{slice_get-map}
use Rattle.std.proofs.lemmas.List.Sums.{sum_by-cons}
use Rattle.spin_values.specs.declared.values.Value.{Value}
use Rattle.spin_values.specs.declared.values.Value.TheVariants.{Word}
use Rattle.spin_values.specs.declared.types.EventType.{EventType}
use Rattle.spin_code.specs.declared.act.Act.{Act}
use Rattle.spin_place.specs.declared.binding.Binding.{Binding}
use Rattle.spin_place.specs.Orders.{AreDistinct}
use Rattle.spin_place.specs.Precedence.{numbers_of}
use Rattle.spin_plan.specs.Next.{guard_holds}
use Rattle.spin_objects.specs.Units.{HandlerUnit, act_if}
use Rattle.spin_objects.proofs.NumberedItems.{numbered-map}
use Rattle.spin_table.specs.declared.event.EventDef.{EventDef}
use Rattle.spin_table.specs.Setups.{SetupData, tests_in}
use Rattle.spin_table.specs.States.{State, EventState}
use Rattle.spin_table.specs.Steps.{bindings_if, bindings_at}
use Rattle.spin_table.specs.Orders.{arranged}
use Rattle.spin_word.specs.declared.work.Deed.TheVariants as deed
use Rattle.spin_raise.specs.declared.bound.Runner.TheVariants as runner
use Rattle.spin_raise.specs.Firing.{bound_of, steps_at}
use Rattle.spin_proto.specs.Parts.{trace_in}
use Rattle.spin_proto.specs.Whole.{raised, raised_with, raised_after, reply_of}
use Rattle.spin_proto.specs.Replies.{are_fit, reply_if_fit, types_in, units_in, IsDeedReply}
use Rattle.spin_proto.specs.declared.reply.Reply.{Reply}
use Rattle.spin_proto.specs.declared.reply.Reply.TheVariants as reply
use Rattle.spin_proto.specs.declared.reply.TheConstants.{MAX_RUNS}
use Rattle.spin_proto.proofs.BoundEvents.{the_bound}
use Rattle.spin_proto.proofs.RaiseTurns.{raised_at}
use Rattle.spin_run.specs.Summaries.{is_run, is_send}
use Rattle.spin_gen_law.proofs.OrderLemmas.{NamesNone, arranged_count, arranged_all}
use Rattle.spin_gen_law.proofs.RaiseCounts.{GivesResult, runs_of, reply_runs}
use Rattle.spin_gen_law.proofs.WordSetups.{IsWordEvent, IsWordHandler}

-- An event without a default, whose bindings give results and name no others; their numbers are distinct, and none is
-- above the place.
pub record IsCalm (d : SetupData) (place : ℕ) (t : EventState) : Type 0 where
  pub default : t.default ≡ 0
  pub results : All (GivesResult (units_in d)) t.bindings
  pub names : All NamesNone t.bindings
  pub below : All (λ n. n ≤ place) (numbers_of t.bindings)
  pub apart : AreDistinct (numbers_of t.bindings)

-- The event is there and calm.
pub record IsCalmAt (d : SetupData) (s : State) (event : ℕ) : Type 0 where
  pub state : EventState
  pub there : slice_get s.events event ≡ Some state
  pub calm : IsCalm d s.place state

-- the own guards of an event's bindings
abbrev pub guards_at : State → ℕ → List ℕ
guards_at s event = map (λ b. b.own_guard) (bindings_at s event)

-- a handler of words gives a result
pub gives_result : (d : SetupData) (handler : ℕ) (h : IsWordHandler d handler) → steps_at (units_in d) handler ≡ h.unit.act.steps
gives_result d handler h =
    ap (λ (o : Option Act). (act_if o).steps) (numbered-map (λ (u : HandlerUnit). u.act) d.handlers handler ∙ ap (λ (o : Option HandlerUnit). option_map (λ (u : HandlerUnit). u.act) o) h.there)

count_mapped : {A B : Type 0} (p : B → Bool) (f : A → B) (xs : List A) → count_by p (map f xs) ≡ count_by (λ x. p (f x)) xs
count_mapped p f [] = refl
count_mapped p f (x ∷ xs) =
    let rest = count_mapped p f xs in
    let one = sum_by-cons (λ y. cond (p y) 1 0) (f x) (map f xs) in
    let two = sum_by-cons (λ y. cond (p (f y)) 1 0) x xs in
    omega (arith, rest, one, two)

-- how many guards hold of a word
abbrev pub admitted : SetupData → ℕ → List ℕ → ℕ
admitted d value guards = count_by (guard_holds (tests_in d) (Word value ∷ [])) guards

module _ (d : SetupData) (s : State) (event value : ℕ) (e : IsWordEvent d event) (t : IsCalmAt d s event) where
  abbrev args : List Value
  args = Word value ∷ []

  fitting : (r : Reply) → reply_if_fit (types_in d) event args r ≡ r
  fitting r =
      ap (λ (o : Option EventType). option_map_or (λ sig. if are_fit sig args then r else reply.WrongArgs) o reply.UnknownEvent)
      (slice_get-map (λ (x : EventDef). x.sig) d.events event ∙ ap (λ (o : Option EventDef). option_map (λ (x : EventDef). x.sig) o) e.there ∙ ap Some e.sig)

  -- as many runs are counted of a raise as guards hold, and no sends
  pub raise_counts : (r : Reply) → IsDeedReply d s (deed.Raise event (Word value ∷ [])) r
      → (count_by is_run (trace_in r) ≡ runs_of (admitted d value (guards_at s event)))
      × (count_by is_send (trace_in r) ≡ 0)
  raise_counts r (bounds, are, is) =
      let b = the_bound d.events s.events bounds event e.def t.state are e.there t.there in
      let ns = b.2.0 in
      let bs = arranged t.state.bindings ns in
      let later = raised_after runner.Raiser (units_in d) bounds event in
      let bound : b.0 ≡ bound_of bs e.def.merge 0 = b.2.2 ∙ ap (λ (n : ℕ). bound_of bs e.def.merge n) t.calm.default in
      let found : slice_get bounds event ≡ Some (bound_of bs e.def.merge 0) = b.1 ∙ ap Some bound in
      let raise = raised_at runner.Raiser (units_in d) bounds (bound_of bs e.def.merge 0) event args found in
      let same : r ≡ reply_of MAX_RUNS (raised_with runner.Raiser (units_in d) event (bound_of bs e.def.merge 0) later args) =
      is ∙ fitting (reply_of MAX_RUNS (raised runner.Raiser (units_in d) bounds 0 event args)) ∙ ap (reply_of MAX_RUNS) raise in
      let counted = reply_runs (units_in d) event later args bs e.def.merge (arranged_all (GivesResult (units_in d)) t.state.bindings ns t.calm.results) in
      let admits = λ (x : Binding). guard_holds (tests_in d) args x.own_guard in
      let ordered = arranged_count admits t.state.bindings ns t.calm.apart b.2.1.0.0 in
      let guards : admitted d value (guards_at s event) ≡ count_by admits t.state.bindings =
      ap (λ (o : Option EventState). admitted d value (map (λ (x : Binding). x.own_guard) (bindings_if o))) t.there
      ∙ count_mapped (guard_holds (tests_in d) args) (λ (x : Binding). x.own_guard) t.state.bindings in (
        ap (λ (x : Reply). count_by is_run (trace_in x)) same ∙ counted.0 ∙ ap runs_of (ordered ∙ sym guards),
        ap (λ (x : Reply). count_by is_send (trace_in x)) same ∙ counted.1,
      )
