-- The calls of jobs that a raise leaves: those of live bindings, and none where the raise is itself a job.
use Rattle.std.proofs.Common.{◌≡◌, ℕ, suc, ◌+◌, ◌==◌, ◌&&◌, Bool, true, false, not, cond, List, [], ◌∷◌, ◌++◌, map, refl, sym, ap, subst, ◌∙◌, arith, nat_lt}
use Rattle.std.specs.Prelude.{slice_get, find, Option, None, Some, Result, Ok, Err, IsTrue, is_some}
use Rattle.std.specs.List.{All, flat_map, cons_option}
use Rattle.std.proofs.lemmas.Bool.{eqb-true}
use Rattle.std.proofs.lemmas.List.Elements.{All-cons}
use Rattle.std.proofs.lemmas.Option.{same_Some}
use Rattle.spin_values.specs.declared.values.Value.{Value}
use Rattle.spin_headers.specs.declared.fault.HeaderFault.{HeaderFault}
use Rattle.spin_code.specs.declared.act.ActStep.{ActStep}
use Rattle.spin_code.specs.declared.act.ActStep.TheVariants as act
use Rattle.spin_objects.specs.declared.item.Item.{Item}
use Rattle.spin_objects.specs.declared.item.Item.TheVariants as item
use Rattle.spin_objects.specs.Doing.{step_args, args_after, items_of, up_or_dropped}
use Rattle.spin_objects.specs.Layers.{layer_args}
use Rattle.spin_place.specs.declared.binding.Binding.{Binding}
use Rattle.spin_plan.specs.Next.{guards_hold}
use Rattle.spin_raise.specs.declared.bound.Runner.{Runner}
use Rattle.spin_raise.specs.declared.bound.Runner.TheVariants as runner
use Rattle.spin_raise.specs.Firing.{Units, Bound, Firing, Did, Apart, ByDefault, steps_at, is_async, leaves_jobs, firing_of, firings, fired, or_default, left_by, items_by}
use Rattle.spin_table.specs.declared.event.EventDef.{EventDef}
use Rattle.spin_table.specs.States.{State, EventState, binding_of, is_live}
use Rattle.spin_table.specs.Steps.{bindings_at, bindings_if}
use Rattle.spin_table.specs.Orders.{arranged}
use Rattle.spin_proto.specs.declared.walk.Upward.{Upward}
use Rattle.spin_proto.specs.declared.deed.JobCall.TheVariants as call
use Rattle.spin_proto.specs.declared.reply.Reply.TheVariants as reply
use Rattle.spin_proto.specs.declared.reply.Step.TheVariants as step
use Rattle.spin_proto.specs.Whole.{Mark, Plain, Queued, Raised, calls_of, marks_at, marks_up, marks_of, ups_of, raised, raised_with, reply_of, job_of, step_of, starts}
use Rattle.spin_proto.specs.Replies.{AreBounds, BelongsTo, calls_left}

-- this holds of the event and the number of each job that is left
abbrev pub EachCall : (ℕ → ℕ → Type 0) → List Mark → Type 0
EachCall P [] = Unit {0}
EachCall P (Plain s ∷ marks) = EachCall P marks
EachCall P (Queued event number args ∷ marks) = P event number × EachCall P marks

-- a binding leaves a job only where this holds of its number
abbrev pub EachMay : (ℕ → Type 0) → Runner → List Binding → Type 0
EachMay P by [] = Unit {0}
EachMay P by (b ∷ bs) = ((is_async b.mode && leaves_jobs by) ≡ true → P b.number) × EachMay P by bs

-- the same of the events from one number on
abbrev pub EventsMay : (ℕ → ℕ → Type 0) → Runner → ℕ → List Bound → Type 0
EventsMay P by from [] = Unit {0}
EventsMay P by from (b ∷ later) = EachMay (P from) by b.bindings × EventsMay P by (suc from) later

module _ (P : ℕ → ℕ → Type 0) where
  each-append : (xs ys : List Mark) → EachCall P xs → EachCall P ys → EachCall P (xs ++ ys)
  each-append [] ys h g = g
  each-append (Plain s ∷ xs) ys h g = each-append xs ys h g
  each-append (Queued event number args ∷ xs) ys h g = (h.0, each-append xs ys h.1 g)

  layer_calls : (event to : ℕ) (r : Result (List Value) HeaderFault) (rest : List Item)
      → EachCall P (flat_map (marks_at event) rest) → EachCall P (flat_map (marks_at event) (up_or_dropped to r ∷ rest))
  layer_calls event to (Ok args) rest h = h
  layer_calls event to (Err fault) rest h = h

  -- an act leaves none
  act_calls : (event : ℕ) (steps : List ActStep) (args : List Value) → EachCall P (flat_map (marks_at event) (items_of steps args))
  act_calls event [] args = tt
  act_calls event (act.Set a e ∷ steps) args = act_calls event steps (step_args (act.Set a e) args)
  act_calls event (act.Send to a from ∷ steps) args = act_calls event steps args
  act_calls event (act.Result e ∷ steps) args = act_calls event steps args
  act_calls event (act.Up to parts ∷ steps) args = act_calls event steps args
  act_calls event (act.Layer kind to ∷ steps) args = layer_calls event to (layer_args kind args) (items_of steps args) (act_calls event steps args)

  abbrev FiringsMay : ℕ → List Firing → Type 0
  FiringsMay event [] = Unit {0}
  FiringsMay event (f ∷ fs) = EachCall P (flat_map (marks_at event) (items_by f)) × FiringsMay event fs

  firing_calls : (event : ℕ) (by : Runner) (u : Units) (b : Binding) (args : List Value)
      → ((is_async b.mode && leaves_jobs by) ≡ true → P event b.number) → EachCall P (flat_map (marks_at event) (items_by (firing_of by u b args)))
  firing_calls event by u b args may = choose (is_async b.mode && leaves_jobs by) refl
    where
      choose : (t : Bool) → (is_async b.mode && leaves_jobs by) ≡ t → EachCall P
          (flat_map (marks_at event) (items_by (cond t (Apart b.number args) (Did b.number (not (is_async b.mode)) (items_of (steps_at u b.handler) args) (args_after (steps_at u b.handler) args)))))
      choose true is = (may is, tt)
      choose false is = act_calls event (steps_at u b.handler) args

  firings_calls : (event : ℕ) (by : Runner) (u : Units) (bs : List Binding) (args : List Value) → EachMay (P event) by bs → FiringsMay event (firings by u bs args)
  firings_calls event by u [] args may = tt
  firings_calls event by u (b ∷ bs) args may =
      elim (guards_hold u.tests args b) as (λ t. FiringsMay event (cond t (firing_of by u b args ∷ firings by u bs (left_by (firing_of by u b args))) (firings by u bs args))) [
        | true ↦ (firing_calls event by u b args may.0, firings_calls event by u bs (left_by (firing_of by u b args)) may.1)
        | false ↦ firings_calls event by u bs args may.1
      ]

  default_calls : (event : ℕ) (u : Units) (default : ℕ) (args : List Value) (fs : List Firing) → FiringsMay event fs → FiringsMay event (or_default u default args fs)
  default_calls event u default args [] h =
      elim (default == 0) as (λ t. FiringsMay event (cond t [] (ByDefault (items_of (steps_at u default) args) (args_after (steps_at u default) args) ∷ []))) [
        | true ↦ tt
        | false ↦ (act_calls event (steps_at u default) args, tt)
      ]
  default_calls event u default args (f ∷ fs) h = h

  module _ (raise : ℕ → List Value → Raised) (ups : (event : ℕ) (args : List Value) → EachCall P (raise event args).marks) where
    ups_calls : (xs : List Upward) → EachCall P (flat_map (marks_up raise) xs)
    ups_calls [] = tt
    ups_calls (x ∷ xs) =
        each-append ((raise x.event x.args).marks ++ Plain (step.Back (raise x.event x.args).answer) ∷ []) (flat_map (marks_up raise) xs)
        (each-append (raise x.event x.args).marks (Plain (step.Back (raise x.event x.args).answer) ∷ []) (ups x.event x.args) tt) (ups_calls xs)

    -- what was given and its raises upwards
    given_calls : (event : ℕ) (given : List Item) → EachCall P (flat_map (marks_at event) given) → EachCall P (marks_of event raise given)
    given_calls event given h = each-append (flat_map (marks_at event) given) (flat_map (marks_up raise) (ups_of given)) h (ups_calls (ups_of given))

    all_calls : (event : ℕ) (fs : List Firing) → FiringsMay event fs → EachCall P (flat_map (λ f. marks_of event raise (items_by f)) fs)
    all_calls event [] h = tt
    all_calls event (f ∷ fs) h =
        each-append (marks_of event raise (items_by f)) (flat_map (λ f. marks_of event raise (items_by f)) fs) (given_calls event (items_by f) h.0) (all_calls event fs h.1)

  pub raised_calls : (by : Runner) (u : Units) (bs : List Bound) (from : ℕ) → EventsMay P by from bs → (event : ℕ) (args : List Value) → EachCall P (raised by u bs from event args).marks
  raised_calls by u [] from may event args = tt
  raised_calls by u (b ∷ later) from may event args = choose (raised_calls by u later (suc from) may.1) (from == event) refl
    where
      choose : ((event : ℕ) (args : List Value) → EachCall P (raised by u later (suc from) event args).marks) → (t : Bool) → (from == event) ≡ t
          → EachCall P (cond t (raised_with by u event b (raised by u later (suc from)) args) (raised by u later (suc from) event args)).marks
      choose ups true is =
          let may_here : EachMay (P event) by b.bindings = subst (λ n. EachMay (P n) by b.bindings) (eqb-true from event is) may.0 in
          all_calls (raised by u later (suc from)) ups event (fired by u b args)
          (default_calls event u b.default args (firings by u b.bindings args) (firings_calls event by u b.bindings args may_here))
      choose ups false is = ups event args

  pub job_calls : (u : Units) (event number handler : ℕ) (raise : ℕ → List Value → Raised) (args : List Value)
      → ((event : ℕ) (args : List Value) → EachCall P (raise event args).marks) → EachCall P (job_of u event number handler raise args).marks
  job_calls u event number handler raise args ups =
      given_calls raise ups event (item.Ran number ∷ items_of (steps_at u handler) args) (act_calls event (steps_at u handler) args)

-- jobs leave no jobs ---------------------------------------------------------------

never : (a : Bool) → (a && false) ≡ true → ⊥
never true e = cc
never false e = cc

none_may : (P : ℕ → Type 0) (bs : List Binding) → EachMay P runner.Job bs
none_may P [] = tt
none_may P (b ∷ bs) = ((λ e. absurd (never (is_async b.mode) e)), none_may P bs)

pub jobs_may : (P : ℕ → ℕ → Type 0) (from : ℕ) (bounds : List Bound) → EventsMay P runner.Job from bounds
jobs_may P from [] = tt
jobs_may P from (b ∷ bs) = (none_may (P from) b.bindings, jobs_may P (suc from) bs)

pub no_calls : (marks : List Mark) → EachCall (λ event number. ⊥) marks → flat_map calls_of marks ≡ []
no_calls [] h = refl
no_calls (Plain s ∷ marks) h = no_calls marks h
no_calls (Queued event number args ∷ marks) h = absurd h.0

pub no_calls_left : (limit : ℕ) (r : Raised) → EachCall (λ event number. ⊥) r.marks → calls_left (reply_of limit r) ≡ []
no_calls_left limit r h =
    elim (nat_lt limit (starts r.marks)) as (λ t. calls_left (cond t reply.Spent (reply.Ran r.answer (map step_of r.marks) (flat_map calls_of r.marks))) ≡ []) [
      | true ↦ refl
      | false ↦ no_calls r.marks h
    ]

-- the jobs that a raise leaves are of live bindings ---------------------------------

abbrev pub IsLiveAt : State → ℕ → ℕ → Type 0
IsLiveAt s event number = IsTrue (is_live (bindings_at s event) number)

find_first : {X : Type 0} (b : Bool) (p : X → Bool) (y x : X) (r : Option X) → p y ≡ b → (r ≡ Some x → p x ≡ true) → cond b (Some y) r ≡ Some x → p x ≡ true
find_first true p y x r is rest e = sym (ap p (same_Some _ _ e)) ∙ is
find_first false p y x r is rest e = rest e

pub find_passes : {X : Type 0} (p : X → Bool) (xs : List X) (x : X) → find p xs ≡ Some x → p x ≡ true
find_passes p [] x e = cc
find_passes p (y ∷ ys) x e = find_first (p y) p y x (find p ys) refl (λ h. find_passes p ys x h) e

-- a binding that is found is live
found_live : (bs : List Binding) (n : ℕ) (x : Binding) → binding_of bs n ≡ Some x → IsTrue (is_live bs x.number)
found_live bs n x e =
    let same : x.number ≡ n = eqb-true x.number n (find_passes (λ (b : Binding). b.number == n) bs x e) in
    ap (λ m. is_some (binding_of bs m)) same ∙ ap is_some e

arranged_may : (P : ℕ → Type 0) (bs : List Binding) (ns : List ℕ) → ((n : ℕ) → IsTrue (is_live bs n) → P n) → EachMay P runner.Raiser (arranged bs ns)
arranged_may P bs [] live = tt
arranged_may P bs (n ∷ ns) live = choose (arranged_may P bs ns live) (binding_of bs n) refl
  where
    choose : EachMay P runner.Raiser (arranged bs ns) → (o : Option Binding) → binding_of bs n ≡ o → EachMay P runner.Raiser (cons_option o (arranged bs ns))
    choose rest None is = rest
    choose rest (Some x) is = ((λ _. live x.number (found_live bs n x is)), rest)

live_from : (s : State) (es : List EventDef) (ts : List EventState) (bounds : List Bound) (from : ℕ) → AreBounds es ts bounds
    → ((k : ℕ) (t : EventState) → slice_get ts k ≡ Some t → slice_get s.events (from + k) ≡ Some t)
    → EventsMay (IsLiveAt s) runner.Raiser from bounds
live_from s [] [] [] from h read = tt
live_from s [] [] (b ∷ bs) from h read = absurd h
live_from s [] (t ∷ ts) bounds from h read = absurd h
live_from s (e ∷ es) [] bounds from h read = absurd h
live_from s (e ∷ es) (t ∷ ts) [] from h read = absurd h
live_from s (e ∷ es) (t ∷ ts) (b ∷ bs) from (first, rest) read =
    let here : slice_get s.events from ≡ Some t = ap (slice_get s.events) (omega arith) ∙ read 0 t refl in
    let may = arranged_may (IsLiveAt s from) t.bindings first.0 (λ n live. ap (λ o. is_live (bindings_if o) n) here ∙ live) in (
      subst (λ (b : Bound). EachMay (IsLiveAt s from) runner.Raiser b.bindings) (sym first.2) may,
      live_from s es ts bs (suc from) rest (λ k u e. ap (slice_get s.events) (omega arith) ∙ read (suc k) u e),
    )

pub bounds_may : (s : State) (es : List EventDef) (bounds : List Bound) → AreBounds es s.events bounds → EventsMay (IsLiveAt s) runner.Raiser 0 bounds
bounds_may s es bounds h = live_from s es s.events bounds 0 h (λ k t e. ap (slice_get s.events) (omega arith) ∙ e)

each_belongs : (s : State) (marks : List Mark) → EachCall (IsLiveAt s) marks → All (BelongsTo s) (flat_map calls_of marks)
each_belongs s [] h = λ k d l. absurd (omega arith)
each_belongs s (Plain p ∷ marks) h = each_belongs s marks h
each_belongs s (Queued event number args ∷ marks) h = All-cons (BelongsTo s) (call.Binding event number args) (flat_map calls_of marks) h.0 (each_belongs s marks h.1)

pub calls_belong : (s : State) (limit : ℕ) (r : Raised) → EachCall (IsLiveAt s) r.marks → All (BelongsTo s) (calls_left (reply_of limit r))
calls_belong s limit r h =
    elim (nat_lt limit (starts r.marks)) as (λ t. All (BelongsTo s) (calls_left (cond t reply.Spent (reply.Ran r.answer (map step_of r.marks) (flat_map calls_of r.marks))))) [
      | true ↦ λ k d l. absurd (omega arith)
      | false ↦ each_belongs s r.marks h
    ]
