-- Acts of sound events raise later events alone.
use Rattle.std.proofs.Common.{◌≡◌, ℕ, ◌+◌, ◌-◌, ◌<◌, ◌≤◌, ◌==◌, ◌&&◌, ◌||◌, Bool, true, false, not, cond, List, [], ◌∷◌, length, get_or, refl, sym, ap, subst, ◌∙◌, inl, inr, arith}
use Rattle.std.specs.Prelude.{slice_get, Option, None, Some, Result, Ok, Err, IsTrue, nat_le}
use Rattle.std.specs.List.{All, list_any, list_all}
use Rattle.std.specs.Option.{option_map, option_map_or}
use Rattle.std.proofs.lemmas.Bool.{cases_eq, eqb-true}
use Rattle.std.proofs.lemmas.Bool.Decides.{nat_tests}
use Rattle.std.proofs.lemmas.List.{length-map}
use Rattle.std.proofs.lemmas.List.Elements.{All-head, All-tail}
use Rattle.std.proofs.lemmas.Option.{slice_get_within}
use Rattle.spin_values.specs.declared.values.Value.{Value}
use Rattle.spin_headers.specs.declared.fault.HeaderFault.{HeaderFault}
use Rattle.spin_code.specs.declared.act.ActStep.{ActStep}
use Rattle.spin_code.specs.declared.act.ActStep.TheVariants as act
use Rattle.spin_objects.specs.declared.item.Item.{Item}
use Rattle.spin_objects.specs.Doing.{step_args, args_after, items_of, up_or_dropped}
use Rattle.spin_objects.specs.Layers.{layer_args}
use Rattle.spin_objects.specs.Units.{HandlerUnit, GuardUnit, act_if}
use Rattle.spin_word.specs.declared.command.Mode.{Mode}
use Rattle.spin_word.specs.declared.command.Mode.TheVariants as mode
use Rattle.spin_place.specs.declared.binding.Binding.{Binding}
use Rattle.spin_plan.specs.Next.{guards_hold, IsGuard}
use Rattle.spin_raise.specs.declared.bound.Runner.{Runner}
use Rattle.spin_raise.specs.Firing.{Units, Bound, Firing, Did, Apart, ByDefault, steps_at, is_async, leaves_jobs, firing_of, firings, fired, or_default, left_by, items_by, IsThere, bound_of}
use Rattle.spin_table.specs.declared.event.EventDef.{EventDef}
use Rattle.spin_table.specs.declared.fault.SetupFault.TheVariants as fault
use Rattle.spin_values.specs.First.{numbered}
use Rattle.spin_table.specs.Setups.{SetupData}
use Rattle.spin_table.specs.States.{EventState}
use Rattle.spin_table.specs.Units.{step_raises_down, raises_down, has_wrong_mode, same_signature, is_handler_for, is_fit_handler, is_fit_guard, is_fit_own_guard, is_fit_default}
use Rattle.spin_table.specs.Faults.{is_step_fit, raises_amiss, takes_parts, takes_layer, faults_of, IsSoundSetup}
use Rattle.spin_table.specs.Soundness.{IsSoundEvent, is_fit_binding}
use Rattle.spin_table.specs.Orders.{arranged}
use Rattle.spin_table.proofs.ArrangedBindings.{All-arranged}
use Rattle.spin_table.proofs.ImposedGuards.{no_faults, unmapped, position-fails}
use Rattle.spin_table.proofs.BindingSoundness.{first_two}
use Rattle.spin_objects.proofs.NumberedItems.{numbered-map, numbered-reads}
use Rattle.spin_table.proofs.StepSoundness.{AreSound-from, guards_there}
use Rattle.spin_proto.specs.Whole.{ups_of}
use Rattle.spin_proto.specs.Inner.Walks.{UpsRise}
use Rattle.spin_proto.specs.Replies.{units_in, IsBound}

-- an act raises only events that are there and come after its own
abbrev pub Rises : ℕ → ℕ → List ActStep → Type 0
Rises count event [] = Unit {0}
Rises count event (act.Up to parts ∷ steps) = (event < to) × (to < count) × Rises count event steps
Rises count event (act.Layer kind to ∷ steps) = (event < to) × (to < count) × Rises count event steps
Rises count event (s ∷ steps) = Rises count event steps

abbrev pub EachRises : ℕ → ℕ → Units → List Binding → Type 0
EachRises count event u [] = Unit {0}
EachRises count event u (b ∷ bs) = Rises count event (steps_at u b.handler) × EachRises count event u bs

-- an event's handlers and guards are there, and its acts raise only later events
pub record Serves (u : Units) (count event : ℕ) (b : Bound) : Type 0 where
  pub there : IsThere u b
  pub bindings : EachRises count event u b.bindings
  pub default : (b.default == 0) ≡ false → Rises count event (steps_at u b.default)

-- what acts give -----------------------------------------------------------------

layer_rises : (count event to : ℕ) (r : Result (List Value) HeaderFault) (rest : List Item) → event < to
    → to < count → UpsRise count event (ups_of rest) → UpsRise count event (ups_of (up_or_dropped to r ∷ rest))
layer_rises count event to (Ok args) rest low high h = (low, high, h)
layer_rises count event to (Err fault) rest low high h = h

pub items_rise : (count event : ℕ) (steps : List ActStep) (args : List Value) → Rises count event steps → UpsRise count event (ups_of (items_of steps args))
items_rise count event [] args h = tt
items_rise count event (act.Set a e ∷ steps) args h = items_rise count event steps (step_args (act.Set a e) args) h
items_rise count event (act.Send to a from ∷ steps) args h = items_rise count event steps args h
items_rise count event (act.Result e ∷ steps) args h = items_rise count event steps args h
items_rise count event (act.Up to parts ∷ steps) args h = (h.0, h.1, items_rise count event steps args h.2)
items_rise count event (act.Layer kind to ∷ steps) args h =
    layer_rises count event to (layer_args kind args) (items_of steps args) h.0 h.1 (items_rise count event steps args h.2)

abbrev pub FiringsRise : ℕ → ℕ → List Firing → Type 0
FiringsRise count event [] = Unit {0}
FiringsRise count event (f ∷ fs) = UpsRise count event (ups_of (items_by f)) × FiringsRise count event fs

firing_rises : (count event : ℕ) (by : Runner) (u : Units) (b : Binding) (args : List Value)
    → Rises count event (steps_at u b.handler) → UpsRise count event (ups_of (items_by (firing_of by u b args)))
firing_rises count event by u b args h =
    elim (is_async b.mode && leaves_jobs by) as (λ t. UpsRise count event
    (ups_of (items_by (cond t (Apart b.number args) (Did b.number (not (is_async b.mode)) (items_of (steps_at u b.handler) args) (args_after (steps_at u b.handler) args)))))) [
      | true ↦ tt
      | false ↦ items_rise count event (steps_at u b.handler) args h
    ]

firings_rise : (count event : ℕ) (by : Runner) (u : Units) (bs : List Binding) (args : List Value) → EachRises count event u bs → FiringsRise count event (firings by u bs args)
firings_rise count event by u [] args h = tt
firings_rise count event by u (b ∷ bs) args h =
    elim (guards_hold u.tests args b) as (λ t. FiringsRise count event (cond t (firing_of by u b args ∷ firings by u bs (left_by (firing_of by u b args))) (firings by u bs args))) [
      | true ↦ (firing_rises count event by u b args h.0, firings_rise count event by u bs (left_by (firing_of by u b args)) h.1)
      | false ↦ firings_rise count event by u bs args h.1
    ]

or_default_rises : (count event : ℕ) (u : Units) (default : ℕ) (args : List Value) (fs : List Firing)
    → ((default == 0) ≡ false → Rises count event (steps_at u default)) → FiringsRise count event fs → FiringsRise count event (or_default u default args fs)
or_default_rises count event u default args [] h r = choose (default == 0) refl
  where
    choose : (t : Bool) → (default == 0) ≡ t → FiringsRise count event (cond t [] (ByDefault (items_of (steps_at u default) args) (args_after (steps_at u default) args) ∷ []))
    choose true is = tt
    choose false is = (items_rise count event (steps_at u default) args (h is), tt)
or_default_rises count event u default args (f ∷ fs) h r = r

pub fired_rises : (count event : ℕ) (by : Runner) (u : Units) (b : Bound) (args : List Value) → Serves u count event b → FiringsRise count event (fired by u b args)
fired_rises count event by u b args h = or_default_rises count event u b.default args (firings by u b.bindings args) h.default (firings_rise count event by u b.bindings args h.bindings)

-- what a sound setup says of its acts ----------------------------------------------

both : (a b : Bool) → (a && b) ≡ true → (a ≡ true) × (b ≡ true)
both true b e = (refl, e)
both false b e = cc

neither : (a b : Bool) → (a || b) ≡ false → (a ≡ false) × (b ≡ false)
neither true b e = cc
neither false b e = (refl, e)

opposite : (b : Bool) → not b ≡ false → b ≡ true
opposite true e = refl
opposite false e = cc

opposite_true : (b : Bool) → not b ≡ true → b ≡ false
opposite_true true e = cc
opposite_true false e = refl

goes_up : (to event : ℕ) → nat_le to event ≡ false → event < to
goes_up to event e = grind (arith, nat_tests)

some_there : (test : EventDef → Bool) (events : List EventDef) (to : ℕ) (o : Option EventDef) → slice_get events to ≡ o → option_map_or test o false ≡ true → to < length events
some_there test events to None is e = cc
some_there test events to (Some d) is e = slice_get_within events to d is

rises_from : (events : List EventDef) (event : ℕ) (steps : List ActStep) → list_any (step_raises_down event) steps ≡ false
    → list_all (is_step_fit events) steps ≡ true → Rises (length events) event steps
rises_from events event [] up fit = tt
rises_from events event (act.Set a e ∷ steps) up fit = rises_from events event steps up fit
rises_from events event (act.Send to a from ∷ steps) up fit = rises_from events event steps up fit
rises_from events event (act.Result e ∷ steps) up fit = rises_from events event steps up fit
rises_from events event (act.Up to parts ∷ steps) up fit =
    let ups = neither (nat_le to event) (list_any (step_raises_down event) steps) up in
    let fits = both (is_step_fit events (act.Up to parts)) (list_all (is_step_fit events) steps) fit in
    (goes_up to event ups.0, some_there (takes_parts parts) events to (slice_get events to) refl fits.0, rises_from events event steps ups.1 fits.1)
rises_from events event (act.Layer kind to ∷ steps) up fit =
    let ups = neither (nat_le to event) (list_any (step_raises_down event) steps) up in
    let fits = both (is_step_fit events (act.Layer kind to)) (list_all (is_step_fit events) steps) fit in
    (goes_up to event ups.0, some_there (λ (e : EventDef). takes_layer e.sig.params kind) events to (slice_get events to) refl fits.0, rises_from events event steps ups.1 fits.1)

-- a handler of a sound setup raises what is there
unit_fits : (d : SetupData) (at : ℕ) (h : HandlerUnit) → IsSoundSetup d → slice_get d.handlers at ≡ Some h → list_all (is_step_fit d.events) h.act.steps ≡ true
unit_fits d at h sound read =
    let third = no_faults (faults_of d) sound 3 in
    let none = unmapped (λ at. fault.BadUp (at + 1)) _ third in
    opposite (list_all (is_step_fit d.events) h.act.steps) (position-fails (raises_amiss d.events) d.handlers at h none read)

-- a handler that serves an event is there and raises later events
pub record Fits (d : SetupData) (event handler : ℕ) : Type 0 where
  pub first : 0 < handler
  pub last : handler ≤ length (units_in d).acts
  pub rises : Rises (length d.events) event (steps_at (units_in d) handler)

steps_read : (d : SetupData) (handler : ℕ) (h : HandlerUnit) → numbered d.handlers handler ≡ Some h → steps_at (units_in d) handler ≡ h.act.steps
steps_read d handler h read = ap (λ o. (act_if o).steps) (numbered-map (λ (h : HandlerUnit). h.act) d.handlers handler ∙ ap (option_map (λ (h : HandlerUnit). h.act)) read)

pub fits_from : (d : SetupData) (event : ℕ) (e : EventDef) (m : Mode) (handler : ℕ) → IsSoundSetup d → is_fit_handler d.handlers event e m handler ≡ true → Fits d event handler
fits_from d event e m handler sound fit = choose (numbered d.handlers handler) refl fit
  where
    choose : (o : Option HandlerUnit) → numbered d.handlers handler ≡ o → option_map_or (is_handler_for event e m) o false ≡ true → Fits d event handler
    choose None is some = cc
    choose (Some h) is some =
        elim (cases_eq handler 0) [
          | inl none ↦ let nothing : numbered d.handlers handler ≡ None = ap (numbered d.handlers) none in cc
          | inr other ↦
              let read = numbered-reads d.handlers handler h is in
              let parts = first_two (same_signature h.sig e.sig) (not (raises_down event h.act)) (not (has_wrong_mode m h.act)) some in
              let rises = rises_from d.events event h.act.steps (opposite_true (raises_down event h.act) parts.1) (unit_fits d (handler - 1) h sound read) in
              let inside = slice_get_within d.handlers (handler - 1) h read in
              record {
                first = omega arith;
                last = omega (arith, length-map d.handlers (λ (h : HandlerUnit). h.act));
                rises = subst (λ (ss : List ActStep). Rises (length d.events) event ss) (sym (steps_read d handler h is)) rises;
              }
        ]

pub fits_binding : (d : SetupData) (event : ℕ) (e : EventDef) (b : Binding) → IsSoundSetup d → IsTrue (is_fit_binding d event e b) → Fits d event b.handler
fits_binding d event e b sound fit =
    fits_from d event e b.mode b.handler sound
    (first_two (is_fit_handler d.handlers event e b.mode b.handler) (is_fit_own_guard d.guards e b.own_guard) (list_all (is_fit_guard d.guards e) b.imposed) fit).0

-- a default that isn't none is there and raises later events
pub fits_default : (d : SetupData) (event : ℕ) (e : EventDef) (default : ℕ) → IsSoundSetup d → IsTrue (is_fit_default d.handlers event e default) → (default == 0) ≡ false → Fits d event default
fits_default d event e default sound fit some =
    fits_from d event e mode.Plain default sound (sym (ap (λ t. t || is_fit_handler d.handlers event e mode.Plain default) some) ∙ fit)

default_there : (d : SetupData) (event : ℕ) (e : EventDef) (default : ℕ) → IsSoundSetup d → IsTrue (is_fit_default d.handlers event e default) → default ≤ length (units_in d).acts
default_there d event e default sound fit = choose (default == 0) refl
  where
    choose : (t : Bool) → (default == 0) ≡ t → default ≤ length (units_in d).acts
    choose true is = let none : default ≡ 0 = eqb-true default 0 is in omega arith
    choose false is = (fits_default d event e default sound fit is).last

each_rises : (d : SetupData) (event : ℕ) (bs : List Binding) → All (λ (b : Binding). Fits d event b.handler) bs → EachRises (length d.events) event (units_in d) bs
each_rises d event [] all = tt
each_rises d event (b ∷ bs) all =
    ((All-head (λ (b : Binding). Fits d event b.handler) b bs all).rises, each_rises d event bs (All-tail (λ (b : Binding). Fits d event b.handler) b bs all))

-- an event of a sound state serves a raise
pub serves : (d : SetupData) (place event : ℕ) (e : EventDef) (t : EventState) (b : Bound) → IsSoundSetup d
    → IsSoundEvent d place event e t → IsBound e t b → Serves (units_in d) (length d.events) event b
serves d place event e t b setup sound (ns, order, is) =
    let bs = arranged t.bindings ns in
    let all : All (λ (b : Binding). Fits d event b.handler) bs =
    All-arranged (λ (b : Binding). Fits d event b.handler) t.bindings ns (λ k x l. fits_binding d event e (get_or t.bindings k x) setup (sound.bindings k x l)) in
    let guards = guards_there d place event e t.bindings (AreSound-from d place event e t sound) in
    let tests : length (units_in d).tests ≡ length d.guards = length-map d.guards (λ (g : GuardUnit). g.test) in
    let Own : ℕ → Binding → Type 0 = λ n b. b.own_guard ≤ n in
    let Imposed : ℕ → Binding → Type 0 = λ n b. All (IsGuard n) b.imposed in
    let served : Serves (units_in d) (length d.events) event (bound_of bs e.merge t.default) = record {
      there = record {
        handlers = λ k x l. ((all k x l).first, (all k x l).last);
        default = default_there d event e t.default setup sound.default;
        own = subst (λ n. All (Own n) bs) (sym tests) (All-arranged (Own (length d.guards)) t.bindings ns guards.0);
        imposed = subst (λ n. All (Imposed n) bs) (sym tests) (All-arranged (Imposed (length d.guards)) t.bindings ns guards.1);
      };
      bindings = each_rises d event bs all;
      default = λ some. (fits_default d event e t.default setup sound.default some).rises;
    } in
    subst (λ (b : Bound). Serves (units_in d) (length d.events) event b) (sym is) served
