-- What a raise finds of an event of a version, and a job of a binding.
use Rattle.std.proofs.Common.{◌≡◌, ℕ, ◌+◌, ◌<◌, ◌==◌, Bool, true, false, cond, List, [], ◌∷◌, ◌++◌, map, length, refl, sym, ap, subst, ◌∙◌, inl, inr, arith, nat_lt}
use Rattle.std.specs.Prelude.{slice_get, Option, None, Some, IsSomeAnd, IsTrue, is_some}
use Rattle.std.specs.List.{Contains, flat_map, cons_option}
use Rattle.std.specs.Option.{option_map, option_map_or}
use Rattle.std.proofs.lemmas.Bool.{cases_eq, eqb-true, ne_eqb}
use Rattle.std.proofs.lemmas.Bool.Decides.{nat_tests}
use Rattle.std.proofs.lemmas.List.Elements.{All-contains}
use Rattle.std.proofs.lemmas.List.Sorted.{Contains-permutation}
use Rattle.std.proofs.lemmas.Option.{slice_get-map, same_Some}
use Rattle.spin_values.specs.declared.values.Value.{Value}
use Rattle.spin_values.specs.declared.types.EventType.{EventType}
use Rattle.spin_values.specs.Kinds.{kind_of, kinds_of}
use Rattle.spin_place.specs.declared.binding.Binding.{Binding}
use Rattle.spin_place.specs.Precedence.{numbers_of, IsTheOrder}
use Rattle.spin_place.proofs.NumberLists.{Contains-cons}
use Rattle.spin_place.proofs.Precedences.{Contains-number}
use Rattle.spin_raise.specs.declared.answer.Answer.{Answer}
use Rattle.spin_raise.specs.Firing.{Bound, bound_of}
use Rattle.spin_table.specs.declared.event.EventDef.{EventDef}
use Rattle.spin_table.specs.Setups.{SetupData}
use Rattle.spin_table.specs.States.{State, EventState, binding_of, is_live}
use Rattle.spin_table.specs.Steps.{bindings_at, bindings_if}
use Rattle.spin_table.specs.Orders.{arranged}
use Rattle.spin_table.specs.Faults.{IsSoundSetup}
use Rattle.spin_table.specs.Soundness.{IsSound, is_fit_binding}
use Rattle.spin_table.proofs.ArrangedBindings.{Contains-find}
use Rattle.spin_table.proofs.SignatureTests.{is_same_kinds}
use Rattle.std.specs.Bool.{Decides}
use Rattle.spin_proto.specs.declared.reply.Reply.{Reply}
use Rattle.spin_proto.specs.declared.reply.Reply.TheVariants as reply
use Rattle.spin_proto.specs.declared.walk.Walk.{Walk}
use Rattle.spin_proto.specs.Whole.{Raised, step_of, calls_of, starts, reply_of}
use Rattle.spin_proto.specs.Inner.Walks.{Gained}
use Rattle.spin_proto.specs.Replies.{is_fit, units_in, types_in, are_fit, reply_if_fit, handler_at, AreBounds}
use Rattle.spin_proto.proofs.BoundEvents.{here, bound_at, sound_at, the_bound}
use Rattle.spin_proto.proofs.RisingRaises.{Serves, serves, Fits, fits_binding}
use Rattle.spin_proto.proofs.JobCalls.{find_passes}

module _ (d : SetupData) (s : State) (event : ℕ) (e : EventDef) (plan : List Binding) (default : ℕ) (sound : IsSound d s) (def : slice_get d.events event ≡ Some e)
    (at_default : IsSomeAnd (slice_get s.events event) (λ (t : EventState). default ≡ t.default))
    (at_plan : IsSomeAnd (slice_get s.events event) (λ (t : EventState). (ns : List ℕ) → IsTheOrder t.bindings ns → plan ≡ arranged t.bindings ns)) where
  -- the event serves a raise
  pub served : IsSoundSetup d → Serves (units_in d) (length s.events) event (bound_of plan e.merge default)
  served setup =
      let at = here d s event e plan default sound def at_default at_plan in
      subst (λ n. Serves (units_in d) n event (bound_of plan e.merge default)) (sym sound.events) (serves d s.place event e at.state (bound_of plan e.merge default) setup at.sound at.bound)

  -- it is the one that raises find
  pub bound_here : (bounds : List Bound) → AreBounds d.events s.events bounds → slice_get bounds event ≡ Some (bound_of plan e.merge default)
  bound_here bounds h =
      let at = here d s event e plan default sound def at_default at_plan in
      bound_at d.events s.events bounds event e at.state (bound_of plan e.merge default) h def at.read at.bound

-- whether arguments fit --------------------------------------------------------------

pub fit_is : (sig : EventType) (args : List Value) (r : Bool) → Decides r (map kind_of args ≡ kinds_of sig) → r ≡ are_fit sig args
fit_is sig args r says = is_same_kinds (map kind_of args) (kinds_of sig) r says

pub fit_answers : (d : SetupData) (event : ℕ) (e : EventDef) (args : List Value) (r : Bool) (answer : Reply) → slice_get d.events event ≡ Some e → Decides r (map kind_of args ≡ kinds_of e.sig)
    → reply_if_fit (types_in d) event args answer ≡ cond r answer reply.WrongArgs
fit_answers d event e args r answer def says =
    ap (λ o. option_map_or (λ sig. cond (are_fit sig args) answer reply.WrongArgs) o reply.UnknownEvent)
    (slice_get-map (λ (e : EventDef). e.sig) d.events event ∙ ap (option_map (λ (e : EventDef). e.sig)) def)
    ∙ sym (ap (λ t. cond t answer reply.WrongArgs) (fit_is e.sig args r says))

pub fit_decides : (d : SetupData) (event : ℕ) (e : EventDef) (args : List Value) (r : Bool) → slice_get d.events event ≡ Some e → Decides r (map kind_of args ≡ kinds_of e.sig)
    → is_fit (types_in d) event args ≡ r
fit_decides d event e args r def says =
    ap (λ o. option_map_or (λ sig. are_fit sig args) o false)
    (slice_get-map (λ (e : EventDef). e.sig) d.events event ∙ ap (option_map (λ (e : EventDef). e.sig)) def)
    ∙ sym (fit_is e.sig args r says)

-- what a walk comes to ---------------------------------------------------------------

pub spent : (limit : ℕ) (r : Raised) → limit < starts r.marks → reply.Spent ≡ reply_of limit r
spent limit r more =
    let over : nat_lt limit (starts r.marks) ≡ true = grind (arith, nat_tests) in
    sym (ap (λ t. cond t reply.Spent (reply.Ran r.answer (map step_of r.marks) (flat_map calls_of r.marks))) over)

pub ran : (limit : ℕ) (r : Raised) (a : Answer) (w w' : Walk) → w.trace ≡ [] → w.jobs ≡ [] → w.left ≡ limit → a ≡ r.answer → Gained r.marks w w' → reply.Ran a w'.trace w'.jobs ≡ reply_of limit r
ran limit r a w w' trace jobs left is g =
    let within : nat_lt limit (starts r.marks) ≡ false = few (w'.left) (starts r.marks) (w.left) limit g.left left in
    let steps : w'.trace ≡ map step_of r.marks = g.trace ∙ ap (λ t. t ++ map step_of r.marks) trace in
    let calls : w'.jobs ≡ flat_map calls_of r.marks = g.jobs ∙ ap (λ t. t ++ flat_map calls_of r.marks) jobs in
    ap (λ x. reply.Ran x w'.trace w'.jobs) is ∙ ap (λ t. reply.Ran r.answer t w'.jobs) steps ∙ ap (λ t. reply.Ran r.answer (map step_of r.marks) t) calls
    ∙ sym (ap (λ t. cond t reply.Spent (reply.Ran r.answer (map step_of r.marks) (flat_map calls_of r.marks))) within)
  where
    few : (after marks before limit : ℕ) → after + marks ≡ before → before ≡ limit → nat_lt limit marks ≡ false
    few after marks before limit e is = grind (arith, nat_tests)

-- the binding of a job ---------------------------------------------------------------

some_of : {X : Type 0} (o : Option X) → is_some o ≡ true → (x : X) × (o ≡ Some x)
some_of None e = cc
some_of (Some x) e = (x, refl)

-- a binding is found in the order too
find_arranged : (bs : List Binding) (ns : List ℕ) (n : ℕ) (x : Binding) → Contains ns n → binding_of bs n ≡ Some x → binding_of (arranged bs ns) n ≡ Some x
find_arranged bs [] n x at read = absurd (omega (arith, at.1))
find_arranged bs (m ∷ ns) n x at read =
    elim (cases_eq m n) [
      | inl same ↦ first (binding_of bs m) (ap (binding_of bs) same ∙ read)
      | inr apart ↦
          elim (Contains-cons n m ns at) [
            | inl e ↦ absurd (apart e)
            | inr later ↦ other apart (find_arranged bs ns n x later read) (binding_of bs m) refl
          ]
    ]
  where
    first : (o : Option Binding) → o ≡ Some x → binding_of (cons_option o (arranged bs ns)) n ≡ Some x
    first None e = cc
    first (Some y) e =
        let same : y ≡ x = same_Some _ _ e in
        let passes : (y.number == n) ≡ true = ap (λ (z : Binding). z.number == n) same ∙ find_passes (λ (b : Binding). b.number == n) bs x read in
        ap (λ t. cond t (Some y) (binding_of (arranged bs ns) n)) passes ∙ e

    other : (m ≡ n → ⊥) → binding_of (arranged bs ns) n ≡ Some x → (o : Option Binding) → binding_of bs m ≡ o → binding_of (cons_option o (arranged bs ns)) n ≡ Some x
    other apart rest None is = rest
    other apart rest (Some y) is =
        let named : y.number ≡ m = eqb-true y.number m (find_passes (λ (b : Binding). b.number == m) bs y is) in
        let fails : (y.number == n) ≡ false = ne_eqb y.number n (λ e. apart (sym named ∙ e)) in
        ap (λ t. cond t (Some y) (binding_of (arranged bs ns) n)) fails ∙ rest

-- the handler of a live binding serves its event, and is the one that a job finds
pub record IsOfJob (d : SetupData) (s : State) (event number handler : ℕ) : Type 0 where
  pub fits : Fits d event handler
  pub found : (bounds : List Bound) → AreBounds d.events s.events bounds → handler ≡ handler_at bounds event number

handler_read : (bounds : List Bound) (event number : ℕ) (b : Bound) (x : Binding) → slice_get bounds event ≡ Some b → binding_of b.bindings number ≡ Some x → handler_at bounds event number ≡ x.handler
handler_read bounds event number b x read found =
    ap (λ o. option_map_or (λ (b : Bound). option_map_or (λ (x : Binding). x.handler) (binding_of b.bindings number) 0) o 0) read
    ∙ ap (λ o. option_map_or (λ (x : Binding). x.handler) o 0) found

read_of : (o : Option EventState) (bs : List Binding) → IsSomeAnd o (λ (t : EventState). bs ≡ t.bindings) → (t : EventState) × (o ≡ Some t) × (bs ≡ t.bindings)
read_of None bs h = absurd h
read_of (Some t) bs h = (t, refl, h)

pub job_found : (d : SetupData) (s : State) (event number handler : ℕ) (bs : List Binding) → IsSoundSetup d → IsSound d s → IsTrue (is_live (bindings_at s event) number)
    → IsSomeAnd (slice_get s.events event) (λ (t : EventState). bs ≡ t.bindings) → handler ≡ option_map_or (λ (b : Binding). b.handler) (binding_of bs number) 0
    → IsOfJob d s event number handler
job_found d s event number handler bs setup sound live at_bindings is =
    let at = read_of (slice_get s.events event) bs at_bindings in
    let t = at.0 in
    let x = some_of (binding_of t.bindings number) (sym (ap (λ o. is_live (bindings_if o) number) at.1) ∙ live) in
    let inside : Contains t.bindings x.0 = Contains-find (λ (b : Binding). b.number == number) t.bindings x.0 x.1 in
    let named : x.0.number ≡ number = eqb-true x.0.number number (find_passes (λ (b : Binding). b.number == number) t.bindings x.0 x.1) in
    let e = sound_at d s event t sound at.1 in
    let run : handler ≡ x.0.handler = is ∙ ap (λ bs. option_map_or (λ (b : Binding). b.handler) (binding_of bs number) 0) at.2 ∙ ap (λ o. option_map_or (λ (b : Binding). b.handler) o 0) x.1 in
    let serving = fits_binding d event e.0 x.0 setup (All-contains (λ (b : Binding). IsTrue (is_fit_binding d event e.0 b)) t.bindings x.0 e.2.bindings inside) in
    record {
      fits = subst (λ n. Fits d event n) (sym run) serving;
      found = λ bounds h.
          let b = the_bound d.events s.events bounds event e.0 t h e.1 at.1 in
          let ns = b.2.0 in
          let order = b.2.1 in
          let placed = Contains-permutation (numbers_of t.bindings) ns number order.0.0 (subst (λ n. Contains (numbers_of t.bindings) n) named (Contains-number t.bindings x.0 inside)) in
          let found : binding_of b.0.bindings number ≡ Some x.0 = ap (λ (b : Bound). binding_of b.bindings number) b.2.2 ∙ find_arranged t.bindings ns number x.0 placed x.1 in
          run ∙ sym (handler_read bounds event number b.0 x.0 b.1 found);
    }
