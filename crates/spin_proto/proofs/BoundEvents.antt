-- The events of a sound state as raises find them.
use Rattle.std.proofs.Common.{◌≡◌, ℕ, zero, suc, List, [], ◌∷◌, length, refl, sym, ap, subst, ◌∙◌, inl, inr, arith}
use Rattle.std.specs.Prelude.{slice_get, Option, None, Some, IsSomeAnd}
use Rattle.std.proofs.lemmas.Option.{slice_get_cases, slice_get_within, same_Some}
use Rattle.spin_place.specs.declared.binding.Binding.{Binding}
use Rattle.spin_place.specs.Precedence.{IsTheOrder}
use Rattle.spin_place.proofs.OrderLaws.{IsTheOrder-unique}
use Rattle.spin_raise.specs.Firing.{Bound, bound_of}
use Rattle.spin_table.specs.declared.event.EventDef.{EventDef}
use Rattle.spin_table.specs.Setups.{SetupData}
use Rattle.spin_table.specs.States.{State, EventState}
use Rattle.spin_table.specs.Orders.{arranged}
use Rattle.spin_table.specs.Soundness.{IsSound, IsSoundEvent}
use Rattle.spin_proto.specs.Replies.{IsBound, AreBounds}
use Rattle.spin_proto.proofs.LeastOrders.{the_order}

all_bounds : (es : List EventDef) (ts : List EventState) → length ts ≡ length es
    → ((k : ℕ) (t : EventState) → slice_get ts k ≡ Some t → (ns : List ℕ) × IsTheOrder t.bindings ns)
    → (bounds : List Bound) × AreBounds es ts bounds
all_bounds [] [] size orders = ([], tt)
all_bounds [] (t ∷ ts) size orders = absurd (omega (arith, size))
all_bounds (e ∷ es) [] size orders = absurd (omega (arith, size))
all_bounds (e ∷ es) (t ∷ ts) size orders =
    let first = orders 0 t refl in
    let rest = all_bounds es ts (omega (arith, size)) (λ k u read. orders (suc k) u read) in
    (bound_of (arranged t.bindings first.0) e.merge t.default ∷ rest.0, ((first.0, first.1, refl), rest.1))

-- the state of an event that is there is sound
pub sound_at : (d : SetupData) (s : State) (event : ℕ) (t : EventState) → IsSound d s → slice_get s.events event ≡ Some t
    → (e : EventDef) × (slice_get d.events event ≡ Some e) × IsSoundEvent d s.place event e t
sound_at d s event t sound read =
    elim (slice_get_cases d.events event).1 [
      | inl (e, inside, here, at) ↦ (e, here, sound.each event e t here read)
      | inr (past, none) ↦ absurd (omega (arith, slice_get_within s.events event t read, sound.events))
    ]

-- a sound state has events as raises find them
pub bounds_there : (d : SetupData) (s : State) → IsSound d s → (bounds : List Bound) × AreBounds d.events s.events bounds
bounds_there d s sound = all_bounds d.events s.events sound.events (λ k t read. the_order t.bindings (sound_at d s k t sound read).2.orderly)

-- an event is found one way
pub bound_unique : (e : EventDef) (t : EventState) (b c : Bound) → IsBound e t b → IsBound e t c → b ≡ c
bound_unique e t b c (ms, first, is) (ns, second, also) =
    is ∙ ap (λ xs. bound_of (arranged t.bindings xs) e.merge t.default) (IsTheOrder-unique t.bindings ms ns first second) ∙ sym also

-- and so are all
pub bounds_unique : (es : List EventDef) (ts : List EventState) (bs cs : List Bound) → AreBounds es ts bs → AreBounds es ts cs → bs ≡ cs
bounds_unique [] [] [] [] h g = refl
bounds_unique [] [] [] (c ∷ cs) h g = absurd g
bounds_unique [] [] (b ∷ bs) cs h g = absurd h
bounds_unique [] (t ∷ ts) bs cs h g = absurd h
bounds_unique (e ∷ es) [] bs cs h g = absurd h
bounds_unique (e ∷ es) (t ∷ ts) [] cs h g = absurd h
bounds_unique (e ∷ es) (t ∷ ts) (b ∷ bs) [] h g = absurd g
bounds_unique (e ∷ es) (t ∷ ts) (b ∷ bs) (c ∷ cs) h g =
    let first = bound_unique e t b c h.0 g.0 in
    let rest = bounds_unique es ts bs cs h.1 g.1 in
    ap (λ x. x ∷ bs) first ∙ ap (λ xs. c ∷ xs) rest

-- the event of a number
pub bound_at : (es : List EventDef) (ts : List EventState) (bs : List Bound) (k : ℕ) (e : EventDef) (t : EventState) (b : Bound) → AreBounds es ts bs
    → slice_get es k ≡ Some e → slice_get ts k ≡ Some t → IsBound e t b → slice_get bs k ≡ Some b
bound_at [] ts bs k e t b h def read is = cc
bound_at (d ∷ es) [] bs k e t b h def read is = cc
bound_at (d ∷ es) (u ∷ ts) [] k e t b h def read is = absurd h
bound_at (d ∷ es) (u ∷ ts) (c ∷ bs) zero e t b h def read is =
    let same_def : d ≡ e = same_Some _ _ def in
    let same_state : u ≡ t = same_Some _ _ read in
    let first : IsBound e t c = subst (λ (x : EventDef). IsBound x t c) same_def (subst (λ (x : EventState). IsBound d x c) same_state h.0) in
    ap Some (bound_unique e t c b first is)
bound_at (d ∷ es) (u ∷ ts) (c ∷ bs) (suc k) e t b h def read is = bound_at es ts bs k e t b h.1 def read is

-- the event of a number, with how it is found
pub the_bound : (es : List EventDef) (ts : List EventState) (bs : List Bound) (k : ℕ) (e : EventDef) (t : EventState) → AreBounds es ts bs
    → slice_get es k ≡ Some e → slice_get ts k ≡ Some t → (b : Bound) × (slice_get bs k ≡ Some b) × IsBound e t b
the_bound [] ts bs k e t h def read = cc
the_bound (d ∷ es) [] bs k e t h def read = cc
the_bound (d ∷ es) (u ∷ ts) [] k e t h def read = absurd h
the_bound (d ∷ es) (u ∷ ts) (c ∷ bs) zero e t h def read =
    let same_def : d ≡ e = same_Some _ _ def in
    let same_state : u ≡ t = same_Some _ _ read in
    (c, refl, subst (λ (x : EventDef). IsBound x t c) same_def (subst (λ (x : EventState). IsBound d x c) same_state h.0))
the_bound (d ∷ es) (u ∷ ts) (c ∷ bs) (suc k) e t h def read = the_bound es ts bs k e t h.1 def read

state_from : (o : Option EventState) (default : ℕ) (plan : List Binding) → IsSomeAnd o (λ t. default ≡ t.default)
    → IsSomeAnd o (λ t. (ns : List ℕ) → IsTheOrder t.bindings ns → plan ≡ arranged t.bindings ns)
    → (t : EventState) × (o ≡ Some t) × (default ≡ t.default) × ((ns : List ℕ) → IsTheOrder t.bindings ns → plan ≡ arranged t.bindings ns)
state_from None default plan h g = absurd h
state_from (Some t) default plan h g = (t, refl, h, g)

-- what a version says of an event
pub record Here (d : SetupData) (s : State) (event : ℕ) (e : EventDef) (b : Bound) : Type 0 where
  pub state : EventState
  pub read : slice_get s.events event ≡ Some state
  pub sound : IsSoundEvent d s.place event e state
  pub bound : IsBound e state b

pub here : (d : SetupData) (s : State) (event : ℕ) (e : EventDef) (plan : List Binding) (default : ℕ) → IsSound d s → slice_get d.events event ≡ Some e
    → IsSomeAnd (slice_get s.events event) (λ (t : EventState). default ≡ t.default)
    → IsSomeAnd (slice_get s.events event) (λ (t : EventState). (ns : List ℕ) → IsTheOrder t.bindings ns → plan ≡ arranged t.bindings ns)
    → Here d s event e (bound_of plan e.merge default)
here d s event e plan default sound def at_default at_plan =
    let t = state_from (slice_get s.events event) default plan at_default at_plan in
    let fit = sound.each event e t.0 def t.1 in
    let order = the_order t.0.bindings fit.orderly in
    record {
      state = t.0;
      read = t.1;
      sound = fit;
      bound = (order.0, order.1, ap (λ bs. bound_of bs e.merge default) (t.3 order.0 order.1) ∙ ap (λ n. bound_of (arranged t.0.bindings order.0) e.merge n) t.2);
    }
