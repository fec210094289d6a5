-- An event of words that an install is about, and what it leaves of the others.
use Rattle.std.proofs.Common.{◌≡◌, ◌∙◌, ◌<◌, ◌≤◌, ◌+◌, ℕ, zero, suc, Bool, true, false, List, [], ◌∷◌, ◌++◌, map, length, drop, refl, sym, ap, subst, arith}
use Rattle.std.specs.Prelude.{nat_le, slice_get, slice_set, Option, Some, None, All}
use Rattle.std.proofs.lemmas.List.{map-append, length-map, drop-set-lt}
use Rattle.std.proofs.lemmas.List.Elements.{All-push, All-weaker}
use Rattle.std.proofs.lemmas.List.Quantifiers.{all_pairs_push}
use Rattle.std.proofs.lemmas.Option.{slice_get_within}
use Rattle.spin_word.specs.declared.command.Place.{Place}
use Rattle.spin_word.specs.declared.command.Command.{Command}
use Rattle.spin_place.specs.declared.binding.Binding.{Binding}
use Rattle.spin_place.specs.Orders.{AreDistinct}
use Rattle.spin_place.specs.Precedence.{numbers_of}
use Rattle.spin_table.specs.declared.event.EventDef.{EventDef}
use Rattle.spin_table.specs.declared.refusal.Refusal.TheVariants as refusal
use Rattle.spin_table.specs.declared.refusal.Verdicted.{Verdicted}
use Rattle.spin_table.specs.declared.refusal.Verdicted.TheVariants as verdicted
use Rattle.spin_table.specs.Setups.{SetupData}
use Rattle.spin_table.specs.States.{State, EventState}
use Rattle.spin_table.specs.Steps.{state_after, event_after, events_after, bindings_if, bindings_at, IsStep}
use Rattle.spin_table.proofs.CommandSteps.{slice_get-set_same}
use Rattle.spin_proto.specs.Replies.{units_in}
use Rattle.spin_gen_law.proofs.OrderLemmas.{NamesNone, no_cycle}
use Rattle.spin_gen_law.proofs.RaiseCounts.{GivesResult}
use Rattle.spin_gen_law.proofs.WordSetups.{IsWordEvent, IsWordHandler, IsWordGuard, HasWords}
use Rattle.spin_gen_law.proofs.InstallVerdicts.{install_of, binding_by, added, Comes, install_comes}
use Rattle.spin_gen_law.proofs.CalmStates.{IsCalm, IsCalmAt, guards_at, gives_result}

-- ---- states

-- the first eight events are calm, and the others are these
pub record IsCalmState (d : SetupData) (others : List EventState) (s : State) : Type 0 where
  pub each : (event : ℕ) → event < 8 → IsCalmAt d s event
  pub others_are : drop 8 s.events ≡ others

-- a later place leaves an event calm
calm_later : (d : SetupData) (place : ℕ) (t : EventState) → IsCalm d place t → IsCalm d (place + 1) t
calm_later d place t h = record {
  default = h.default;
  results = h.results;
  names = h.names;
  below = All-weaker (λ n. n ≤ place) (λ n. n ≤ place + 1) (λ n le. omega (arith, le)) (numbers_of t.bindings) h.below;
  apart = h.apart;
}

slice_get-set_other : {X : Type 0} (xs : List X) (at k : ℕ) (x : X) → (k ≡ at → ⊥) → slice_get (slice_set xs at x) k ≡ slice_get xs k
slice_get-set_other [] at k x other = refl
slice_get-set_other (y ∷ ys) zero zero x other = absurd (other refl)
slice_get-set_other (y ∷ ys) zero (suc k) x other = refl
slice_get-set_other (y ∷ ys) (suc at) zero x other = refl
slice_get-set_other (y ∷ ys) (suc at) (suc k) x other = slice_get-set_other ys at k x (λ e. other (ap suc e))

-- a command leaves each event but its own
pub elsewhere : (d : SetupData) (c : Command) (s : State) (k : ℕ) → (k ≡ c.event → ⊥) → slice_get (state_after d c s).events k ≡ slice_get s.events k
elsewhere d c s k other = go (slice_get d.events c.event) (slice_get s.events c.event)
  where
    go : (e : Option EventDef) (t : Option EventState) → slice_get (events_after d.policies (s.place + 1) c e t s.events) k ≡ slice_get s.events k
    go None t = refl
    go (Some e) None = refl
    go (Some e) (Some t) = slice_get-set_other s.events c.event k (event_after d.policies e (s.place + 1) c t) other

-- and so the events from one number on, above its own
pub beyond : (d : SetupData) (c : Command) (s : State) (k : ℕ) → c.event < k → drop k (state_after d c s).events ≡ drop k s.events
beyond d c s k below = go (slice_get d.events c.event) (slice_get s.events c.event)
  where
    go : (e : Option EventDef) (t : Option EventState) → drop k (events_after d.policies (s.place + 1) c e t s.events) ≡ drop k s.events
    go None t = refl
    go (Some e) None = refl
    go (Some e) (Some t) = drop-set-lt k s.events c.event (event_after d.policies e (s.place + 1) c t) below

-- an event that a command isn't about stays calm
pub calm_elsewhere : (d : SetupData) (c : Command) (s : State) (k : ℕ) → (k ≡ c.event → ⊥) → IsCalmAt d s k → IsCalmAt d (state_after d c s) k
calm_elsewhere d c s k other h = record {
  state = h.state;
  there = elsewhere d c s k other ∙ h.there;
  calm = calm_later d s.place h.state h.calm;
}

-- ---- an install

module _ (d : SetupData) (s : State) (event handler guard : ℕ) (p : Place) (fit : HasWords d)
    (e : IsWordEvent d event) (h : IsWordHandler d handler) (first : 0 < handler) (g : (0 < guard) → IsWordGuard d guard)
    (t : IsCalmAt d s event) where
  abbrev b : Binding
  b = binding_by (s.place + 1) handler guard p

  abbrev bs : List Binding
  bs = t.state.bindings ++ b ∷ []

  names : All NamesNone bs
  names = All-push NamesNone t.state.bindings b t.calm.names (record { before = refl; after = refl })

  numbers : numbers_of bs ≡ numbers_of t.state.bindings ++ (s.place + 1) ∷ []
  numbers = map-append (λ (x : Binding). x.number) t.state.bindings (b ∷ [])

  apart : AreDistinct (numbers_of bs)
  apart =
      subst AreDistinct (sym numbers)
      (all_pairs_push (λ m n. m ≡ n → ⊥) (numbers_of t.state.bindings) (s.place + 1) t.calm.apart
      (λ k x inside same. let low = t.calm.below k x inside in omega (arith, low, same)))

  below : All (λ n. n ≤ s.place + 1) (numbers_of bs)
  below =
      subst (λ (ns : List ℕ). All (λ n. n ≤ s.place + 1) ns) (sym numbers)
      (All-push (λ n. n ≤ s.place + 1) (numbers_of t.state.bindings) (s.place + 1) (calm_later d s.place t.state t.calm).below (omega arith))

  results : All (GivesResult (units_in d)) bs
  results = All-push (GivesResult (units_in d)) t.state.bindings b t.calm.results (record {
    result = h.result;
    steps = gives_result d handler h ∙ h.steps;
    imposed = refl;
    mode = refl;
  })

  abbrev c : Command
  c = install_of event handler guard p

  abbrev after : EventState
  after = event_after d.policies e.def (s.place + 1) c t.state

  events : (state_after d c s).events ≡ slice_set s.events event after
  events =
      ap (λ (o : Option EventDef). events_after d.policies (s.place + 1) c o (slice_get s.events event) s.events) e.there
      ∙ ap (λ (o : Option EventState). events_after d.policies (s.place + 1) c (Some e.def) o s.events) t.there

  there : slice_get (state_after d c s).events event ≡ Some after
  there =
      ap (λ (es : List EventState). slice_get es event) events
      ∙ slice_get-set_same s.events event after (slice_get_within s.events event t.state t.there)

  is_added : bindings_at (state_after d c s) event ≡ bs
  is_added = added d s t.state event handler guard p fit e h first g t.there

  after_is : after.bindings ≡ bs
  after_is = sym (ap bindings_if there) ∙ is_added

  pub calm_after : IsCalmAt d (state_after d c s) event
  calm_after = record {
    state = after;
    there = there;
    calm = record {
      default = t.calm.default;
      results = subst (λ (xs : List Binding). All (GivesResult (units_in d)) xs) (sym after_is) results;
      names = subst (λ (xs : List Binding). All NamesNone xs) (sym after_is) names;
      below = subst (λ (xs : List Binding). All (λ n. n ≤ s.place + 1) (numbers_of xs)) (sym after_is) below;
      apart = subst (λ (xs : List Binding). AreDistinct (numbers_of xs)) (sym after_is) apart;
    };
  }

  pub guards_after : guards_at (state_after d c s) event ≡ guards_at s event ++ guard ∷ []
  guards_after =
      ap (map (λ (x : Binding). x.own_guard)) is_added
      ∙ map-append (λ (x : Binding). x.own_guard) t.state.bindings (b ∷ [])
      ∙ ap (λ (o : Option EventState). map (λ (x : Binding). x.own_guard) (bindings_if o) ++ guard ∷ []) (sym t.there)

  size : length t.state.bindings ≡ length (guards_at s event)
  size =
      sym (length-map t.state.bindings (λ (x : Binding). x.own_guard))
      ∙ ap (λ (o : Option EventState). length (map (λ (x : Binding). x.own_guard) (bindings_if o))) (sym t.there)

  -- what an install comes to, by how many bindings there are
  abbrev pub Installs : Bool → Verdicted → State → Type 0
  Installs true v next = (v ≡ verdicted.Refused refusal.TooMany) × (next ≡ s)
  Installs false v next = (v ≡ verdicted.Accepted) × (next ≡ state_after d c s)

  pub installs : (v : Verdicted) (next : State) → IsStep d s c v next → Installs (nat_le d.live (length (guards_at s event))) v next
  installs v next step =
      go (nat_le d.live (length t.state.bindings)) (ap (nat_le d.live) size) (install_comes d s t.state event handler guard p fit e h first g t.there (λ ns. no_cycle bs ns apart names) v next step)
    where
      go : (full : Bool) → full ≡ nat_le d.live (length (guards_at s event))
          → Comes d s t.state event handler guard p fit e h first g t.there full v next → Installs (nat_le d.live (length (guards_at s event))) v next
      go true is got = subst (λ (x : Bool). Installs x v next) is got
      go false is got = subst (λ (x : Bool). Installs x v next) is got
