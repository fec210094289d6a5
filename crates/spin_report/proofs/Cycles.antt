-- What legal entries number: no place is above their count, and no number of a cycle is.
use Rattle.std.proofs.Common.{◌≡◌, ℕ, ◌+◌, ◌≤◌, Bool, true, false, List, [], ◌∷◌, length, get_or, refl, sym, ap, subst, ◌∙◌, arith}
use Rattle.std.specs.Prelude.{◌==◌, not, slice_get, Option, Some, None, MatchOption, All}
use Rattle.std.specs.List.{AllByRecursion}
use Rattle.std.proofs.lemmas.Option.{slice_get_within, get_or_from_slice_get}
use Rattle.std.proofs.lemmas.List.Elements.{All-nil, All-cons, All-push, All-filter, All-map, All-set, All-weaker}
use Rattle.spin_word.specs.declared.command.Op.{Op}
use Rattle.spin_word.specs.declared.command.Op.TheVariants as op
use Rattle.spin_word.specs.declared.command.Command.{Command}
use Rattle.spin_values.specs.First.{first_of}
use Rattle.spin_policy.specs.declared.rule.Rule.{Rule}
use Rattle.spin_policy.specs.declared.rule.Verdict.{Verdict}
use Rattle.spin_place.specs.declared.binding.Binding.{Binding}
use Rattle.spin_place.specs.Orders.{Leads}
use Rattle.spin_place.specs.Precedence.{MustPrecede, IsCycle}
use Rattle.spin_table.specs.declared.event.EventDef.{EventDef}
use Rattle.spin_table.specs.declared.refusal.Refusal.{Refusal}
use Rattle.spin_table.specs.declared.refusal.Refusal.TheVariants as refusal
use Rattle.spin_table.specs.declared.refusal.Verdicted.{Verdicted}
use Rattle.spin_table.specs.declared.refusal.Verdicted.TheVariants as verdicted
use Rattle.spin_table.specs.Setups.{SetupData, rules_of}
use Rattle.spin_table.specs.States.{State, EventState, first_state, start_of}
use Rattle.spin_table.specs.Verdicts.{answer_to}
use Rattle.spin_table.specs.Refusals.{refusals_at, refusal_on, refusal_of}
use Rattle.spin_table.specs.Steps.{installed, replaced_at, bindings_after, event_after, events_after, state_after, bindings_if, bindings_at, IsConflict, ChangesTo, IsStep}
use Rattle.spin_table.proofs.BindingSoundness.{number-replaced}
use Rattle.spin_report.specs.declared.entry.What.{What}
use Rattle.spin_report.specs.declared.entry.What.TheVariants as what
use Rattle.spin_report.specs.declared.entry.Entry.{Entry}
use Rattle.spin_report.specs.Legal.{Answers, IsLegal}
use Rattle.spin_report.specs.Laws.{cycle_of, cycle_in, cycle_told}

-- ---- the numbers of bindings

-- no binding has a number above this
abbrev UpTo : ℕ → List Binding → Type 0
UpTo top bs = All (λ (b : Binding). b.number ≤ top) bs

-- no binding of any event has
abbrev EachUpTo : ℕ → List EventState → Type 0
EachUpTo top events = All (λ (e : EventState). UpTo top e.bindings) events

-- bindings are numbered by the places at which they were installed
abbrev pub IsNumbered : State → Type 0
IsNumbered s = EachUpTo s.place s.events

higher : (top : ℕ) (bs : List Binding) → UpTo top bs → UpTo (top + 1) bs
higher top bs all = All-weaker (λ (b : Binding). b.number ≤ top) (λ (b : Binding). b.number ≤ top + 1) (λ b le. omega arith) bs all

each_higher : (top : ℕ) (events : List EventState) → EachUpTo top events → EachUpTo (top + 1) events
each_higher top events all = All-weaker (λ (e : EventState). UpTo top e.bindings) (λ (e : EventState). UpTo (top + 1) e.bindings) (λ e here. higher top e.bindings here) events all

event_up_to : (top : ℕ) (events : List EventState) (event : ℕ) (e : EventState) → slice_get events event ≡ Some e → EachUpTo top events → UpTo top e.bindings
event_up_to top events event e is all =
    subst (λ (x : EventState). UpTo top x.bindings) (get_or_from_slice_get events event e e is) (all event e (slice_get_within events event e is))

at_up_to : (top : ℕ) (s : State) (event : ℕ) → EachUpTo top s.events → UpTo top (bindings_at s event)
at_up_to top s event all = go (slice_get s.events event) refl
  where
    go : (e : Option EventState) → slice_get s.events event ≡ e → UpTo top (bindings_if e)
    go None is = All-nil (λ (b : Binding). b.number ≤ top)
    go (Some e) is = event_up_to top s.events event e is all

-- a command adds at most a binding of the next number
after_up_to : (rules : List Rule) (v : Verdict) (top : ℕ) (c : Command) (o : Op) (bs : List Binding) → UpTo top bs → UpTo (top + 1) (bindings_after rules v (top + 1) c o bs)
after_up_to rules v top c op.Install bs all = All-push (λ (b : Binding). b.number ≤ top + 1) bs (installed rules v (top + 1) c) (higher top bs all) (omega arith)
after_up_to rules v top c op.Remove bs all = All-filter (λ (b : Binding). not (b.number == c.target)) (λ (b : Binding). b.number ≤ top + 1) bs (higher top bs all)
after_up_to rules v top c op.Replace bs all =
    All-map (λ (b : Binding). b.number ≤ top + 1) (replaced_at rules v c) bs
    (All-weaker (λ (b : Binding). b.number ≤ top) (λ (b : Binding). (replaced_at rules v c b).number ≤ top + 1) (λ b le. omega (arith, number-replaced rules v c b)) bs all)
after_up_to rules v top c op.Default bs all = higher top bs all
after_up_to rules v top c op.NoDefault bs all = higher top bs all

next_numbered : (d : SetupData) (s : State) (c : Command) → IsNumbered s → IsNumbered (state_after d c s)
next_numbered d s c all = go (slice_get d.events c.event) (slice_get s.events c.event) refl
  where
    go : (e : Option EventDef) (t : Option EventState) → slice_get s.events c.event ≡ t → EachUpTo (s.place + 1) (events_after d.policies (s.place + 1) c e t s.events)
    go (Some e) (Some t) is =
        All-set (λ (x : EventState). UpTo (s.place + 1) x.bindings) s.events c.event (event_after d.policies e (s.place + 1) c t)
        (after_up_to (rules_of d.policies e.authority) (answer_to d.policies e t.bindings c) s.place c c.op t.bindings (event_up_to s.place s.events c.event t is all))
        (each_higher s.place s.events all)
    go (Some e) None is = each_higher s.place s.events all
    go None t is = each_higher s.place s.events all

start_numbered : (d : SetupData) → IsNumbered (start_of d)
start_numbered d = All-map (λ (e : EventState). UpTo 0 e.bindings) first_state d.events (λ k e lt. All-nil (λ (b : Binding). b.number ≤ 0))

-- ---- the numbers of cycles

precedes_up_to : (top : ℕ) (bs : List Binding) (m n : ℕ) → UpTo top bs → MustPrecede bs m n → m ≤ top
precedes_up_to top bs m n all (k, b, inside, at, here) =
    let low : (get_or bs k b).number ≤ top = all k b inside in
    omega (arith, here.0, ap (λ (x : Binding). x.number) at)

leads_up_to : (top : ℕ) (bs : List Binding) → UpTo top bs → (first : ℕ) (ns : List ℕ) (last : ℕ) → Leads (MustPrecede bs) first ns last → All (λ n. n ≤ top) (first ∷ ns)
leads_up_to top bs all first [] last leads = All-cons (λ (n : ℕ). n ≤ top) first [] (precedes_up_to top bs first last all leads) (All-nil (λ (n : ℕ). n ≤ top))
leads_up_to top bs all first (n ∷ ns) last leads = All-cons (λ (n : ℕ). n ≤ top) first (n ∷ ns) (precedes_up_to top bs first n all leads.0) (leads_up_to top bs all n ns last leads.1)

cycle_up_to : (top : ℕ) (bs : List Binding) (ns : List ℕ) → UpTo top bs → IsCycle bs ns → All (λ n. n ≤ top) ns
cycle_up_to top bs [] all cycle = All-nil (λ (n : ℕ). n ≤ top)
cycle_up_to top bs (n ∷ ns) all cycle = leads_up_to top bs all n ns n cycle.closed

conflict_up_to : (top : ℕ) (o : Op) (bs : List Binding) (r : Refusal) → UpTo top bs → IsConflict o bs r → All (λ n. n ≤ top) (cycle_of r)
conflict_up_to top op.Install bs (refusal.Conflict ns) all is = cycle_up_to top bs ns all is
conflict_up_to top op.Remove bs r all is = absurd is
conflict_up_to top op.Replace bs r all is = absurd is
conflict_up_to top op.Default bs r all is = absurd is
conflict_up_to top op.NoDefault bs r all is = absurd is
conflict_up_to top op.Install bs refusal.UnknownEvent all is = absurd is
conflict_up_to top op.Install bs refusal.UnknownModule all is = absurd is
conflict_up_to top op.Install bs refusal.UnknownHandler all is = absurd is
conflict_up_to top op.Install bs refusal.UnknownGuard all is = absurd is
conflict_up_to top op.Install bs refusal.UnknownBinding all is = absurd is
conflict_up_to top op.Install bs refusal.WrongType all is = absurd is
conflict_up_to top op.Install bs refusal.Downward all is = absurd is
conflict_up_to top op.Install bs refusal.WrongMode all is = absurd is
conflict_up_to top op.Install bs (refusal.Denied rule) all is = absurd is
conflict_up_to top op.Install bs refusal.TooMany all is = absurd is
conflict_up_to top op.Install bs (refusal.ForcedMode rule) all is = absurd is

-- of refusals that tell no cycle the first tells none
first_tells_none : (xs : List (Bool × Refusal)) (r : Refusal) → AllByRecursion (λ x. cycle_of x.1 ≡ []) xs → first_of xs ≡ Some r → cycle_of r ≡ []
first_tells_none [] r none first = absurd (cc (first))
first_tells_none ((true, q) ∷ xs) r none first = let same : q ≡ r = cc (first) in ap cycle_of (sym same) ∙ none.0
first_tells_none ((false, q) ∷ xs) r none first = first_tells_none xs r none.1 first

-- a refusal that comes before a conflict tells no cycle
none_before : (d : SetupData) (s : State) (c : Command) (r : Refusal) → refusal_of d s c ≡ Some r → cycle_of r ≡ []
none_before d s c r is = go (slice_get d.events c.event) (slice_get s.events c.event) is
  where
    absent : Some refusal.UnknownEvent ≡ Some r → cycle_of r ≡ []
    absent first = let same : refusal.UnknownEvent ≡ r = cc (first) in ap cycle_of (sym same)

    go : (e : Option EventDef) (t : Option EventState) → refusal_on d c e t ≡ Some r → cycle_of r ≡ []
    go (Some e) (Some t) first = first_tells_none (refusals_at d e t.bindings c) r (refl, (refl, (refl, (refl, (refl, (refl, (refl, (refl, (refl, (refl, tt)))))))))) first
    go (Some e) None first = absent first
    go None t first = absent first

-- ---- entries

-- What an answer tells, and leaves: the place grows by at most one, bindings stay numbered by places, and a cycle that
-- is told has no number above the next place.
record StaysNumbered (s next : State) (cycle : List ℕ) : Type 0 where
  place : next.place ≤ s.place + 1
  numbered : IsNumbered next
  cycle_is : All (λ n. n ≤ s.place + 1) cycle

stays : (s next : State) (cycle : List ℕ) → next ≡ s → IsNumbered s → All (λ n. n ≤ s.place + 1) cycle → StaysNumbered s next cycle
stays s next cycle same all low = subst (λ (t : State). StaysNumbered s t cycle) (sym same) (record { place = omega arith; numbered = all; cycle_is = low })

step_numbered : (d : SetupData) (s next : State) (c : Command) (v : Verdicted) → IsNumbered s → IsStep d s c v next → StaysNumbered s next (cycle_in v)
step_numbered d s next c v all step = by_refusal (refusal_of d s c) refl v step
  where
    by_refusal : (r : Option Refusal) → refusal_of d s c ≡ r → (v : Verdicted)
        → MatchOption r (ChangesTo d s c v next) (λ x. (v ≡ verdicted.Refused x) × (next ≡ s)) → StaysNumbered s next (cycle_in v)
    by_refusal (Some r) is v h =
        let none : cycle_in v ≡ [] = ap cycle_in h.0 ∙ none_before d s c r is in
        stays s next (cycle_in v) h.1 all (subst (All (λ (n : ℕ). n ≤ s.place + 1)) (sym none) (All-nil (λ (n : ℕ). n ≤ s.place + 1)))
    by_refusal None is verdicted.Accepted h =
        subst (λ (t : State). StaysNumbered s t []) (sym h.0) (record { place = omega arith; numbered = next_numbered d s c all; cycle_is = All-nil (λ (n : ℕ). n ≤ s.place + 1) })
    by_refusal None is (verdicted.Refused r) h =
        stays s next (cycle_of r) h.0 all
        (conflict_up_to (s.place + 1) c.op (bindings_at (state_after d c s) c.event) r (at_up_to (s.place + 1) (state_after d c s) c.event (next_numbered d s c all)) h.1)

answer_numbered : (d : SetupData) (s next : State) (w : What) → IsNumbered s → Answers d s w next → StaysNumbered s next (cycle_told w)
answer_numbered d s next (what.Command c v) all answers = step_numbered d s next c v all answers
answer_numbered d s next (what.Deed asked reply) all answers = stays s next [] answers.1 all (All-nil (λ (n : ℕ). n ≤ s.place + 1))

-- neither the place of the entry nor a number of its cycle is above this
abbrev pub IsUnder : ℕ → Entry → Type 0
IsUnder top entry = (entry.place ≤ top) × All (λ n. n ≤ top) (cycle_told entry.what)

entries_under : (d : SetupData) (top : ℕ) (entries : List Entry) (s last : State) → IsNumbered s → s.place + length entries ≤ top → IsLegal d s entries last → All (IsUnder top) entries
entries_under d top [] s last all room legal = All-nil (IsUnder top)
entries_under d top (e ∷ es) s last all room (next, (answers, place), legal) =
    let after = answer_numbered d s next e.what all answers in
    let grown = after.place in
    All-cons (IsUnder top) e es
    (omega (arith, place), All-weaker (λ (n : ℕ). n ≤ s.place + 1) (λ (n : ℕ). n ≤ top) (λ n low. omega arith) (cycle_told e.what) after.cycle_is)
    (entries_under d top es next last after.numbered (omega arith) legal)

-- the entries of a history from the start number nothing above their count
pub started_under : (d : SetupData) (entries : List Entry) (last : State) → IsLegal d (start_of d) entries last → All (IsUnder (length entries)) entries
started_under d entries last legal = entries_under d (length entries) entries (start_of d) last (start_numbered d) (omega arith) legal
