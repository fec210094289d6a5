-- In each state that commands lead to, the bindings of an event rise by number.
use Rattle.std.proofs.Common.{◌≡◌, ℕ, ◌+◌, ◌<◌, ◌≤◌, List, [], ◌∷◌, ◌++◌, map, refl, sym, subst, arith}
use Rattle.std.specs.Prelude.{◌==◌, not, filter, slice_get, Option, Some, None, All, AllPairs}
use Rattle.std.proofs.lemmas.Option.{slice_get_within, get_or_from_slice_get}
use Rattle.std.proofs.lemmas.List.{map-append}
use Rattle.std.proofs.lemmas.List.Elements.{All-nil, All-push, All-filter, All-map, All-set, All-weaker}
use Rattle.std.proofs.lemmas.List.Kept.{AllPairs-filter}
use Rattle.std.proofs.lemmas.List.Quantifiers.{all_pairs_push}
use Rattle.spin_word.specs.declared.command.Op.{Op}
use Rattle.spin_word.specs.declared.command.Op.TheVariants as op
use Rattle.spin_word.specs.declared.command.Command.{Command}
use Rattle.spin_policy.specs.declared.rule.Rule.{Rule}
use Rattle.spin_policy.specs.declared.rule.Verdict.{Verdict}
use Rattle.spin_place.specs.declared.binding.Binding.{Binding}
use Rattle.spin_place.specs.Precedence.{numbers_of}
use Rattle.spin_table.specs.declared.event.EventDef.{EventDef}
use Rattle.spin_table.specs.Setups.{SetupData, rules_of}
use Rattle.spin_table.specs.States.{State, EventState, first_state, start_of}
use Rattle.spin_table.specs.Verdicts.{answer_to}
use Rattle.spin_table.specs.Steps.{installed, replaced_at, bindings_after, event_after, events_after, state_after, bindings_if, bindings_at}
use Rattle.spin_table.proofs.BindingSoundness.{number-replaced}
use Rattle.spin_table.proofs.LawfulOrders.{map-filter, numbers-map}

-- bindings that rise by number, up to this one
pub record Rises (top : ℕ) (bs : List Binding) : Type 0 where
  pub rise : AllPairs (λ m n. m < n) (numbers_of bs)
  pub low : All (λ n. n ≤ top) (numbers_of bs)

-- those of each event do
abbrev pub EachRises : ℕ → List EventState → Type 0
EachRises top events = All (λ (e : EventState). Rises top e.bindings) events

-- and none has a number above the place
abbrev pub IsRising : State → Type 0
IsRising s = EachRises s.place s.events

lower : (top : ℕ) (ns : List ℕ) → All (λ n. n ≤ top) ns → All (λ n. n ≤ top + 1) ns
lower top ns all = All-weaker (λ n. n ≤ top) (λ n. n ≤ top + 1) (λ n le. omega arith) ns all

higher : (top : ℕ) (bs : List Binding) → Rises top bs → Rises (top + 1) bs
higher top bs h = record { rise = h.rise; low = lower top (numbers_of bs) h.low }

each_higher : (top : ℕ) (events : List EventState) → EachRises top events → EachRises (top + 1) events
each_higher top events all =
    All-weaker (λ (e : EventState). Rises top e.bindings) (λ (e : EventState). Rises (top + 1) e.bindings) (λ e here. higher top e.bindings here) events all

none_rise : (top : ℕ) → Rises top []
none_rise top = record { rise = λ i j d l m. absurd (omega arith); low = All-nil (λ n. n ≤ top) }

-- bindings with these numbers
by_numbers : (top : ℕ) (bs : List Binding) (ns : List ℕ) → numbers_of bs ≡ ns → AllPairs (λ m n. m < n) ns → All (λ n. n ≤ top) ns → Rises top bs
by_numbers top bs ns same rise low = record { rise = subst (AllPairs (λ m n. m < n)) (sym same) rise; low = subst (All (λ n. n ≤ top)) (sym same) low }

after_rises : (rules : List Rule) (v : Verdict) (top : ℕ) (c : Command) (o : Op) (bs : List Binding) → Rises top bs → Rises (top + 1) (bindings_after rules v (top + 1) c o bs)
after_rises rules v top c op.Install bs h =
    by_numbers (top + 1) (bs ++ installed rules v (top + 1) c ∷ []) (numbers_of bs ++ (top + 1) ∷ [])
    (map-append (λ (b : Binding). b.number) bs (installed rules v (top + 1) c ∷ []))
    (all_pairs_push (λ m n. m < n) (numbers_of bs) (top + 1) h.rise (λ k d l. omega (arith, h.low k d l)))
    (All-push (λ n. n ≤ top + 1) (numbers_of bs) (top + 1) (lower top (numbers_of bs) h.low) (omega arith))
after_rises rules v top c op.Remove bs h =
    by_numbers (top + 1) (filter (λ (b : Binding). not (b.number == c.target)) bs) (filter (λ n. not (n == c.target)) (numbers_of bs))
    (map-filter (λ (b : Binding). b.number) (λ n. not (n == c.target)) bs)
    (AllPairs-filter (λ m n. m < n) (λ n. not (n == c.target)) (numbers_of bs) h.rise)
    (All-filter (λ n. not (n == c.target)) (λ n. n ≤ top + 1) (numbers_of bs) (lower top (numbers_of bs) h.low))
after_rises rules v top c op.Replace bs h =
    by_numbers (top + 1) (map (replaced_at rules v c) bs) (numbers_of bs) (numbers-map (replaced_at rules v c) (number-replaced rules v c) bs)
    h.rise (lower top (numbers_of bs) h.low)
after_rises rules v top c op.Default bs h = higher top bs h
after_rises rules v top c op.NoDefault bs h = higher top bs h

event_rises : (top : ℕ) (events : List EventState) (event : ℕ) (e : EventState) → slice_get events event ≡ Some e → EachRises top events → Rises top e.bindings
event_rises top events event e is all =
    subst (λ (x : EventState). Rises top x.bindings) (get_or_from_slice_get events event e e is) (all event e (slice_get_within events event e is))

pub at_rises : (top : ℕ) (s : State) (event : ℕ) → EachRises top s.events → Rises top (bindings_at s event)
at_rises top s event all = go (slice_get s.events event) refl
  where
    go : (e : Option EventState) → slice_get s.events event ≡ e → Rises top (bindings_if e)
    go None is = none_rise top
    go (Some e) is = event_rises top s.events event e is all

pub next_rises : (d : SetupData) (s : State) (c : Command) → IsRising s → IsRising (state_after d c s)
next_rises d s c all = go (slice_get d.events c.event) (slice_get s.events c.event) refl
  where
    go : (e : Option EventDef) (t : Option EventState) → slice_get s.events c.event ≡ t → EachRises (s.place + 1) (events_after d.policies (s.place + 1) c e t s.events)
    go (Some e) (Some t) is =
        All-set (λ (x : EventState). Rises (s.place + 1) x.bindings) s.events c.event (event_after d.policies e (s.place + 1) c t)
        (after_rises (rules_of d.policies e.authority) (answer_to d.policies e t.bindings c) s.place c c.op t.bindings (event_rises s.place s.events c.event t is all))
        (each_higher s.place s.events all)
    go (Some e) None is = each_higher s.place s.events all
    go None t is = each_higher s.place s.events all

pub start_rises : (d : SetupData) → IsRising (start_of d)
start_rises d = All-map (λ (e : EventState). Rises 0 e.bindings) first_state d.events (λ k e lt. none_rise 0)
