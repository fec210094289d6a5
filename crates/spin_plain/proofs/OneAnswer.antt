-- What a deed comes to at a state is what the plain dispatcher gives.
use Rattle.std.proofs.Common.{◌≡◌, ℕ, ◌+◌, Bool, true, false, List, [], ◌∷◌, length, map, refl, sym, ap, subst, ◌∙◌}
use Rattle.std.specs.Prelude.{slice_get, Option, Some, None, MatchOption}
use Rattle.std.specs.List.{AllByRecursion, enumerate_from, zip}
use Rattle.std.proofs.lemmas.Bool.{eq-eqb, ne_eqb}
use Rattle.std.proofs.lemmas.List.Elements.{All-head, All-tail}
use Rattle.spin_word.specs.declared.command.Op.{Op}
use Rattle.spin_word.specs.declared.command.Op.TheVariants as op
use Rattle.spin_word.specs.declared.command.Command.{Command}
use Rattle.spin_values.specs.First.{first_of}
use Rattle.spin_place.specs.declared.binding.Binding.{Binding}
use Rattle.spin_place.specs.Precedence.{numbers_of, IsCycle}
use Rattle.spin_place.proofs.BindingPlacing.{IsCycle-unlawful}
use Rattle.spin_table.specs.declared.event.EventDef.{EventDef}
use Rattle.spin_table.specs.declared.refusal.Refusal.{Refusal}
use Rattle.spin_table.specs.declared.refusal.Refusal.TheVariants as refusal
use Rattle.spin_table.specs.declared.refusal.Verdicted.{Verdicted}
use Rattle.spin_table.specs.declared.refusal.Verdicted.TheVariants as verdicted
use Rattle.spin_table.specs.Setups.{SetupData}
use Rattle.spin_table.specs.States.{State, EventState}
use Rattle.spin_table.specs.Refusals.{refusals_at, refusal_on, refusal_of}
use Rattle.spin_table.specs.Steps.{state_after, bindings_at, IsOrderly, IsConflict, ChangesTo, IsStep}
use Rattle.spin_table.specs.Laws.{cause_of, without_cycle}
use Rattle.spin_raise.specs.Firing.{Bound, bound_of}
use Rattle.spin_proto.specs.declared.deed.JobCall.{JobCall}
use Rattle.spin_proto.specs.declared.reply.Reply.{Reply}
use Rattle.spin_proto.specs.Replies.{AreBounds, units_in, types_in, deed_reply, job_reply}
use Rattle.spin_report.specs.declared.entry.What.{What}
use Rattle.spin_report.specs.declared.entry.What.TheVariants as what
use Rattle.spin_report.specs.declared.entry.Entry.{Entry}
use Rattle.spin_report.specs.Lines.{JobSeen}
use Rattle.spin_report.specs.Asked.{asked_by, asked_of}
use Rattle.spin_report.specs.Legal.{Answers, IsNextEntry}
use Rattle.spin_report.specs.Jobs.{answer_calls, entry_job, AreJobsFrom}
use Rattle.spin_plain.specs.Order.{in_order}
use Rattle.spin_plain.specs.Plain.{can_stand, verdict_by, verdict_on, found_at, answered, left_by, next_state, entry_for, jobs_for}
use Rattle.spin_plain.specs.Laws.{what_without, entry_without}
use Rattle.spin_plain.proofs.Turns.{whole-in_order, IsTheOrder-in_order, arranged_is}
use Rattle.spin_plain.proofs.RisingNumbers.{Rises, EachRises, IsRising, at_rises, next_rises}

-- ---- replies

-- raises find the events so
found_is : (top : ℕ) (es : List EventDef) (ts : List EventState) (bs : List Bound) → EachRises top ts → AreBounds es ts bs
    → bs ≡ map (λ e. bound_of (in_order e.1.bindings) e.0.merge e.1.default) (zip es ts)
found_is top [] [] [] all h = refl
found_is top [] [] (b ∷ bs) all h = absurd h
found_is top [] (t ∷ ts) bs all h = absurd h
found_is top (e ∷ es) [] bs all h = absurd h
found_is top (e ∷ es) (t ∷ ts) [] all h = absurd h
found_is top (e ∷ es) (t ∷ ts) (b ∷ bs) all h =
    let here = All-head (λ (x : EventState). Rises top x.bindings) t ts all in
    let first : b ≡ bound_of (in_order t.bindings) e.merge t.default =
    h.0.2 ∙ ap (λ xs. bound_of xs e.merge t.default) (arranged_is t.bindings here.rise h.0.0 h.0.1) in
    let rest = found_is top es ts bs (All-tail (λ (x : EventState). Rises top x.bindings) t ts all) h.1 in
    λ i. first i ∷ rest i

-- ---- verdicts

-- bindings that have an order can stand
stands : (o : Op) (bs : List Binding) (top : ℕ) → Rises top bs → IsOrderly o bs → can_stand o bs ≡ true
stands op.Install bs top rises orderly = eq-eqb (length (in_order bs)) (length bs) (whole-in_order bs rises.rise orderly)
stands op.Remove bs top rises orderly = refl
stands op.Replace bs top rises orderly = refl
stands op.Default bs top rises orderly = refl
stands op.NoDefault bs top rises orderly = refl

-- those that an install is refused for can't
cycle_falls : (bs : List Binding) (cycle : List ℕ) (top : ℕ) → Rises top bs → IsCycle bs cycle → can_stand op.Install bs ≡ false
cycle_falls bs cycle top rises is =
    ne_eqb (length (in_order bs)) (length bs)
    (λ whole. IsCycle-unlawful bs cycle is (numbers_of (in_order bs)) (IsTheOrder-in_order bs rises.rise whole).0)

abbrev Falls : Op → List Binding → Refusal → Type 0
Falls o bs r = (can_stand o bs ≡ false) × (cause_of r ≡ refusal.Conflict [])

falls : (o : Op) (bs : List Binding) (top : ℕ) (r : Refusal) → Rises top bs → IsConflict o bs r → Falls o bs r
falls op.Install bs top (refusal.Conflict cycle) rises is = (cycle_falls bs cycle top rises is, refl)
falls op.Install bs top refusal.UnknownEvent rises is = absurd is
falls op.Install bs top refusal.UnknownModule rises is = absurd is
falls op.Install bs top refusal.UnknownHandler rises is = absurd is
falls op.Install bs top refusal.UnknownGuard rises is = absurd is
falls op.Install bs top refusal.UnknownBinding rises is = absurd is
falls op.Install bs top refusal.WrongType rises is = absurd is
falls op.Install bs top refusal.Downward rises is = absurd is
falls op.Install bs top refusal.WrongMode rises is = absurd is
falls op.Install bs top (refusal.Denied rule) rises is = absurd is
falls op.Install bs top refusal.TooMany rises is = absurd is
falls op.Install bs top (refusal.ForcedMode rule) rises is = absurd is
falls op.Remove bs top r rises is = absurd is
falls op.Replace bs top r rises is = absurd is
falls op.Default bs top r rises is = absurd is
falls op.NoDefault bs top r rises is = absurd is

-- of refusals that aren't conflicts the first isn't one
first_is_none : (xs : List (Bool × Refusal)) (r : Refusal) → AllByRecursion (λ x. cause_of x.1 ≡ x.1) xs → first_of xs ≡ Some r → cause_of r ≡ r
first_is_none [] r none first = absurd (cc (first))
first_is_none ((true, q) ∷ xs) r none first = let same : q ≡ r = cc (first) in ap cause_of (sym same) ∙ none.0 ∙ same
first_is_none ((false, q) ∷ xs) r none first = first_is_none xs r none.1 first

no_conflict : (d : SetupData) (s : State) (c : Command) (r : Refusal) → refusal_of d s c ≡ Some r → cause_of r ≡ r
no_conflict d s c r is = go (slice_get d.events c.event) (slice_get s.events c.event) is
  where
    absent : Some refusal.UnknownEvent ≡ Some r → cause_of r ≡ r
    absent first = let same : refusal.UnknownEvent ≡ r = cc (first) in ap cause_of (sym same) ∙ same

    go : (e : Option EventDef) (t : Option EventState) → refusal_on d c e t ≡ Some r → cause_of r ≡ r
    go (Some e) (Some t) first = first_is_none (refusals_at d e t.bindings c) r (refl, (refl, (refl, (refl, (refl, (refl, (refl, (refl, (refl, (refl, tt)))))))))) first
    go (Some e) None first = absent first
    go None t first = absent first

-- the verdict is this one but for its cycle, and the state is the one that it leaves
abbrev Agrees : SetupData → State → Command → Verdicted → State → Verdicted → Type 0
Agrees d s c v next plain = (without_cycle v ≡ plain) × (next ≡ left_by d s (what.Command c plain))

verdict_is : (d : SetupData) (s : State) (c : Command) (v : Verdicted) (next : State) → IsRising s → IsStep d s c v next → Agrees d s c v next (verdict_on d s c)
verdict_is d s c v next rising step = by_refusal (refusal_of d s c) refl v step
  where
    would_be : Rises (s.place + 1) (bindings_at (state_after d c s) c.event)
    would_be = at_rises (s.place + 1) (state_after d c s) c.event (next_rises d s c rising)

    by_refusal : (o : Option Refusal) → refusal_of d s c ≡ o → (v : Verdicted)
        → MatchOption o (ChangesTo d s c v next) (λ r. (v ≡ verdicted.Refused r) × (next ≡ s))
        → Agrees d s c v next (verdict_by o (can_stand c.op (bindings_at (state_after d c s) c.event)))
    by_refusal (Some r) is v h = (ap without_cycle h.0 ∙ ap (λ (x : Refusal). verdicted.Refused x) (no_conflict d s c r is), h.1)
    by_refusal None is verdicted.Accepted h =
        let fit = stands c.op (bindings_at (state_after d c s) c.event) (s.place + 1) would_be h.1 in
        subst (λ t. Agrees d s c verdicted.Accepted next (verdict_by None t)) (sym fit) (refl, h.0)
    by_refusal None is (verdicted.Refused r) h =
        let unfit = falls c.op (bindings_at (state_after d c s) c.event) (s.place + 1) r would_be h.1 in
        subst (λ t. Agrees d s c (verdicted.Refused r) next (verdict_by None t)) (sym unfit.0) (ap (λ (x : Refusal). verdicted.Refused x) unfit.1, h.0)

-- ---- entries

left_rises : (d : SetupData) (s : State) (w : What) → IsRising s → IsRising (left_by d s w)
left_rises d s (what.Command c verdicted.Accepted) rising = next_rises d s c rising
left_rises d s (what.Command c (verdicted.Refused r)) rising = rising
left_rises d s (what.Deed asked reply) rising = rising

answer_is : (d : SetupData) (s next : State) (w : What) → IsRising s → Answers d s w next
    → (what_without w ≡ answered d s (asked_by w)) × (next ≡ left_by d s (answered d s (asked_by w)))
answer_is d s next (what.Command c v) rising answers =
    let one = verdict_is d s c v next rising answers in
    (ap (λ (x : Verdicted). what.Command c x) one.0, one.1)
answer_is d s next (what.Deed asked reply) rising answers =
    let found : answers.0.0 ≡ found_at d s = found_is s.place d.events s.events answers.0.0 rising answers.0.1 in
    let same : reply ≡ deed_reply (units_in d) (found_at d s) (types_in d) asked =
    answers.0.2 ∙ ap (λ (bs : List Bound). deed_reply (units_in d) bs (types_in d) asked) found in
    (ap (λ (x : Reply). what.Deed asked x) same, answers.1)

-- an entry is the plain dispatcher's, but for its cycle, and leaves the state that the plain dispatcher does
pub record IsPlainEntry (d : SetupData) (s : State) (entry : Entry) (next : State) : Type 0 where
  pub entry_is : entry_without entry ≡ entry_for d s (asked_of entry)
  pub next_is : next ≡ next_state d s (asked_of entry)
  pub rising : IsRising (next_state d s (asked_of entry))

pub one_entry : (d : SetupData) (s : State) (entry : Entry) (next : State) → IsRising s → IsNextEntry d s entry next → IsPlainEntry d s entry next
one_entry d s entry next rising is =
    let one = answer_is d s next entry.what rising is.0 in
    let place : entry.place ≡ (next_state d s (asked_of entry)).place = is.1 ∙ ap (λ (x : State). x.place) one.1 in
    record {
      entry_is = λ i. record { place = place i; lane = entry.lane; line = entry.line; part = entry.part; what = one.0 i };
      next_is = one.1;
      rising = left_rises d s (answered d s (asked_by entry.what)) rising;
    }

-- ---- jobs

calls_kept : (w : What) → answer_calls w ≡ answer_calls (what_without w)
calls_kept (what.Command c v) = refl
calls_kept (what.Deed asked reply) = refl

jobs_from_index : (d : SetupData) (s : State) (entry : Entry) (k : ℕ) (calls : List JobCall) (jobs : List JobSeen) → IsRising s → AreJobsFrom d s entry k calls jobs
    → jobs ≡ map (λ call. entry_job entry call.0 (job_reply (units_in d) (found_at d s) call.1)) (enumerate_from k calls)
jobs_from_index d s entry k [] jobs rising are = are
jobs_from_index d s entry k (call ∷ calls) jobs rising (reply, others, is, all, rest) =
    let found : is.0 ≡ found_at d s = found_is s.place d.events s.events is.0 rising is.1 in
    let same : reply ≡ job_reply (units_in d) (found_at d s) call = is.2 ∙ ap (λ (bs : List Bound). job_reply (units_in d) bs call) found in
    let more = jobs_from_index d s entry (k + 1) calls others rising rest in
    all ∙ (λ i. entry_job entry k (same i) ∷ more i)

-- the jobs of an entry are those of the plain dispatcher's
pub one_entry_jobs : (d : SetupData) (s : State) (entry : Entry) (jobs : List JobSeen) → IsRising s
    → AreJobsFrom d s entry 0 (answer_calls entry.what) jobs → jobs ≡ jobs_for d s (entry_without entry)
one_entry_jobs d s entry jobs rising are =
    jobs_from_index d s entry 0 (answer_calls entry.what) jobs rising are
    ∙ ap (λ (calls : List JobCall). map (λ call. entry_job entry call.0 (job_reply (units_in d) (found_at d s) call.1)) (enumerate_from 0 calls)) (calls_kept entry.what)
