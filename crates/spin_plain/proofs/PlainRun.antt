-- Where the plain dispatcher meets no conflict, its history is one of the script's.
use Rattle.std.proofs.Common.{◌≡◌, ◌⊎◌, inl, inr, ℕ, zero, suc, ◌+◌, ◌<◌, Bool, true, false, not, cond, List, [], ◌∷◌, ◌++◌, length, get_or, map, take, drop, refl, sym, ap, subst, ◌∙◌, arith}
use Rattle.std.specs.Prelude.{◌==◌, nat_lt, slice_get, slice_set, Option, Some, None, All, AllPairs, MatchOption}
use Rattle.std.specs.List.{enumerate_from, flat_map, zip}
use Rattle.std.specs.Ordering.{is_lt, nat_cmp, bool_cmp, ordering_then}
use Rattle.std.specs.declared.cmp.Ordering.TheVariants as ordering
use Rattle.std.proofs.Math.Seq.{take-append_seam, drop-append_seam}
use Rattle.std.proofs.lemmas.Bool.{eqb-true}
use Rattle.std.proofs.lemmas.Bool.Decides.{nat_tests}
use Rattle.std.proofs.lemmas.Option.{slice_get_within, get_or_from_slice_get}
use Rattle.std.proofs.lemmas.List.{length-map, length-set}
use Rattle.std.proofs.lemmas.List.Elements.{All-nil, All-cons, All-head, All-tail, All-append, All-map, All-set, All-take, All-drop, All-weaker}
use Rattle.std.proofs.lemmas.List.Sorted.{IsPermutation-refl}
use Rattle.spin_word.specs.declared.command.Op.{Op}
use Rattle.spin_word.specs.declared.command.Op.TheVariants as op
use Rattle.spin_word.specs.declared.command.Command.{Command}
use Rattle.spin_word.specs.declared.work.Work.{Work}
use Rattle.spin_word.specs.declared.work.Work.TheVariants as work
use Rattle.spin_place.specs.declared.binding.Binding.{Binding}
use Rattle.spin_place.specs.Precedence.{numbers_of, HasLawfulOrder}
use Rattle.spin_place.proofs.NumberLists.{AllPairs-head, AllPairs-tail, AllPairs-take}
use Rattle.spin_table.specs.declared.event.EventDef.{EventDef}
use Rattle.spin_table.specs.declared.refusal.Refusal.{Refusal}
use Rattle.spin_table.specs.declared.refusal.Verdicted.TheVariants as verdicted
use Rattle.spin_table.specs.Setups.{SetupData}
use Rattle.spin_table.specs.States.{State, EventState, first_state, start_of}
use Rattle.spin_table.specs.Refusals.{refusal_on, refusal_of}
use Rattle.spin_table.specs.Steps.{event_after, events_after, state_after, bindings_if, bindings_at, IsOrderly, ChangesTo}
use Rattle.spin_table.proofs.CommandSteps.{slice_get-set_same, orderly_after}
use Rattle.spin_raise.specs.Firing.{bound_of}
use Rattle.spin_proto.specs.declared.deed.JobCall.{JobCall}
use Rattle.spin_proto.specs.Replies.{AreBounds, units_in, job_reply}
use Rattle.spin_script.specs.declared.script.Line.{Line}
use Rattle.spin_script.specs.declared.script.Segment.{Segment}
use Rattle.spin_script.specs.States.{ScriptData}
use Rattle.spin_script.specs.Soundness.{lines_in}
use Rattle.spin_script.specs.Segments.{IsOnLane}
use Rattle.spin_script.proofs.LaneLines.{script_orderly}
use Rattle.spin_report.specs.declared.entry.What.{What}
use Rattle.spin_report.specs.declared.entry.What.TheVariants as what
use Rattle.spin_report.specs.declared.entry.Entry.{Entry}
use Rattle.spin_report.specs.Histories.{SegmentSeen}
use Rattle.spin_report.specs.Legal.{Answers, IsLegal}
use Rattle.spin_report.specs.Jobs.{answer_calls, entry_job, AreJobsFrom, AreJobs}
use Rattle.spin_report.specs.Asked.{Numbered, asked_by, asked_of}
use Rattle.spin_report.specs.Segments.{records_wanted, raise_with, parts_of, asked_at, asked_in, is_accepted, moment, moment_cmp, of_lane, asked_of_lane, IsInOrder, IsWoven}
use Rattle.spin_report.specs.Runs.{RunPoint, frames_of, start_with, IsSegmentRun, AreRun}
use Rattle.spin_report.proofs.LaneAnswers.{filter_asked}
use Rattle.spin_report.proofs.Asking.{IsLater, asked_all, asked_rises}
use Rattle.spin_plain.specs.Order.{in_order}
use Rattle.spin_plain.specs.Plain.{can_stand, verdict_by, verdict_on, found_at, answered, left_by, next_state, entry_for, jobs_for, entries_from, jobs_from, state_from, plain_segment, plain_after, plain_segments, plain_end}
use Rattle.spin_plain.specs.Laws.{is_conflict, met_conflict, PlainIsRun}
use Rattle.spin_plain.proofs.Turns.{whole-in_order, IsTheOrder-in_order, arranged_is}
use Rattle.spin_plain.proofs.RisingNumbers.{Rises, EachRises, IsRising, at_rises, next_rises, start_rises}
use Rattle.spin_plain.proofs.OneLane.{IsOfOne, MetNone, all_of_lane, all_asked_of_lane}

-- ---- states in which the bindings of each event have an order

abbrev EachOrderly : List EventState → Type 0
EachOrderly events = All (λ (e : EventState). HasLawfulOrder e.bindings) events

record IsFound (d : SetupData) (s : State) : Type 0 where
  events : length s.events ≡ length d.events
  rising : IsRising s
  orderly : EachOrderly s.events

found_start : (d : SetupData) → IsFound d (start_of d)
found_start d = record {
  events = length-map d.events first_state;
  rising = start_rises d;
  orderly = All-map (λ (e : EventState). HasLawfulOrder e.bindings) first_state d.events
      (λ k e lt. ([], (IsPermutation-refl [], λ i j x l m. absurd (omega arith))));
}

bounds_there : (top : ℕ) (es : List EventDef) (ts : List EventState) → length ts ≡ length es → EachRises top ts → EachOrderly ts
    → AreBounds es ts (map (λ e. bound_of (in_order e.1.bindings) e.0.merge e.1.default) (zip es ts))
bounds_there top [] [] size rising orderly = tt
bounds_there top [] (t ∷ ts) size rising orderly = absurd (omega (arith, size))
bounds_there top (e ∷ es) [] size rising orderly = absurd (omega (arith, size))
bounds_there top (e ∷ es) (t ∷ ts) size rising orderly =
    let here = All-head (λ (x : EventState). Rises top x.bindings) t ts rising in
    let whole = whole-in_order t.bindings here.rise (All-head (λ (x : EventState). HasLawfulOrder x.bindings) t ts orderly) in
    let order = IsTheOrder-in_order t.bindings here.rise whole in
    let same = arranged_is t.bindings here.rise (numbers_of (in_order t.bindings)) order in
    let rest = bounds_there top es ts (omega (arith, size)) (All-tail (λ (x : EventState). Rises top x.bindings) t ts rising)
    (All-tail (λ (x : EventState). HasLawfulOrder x.bindings) t ts orderly) in
    ((numbers_of (in_order t.bindings), order, ap (λ xs. bound_of xs e.merge t.default) (sym same)), rest)

bounds_of : (d : SetupData) (s : State) → IsFound d s → AreBounds d.events s.events (found_at d s)
bounds_of d s found = bounds_there s.place d.events s.events found.events found.rising found.orderly

-- ---- commands

orderly_if : (o : Op) (bs : List Binding) (top : ℕ) → Rises top bs → can_stand o bs ≡ true → IsOrderly o bs
orderly_if op.Install bs top rises fit =
    (numbers_of (in_order bs), (IsTheOrder-in_order bs rises.rise (eqb-true (length (in_order bs)) (length bs) fit)).0)
orderly_if op.Remove bs top rises fit = tt
orderly_if op.Replace bs top rises fit = tt
orderly_if op.Default bs top rises fit = tt
orderly_if op.NoDefault bs top rises fit = tt

is_install : (o : Op) → (o ≡ op.Install) ⊎ (o ≡ op.Install → ⊥)
is_install op.Install = inl refl
is_install op.Remove = inr (λ same. absurd (cc (same)))
is_install op.Replace = inr (λ same. absurd (cc (same)))
is_install op.Default = inr (λ same. absurd (cc (same)))
is_install op.NoDefault = inr (λ same. absurd (cc (same)))

event_orderly : (events : List EventState) (event : ℕ) (e : EventState) → slice_get events event ≡ Some e → EachOrderly events → HasLawfulOrder e.bindings
event_orderly events event e is all =
    subst (λ (x : EventState). HasLawfulOrder x.bindings) (get_or_from_slice_get events event e e is) (all event e (slice_get_within events event e is))

module _ (d : SetupData) (s : State) (c : Command) (found : IsFound d s) where
  -- the events after a command that is accepted
  accepted_events : (e : Option EventDef) (t : Option EventState) → slice_get s.events c.event ≡ t → refusal_on d c e t ≡ None
      → IsOrderly c.op (bindings_if (slice_get (events_after d.policies (s.place + 1) c e t s.events) c.event))
      → (length (events_after d.policies (s.place + 1) c e t s.events) ≡ length d.events) × EachOrderly (events_after d.policies (s.place + 1) c e t s.events)
  accepted_events None t is none orderly = absurd (cc (none))
  accepted_events (Some e) None is none orderly = absurd (cc (none))
  accepted_events (Some e) (Some t) is none orderly = (
    length-set s.events c.event (event_after d.policies e (s.place + 1) c t) ∙ found.events,
    All-set (λ (x : EventState). HasLawfulOrder x.bindings) s.events c.event (event_after d.policies e (s.place + 1) c t) here found.orderly,
  )
    where
      here : HasLawfulOrder (event_after d.policies e (s.place + 1) c t).bindings
      here =
          elim (is_install c.op) [
            | inl install ↦
                let new = event_after d.policies e (s.place + 1) c t in
                let read = slice_get-set_same s.events c.event new (slice_get_within s.events c.event t is) in
                subst (λ (x : Option EventState). HasLawfulOrder (bindings_if x)) read
                (subst (λ o. IsOrderly o (bindings_if (slice_get (slice_set s.events c.event new) c.event))) install orderly)
            | inr other ↦ orderly_after d e t c (s.place + 1) c.op other (event_orderly s.events c.event t is found.orderly)
          ]

  accepted : refusal_of d s c ≡ None → IsOrderly c.op (bindings_at (state_after d c s) c.event) → IsFound d (state_after d c s)
  accepted none orderly =
      let events = accepted_events (slice_get d.events c.event) (slice_get s.events c.event) refl none orderly in
      record { events = events.0; rising = next_rises d s c found.rising; orderly = events.1 }

  abbrev would_be : List Binding
  would_be = bindings_at (state_after d c s) c.event

  abbrev IsDone : Option Refusal → Bool → Type 0
  IsDone o fit =
      MatchOption o (ChangesTo d s c (verdict_by o fit) (left_by d s (what.Command c (verdict_by o fit))))
      (λ r. (verdict_by o fit ≡ verdicted.Refused r) × (left_by d s (what.Command c (verdict_by o fit)) ≡ s))
      × IsFound d (left_by d s (what.Command c (verdict_by o fit)))

  by_cases : (o : Option Refusal) (fit : Bool) → refusal_of d s c ≡ o → can_stand c.op would_be ≡ fit → is_conflict (verdict_by o fit) ≡ false → IsDone o fit
  by_cases (Some r) fit is stand free = ((refl, refl), found)
  by_cases None true is stand free =
      let orderly = orderly_if c.op would_be (s.place + 1) (at_rises (s.place + 1) (state_after d c s) c.event (next_rises d s c found.rising)) stand in
      ((refl, orderly), accepted is orderly)
  by_cases None false is stand free = absurd (cc (free))

  command_done : is_conflict (verdict_on d s c) ≡ false → IsDone (refusal_of d s c) (can_stand c.op would_be)
  command_done free = by_cases (refusal_of d s c) (can_stand c.op would_be) refl refl free

-- ---- one deed after another

answers_there : (d : SetupData) (s : State) (w : Work) → IsFound d s → met_conflict (answered d s w) ≡ false
    → Answers d s (answered d s w) (left_by d s (answered d s w)) × IsFound d (left_by d s (answered d s w))
answers_there d s (work.Command c) found free = command_done d s c found free
answers_there d s (work.Deed asked) found free = (((found_at d s, bounds_of d s found, refl), refl), found)
answers_there d s (work.Packet event count) found free = (((found_at d s, bounds_of d s found, refl), refl), found)

jobs_there : (d : SetupData) (s : State) (entry : Entry) (k : ℕ) (calls : List JobCall) → IsFound d s
    → AreJobsFrom d s entry k calls (map (λ call. entry_job entry call.0 (job_reply (units_in d) (found_at d s) call.1)) (enumerate_from k calls))
jobs_there d s entry k [] found = refl
jobs_there d s entry k (call ∷ calls) found = (
  job_reply (units_in d) (found_at d s) call,
  map (λ more. entry_job entry more.0 (job_reply (units_in d) (found_at d s) more.1)) (enumerate_from (k + 1) calls),
  (found_at d s, bounds_of d s found, refl),
  refl,
  jobs_there d s entry (k + 1) calls found,
)

record AreThere (d : SetupData) (s : State) (asked : List Numbered) : Type 0 where
  legal : IsLegal d s (entries_from d s asked) (state_from d s asked)
  jobs : AreJobs d s (entries_from d s asked) (jobs_from d s asked)
  found : IsFound d (state_from d s asked)

all_there : (d : SetupData) (s : State) (asked : List Numbered) → IsFound d s → All MetNone (entries_from d s asked) → AreThere d s asked
all_there d s [] found free = record { legal = refl; jobs = refl; found = found }
all_there d s (n ∷ asked) found free =
    let then = next_state d s n in
    let one = answers_there d s n.asked found (All-head MetNone (entry_for d s n) (entries_from d then asked) free) in
    let rest = all_there d then asked one.1 (All-tail MetNone (entry_for d s n) (entries_from d then asked) free) in
    record {
      legal = (then, (one.0, refl), rest.legal);
      jobs = (
        then,
        jobs_for d then (entry_for d s n),
        jobs_from d then asked,
        (one.0, refl),
        jobs_there d then (entry_for d s n) 0 (answer_calls (answered d s n.asked)) one.1,
        rest.jobs,
        refl,
      );
      found = rest.found;
    }

-- ---- what they answer

-- it isn't a line of packets
abbrev IsAlone : Work → Type 0
IsAlone (work.Command c) = Unit {0}
IsAlone (work.Deed asked) = Unit {0}
IsAlone (work.Packet event count) = ⊥

parts_alone : (w : Work) (records : List (List ℕ)) → All (λ part. IsAlone part.1) (parts_of w records)
parts_alone (work.Command c) records = All-cons (λ (part : ℕ × Work). IsAlone part.1) (0, work.Command c) [] tt (All-nil (λ (part : ℕ × Work). IsAlone part.1))
parts_alone (work.Deed asked) records = All-cons (λ (part : ℕ × Work). IsAlone part.1) (0, work.Deed asked) [] tt (All-nil (λ (part : ℕ × Work). IsAlone part.1))
parts_alone (work.Packet event count) records =
    All-map (λ (part : ℕ × Work). IsAlone part.1) (λ (part : ℕ × List ℕ). (part.0, raise_with event part.1)) (enumerate_from 1 records) (λ k part lt. tt)

asked_alone : (lines : List Line) (records : List (List ℕ)) → All (λ n. IsAlone n.asked) (asked_in lines records)
asked_alone [] records = All-nil (λ (n : Numbered). IsAlone n.asked)
asked_alone (line ∷ lines) records =
    All-append (λ (n : Numbered). IsAlone n.asked) (asked_at line (take (records_wanted line.work) records)) (asked_in lines (drop (records_wanted line.work) records))
    (All-map (λ (n : Numbered). IsAlone n.asked) (λ (part : ℕ × Work). record { lane = line.lane; line = line.number; part = part.0; asked = part.1 })
    (parts_of line.work (take (records_wanted line.work) records)) (parts_alone line.work (take (records_wanted line.work) records)))
    (asked_alone lines (drop (records_wanted line.work) records))

answers_work : (d : SetupData) (s : State) (w : Work) → IsAlone w → asked_by (answered d s w) ≡ w
answers_work d s (work.Command c) alone = refl
answers_work d s (work.Deed asked) alone = refl
answers_work d s (work.Packet event count) alone = absurd alone

answer_all : (d : SetupData) (s : State) (asked : List Numbered) → All (λ n. IsAlone n.asked) asked → map asked_of (entries_from d s asked) ≡ asked
answer_all d s [] alone = refl
answer_all d s (n ∷ asked) alone =
    let one = answers_work d s n.asked (All-head (λ (m : Numbered). IsAlone m.asked) n asked alone) in
    let rest = answer_all d (next_state d s n) asked (All-tail (λ (m : Numbered). IsAlone m.asked) n asked alone) in
    λ i. record { lane = n.lane; line = n.line; part = n.part; asked = one i } ∷ rest i

on_one_lane : (d : SetupData) (s : State) (asked : List Numbered) → All (λ n. n.lane < 1) asked → All (λ entry. entry.lane < 1) (entries_from d s asked)
on_one_lane d s [] below = All-nil (λ (entry : Entry). entry.lane < 1)
on_one_lane d s (n ∷ asked) below =
    All-cons (λ (entry : Entry). entry.lane < 1) (entry_for d s n) (entries_from d (next_state d s n) asked)
    (All-head (λ (m : Numbered). m.lane < 1) n asked below) (on_one_lane d (next_state d s n) asked (All-tail (λ (m : Numbered). m.lane < 1) n asked below))

-- ---- the order of the entries

above : (a b : ℕ) → b < a → nat_cmp a b ≡ ordering.Greater
above a b less =
    let one : nat_lt a b ≡ false = grind (arith, nat_tests) in
    let two : (a == b) ≡ false = grind (arith, nat_tests) in
    ap (λ t. cond t ordering.Less (cond (a == b) ordering.Equal ordering.Greater)) one ∙ ap (λ t. cond t ordering.Equal ordering.Greater) two

level : (a b : ℕ) → a ≡ b → nat_cmp a b ≡ ordering.Equal
level a b same =
    let one : nat_lt a b ≡ false = grind (arith, nat_tests) in
    let two : (a == b) ≡ true = grind (arith, nat_tests) in
    ap (λ t. cond t ordering.Less (cond (a == b) ordering.Equal ordering.Greater)) one ∙ ap (λ t. cond t ordering.Equal ordering.Greater) two

-- at a later place it isn't earlier
later_place : (a b : ℕ × Bool × ℕ × ℕ × ℕ) → b.0 < a.0 → is_lt (moment_cmp a b) ≡ false
later_place a b less =
    ap (λ o. is_lt (ordering_then (ordering_then (ordering_then (ordering_then o (bool_cmp a.1 b.1)) (nat_cmp a.2 b.2)) (nat_cmp a.3 b.3)) (nat_cmp a.4 b.4)))
    (above a.0 b.0 less)

-- nor is it at the same place what stands later in the text of one lane, where it is no command that was accepted
later_line : (p : ℕ) (y : Bool) (l k i j g h : ℕ) → l ≡ k → (j < i) ⊎ ((j ≡ i) × (h < g)) → is_lt (moment_cmp (p, true, l, i, g) (p, y, k, j, h)) ≡ false
later_line p false l k i j g h lane later =
    ap (λ o. is_lt (ordering_then (ordering_then (ordering_then (ordering_then o (bool_cmp true false)) (nat_cmp l k)) (nat_cmp i j)) (nat_cmp g h))) (level p p refl)
later_line p true l k i j g h lane (inl less) =
    let place = level p p refl in
    let lanes = level l k lane in
    let lines = above i j less in
    λ t. is_lt (ordering_then (ordering_then (ordering_then (ordering_then (place t) (bool_cmp true true)) (lanes t)) (lines t)) (nat_cmp g h))
later_line p true l k i j g h lane (inr same) =
    let place = level p p refl in
    let lanes = level l k lane in
    let lines = level i j (sym same.0) in
    let parts = above g h same.1 in
    λ t. is_lt (ordering_then (ordering_then (ordering_then (ordering_then (place t) (bool_cmp true true)) (lanes t)) (lines t)) (parts t))

not_earlier : (d : SetupData) (s : State) (n m : Numbered) → n.lane < 1 → m.lane < 1 → IsLater n m
    → is_lt (moment_cmp (moment (entry_for d (next_state d s n) m)) (moment (entry_for d s n))) ≡ false
not_earlier d s n m first second later = go (answered d (next_state d s n) m.asked)
  where
    lane : m.lane ≡ n.lane
    lane = omega (arith, first, second)

    in_text : (n.line < m.line) ⊎ ((n.line ≡ m.line) × (n.part < m.part))
    in_text = later

    go : (w : What) → is_lt (moment_cmp ((left_by d (next_state d s n) w).place, not (is_accepted w), m.lane, m.line, m.part) (moment (entry_for d s n))) ≡ false
    go (what.Command c verdicted.Accepted) =
        later_place ((next_state d s n).place + 1, false, m.lane, m.line, m.part) (moment (entry_for d s n)) (omega arith)
    go (what.Command c (verdicted.Refused r)) = later_line (next_state d s n).place (not (is_accepted (answered d s n.asked))) m.lane n.lane m.line n.line m.part n.part lane in_text
    go (what.Deed asked reply) = later_line (next_state d s n).place (not (is_accepted (answered d s n.asked))) m.lane n.lane m.line n.line m.part n.part lane in_text

one_more : (a b : Entry) (entries : List Entry) → is_lt (moment_cmp (moment b) (moment a)) ≡ false → IsInOrder (b ∷ entries) → IsInOrder (a ∷ (b ∷ entries))
one_more a b entries first rest zero d low lt = first
one_more a b entries first rest (suc k) d low lt =
    let at : suc (k + 1) ≡ suc k + 1 = omega arith in
    subst (λ i. is_lt (moment_cmp (moment (get_or (a ∷ (b ∷ entries)) i d)) (moment (get_or (b ∷ entries) k d))) ≡ false) at (rest k d (omega arith) (omega (arith, lt)))

in_text_order : (d : SetupData) (s : State) (asked : List Numbered) → All (λ n. n.lane < 1) asked → AllPairs IsLater asked → IsInOrder (entries_from d s asked)
in_text_order d s [] below rise = λ k e low lt. absurd (omega (arith, lt))
in_text_order d s (n ∷ []) below rise = λ k e low lt. absurd (omega (arith, lt))
in_text_order d s (n ∷ (m ∷ asked)) below rise =
    let then = next_state d s n in
    let others = All-tail (λ (x : Numbered). x.lane < 1) n (m ∷ asked) below in
    one_more (entry_for d s n) (entry_for d then m) (entries_from d (next_state d then m) asked)
    (not_earlier d s n m (All-head (λ (x : Numbered). x.lane < 1) n (m ∷ asked) below) (All-head (λ (x : Numbered). x.lane < 1) m asked others)
    (All-head (IsLater n) m asked (AllPairs-head IsLater n (m ∷ asked) rise)))
    (in_text_order d then (m ∷ asked) others (AllPairs-tail IsLater n (m ∷ asked) rise))

-- ---- one segment after another

-- the number of each line is less than those of all later ones
abbrev LinesRise : List Line → Type 0
LinesRise lines = AllPairs (λ line later. line.number < later.number) lines

rise_front : (lines later : List Line) → LinesRise (lines ++ later) → LinesRise lines
rise_front lines later rise =
    subst LinesRise (take-append_seam lines later) (AllPairs-take (λ (line : Line) (next : Line). line.number < next.number) (length lines) (lines ++ later) rise)

rise_behind : (lines later : List Line) → LinesRise (lines ++ later) → LinesRise later
rise_behind [] later rise = rise
rise_behind (line ∷ lines) later rise =
    rise_behind lines later (AllPairs-tail (λ (x : Line) (next : Line). x.number < next.number) line (lines ++ later) rise)

module _ (script : ScriptData) (lanes : script.lanes ≡ 1) where
  module _ (segment : Segment) (before : RunPoint) (lines : All IsOfOne segment.lines) (rise : LinesRise segment.lines) (from : IsFound script.setup before.state)
      (free : All MetNone (entries_from script.setup before.state (asked_in segment.lines before.left))) where
    abbrev asked : List Numbered
    asked = asked_in segment.lines before.left

    abbrev entries : List Entry
    entries = entries_from script.setup before.state asked

    there : AreThere script.setup before.state asked
    there = all_there script.setup before.state asked from free

    below : All (λ (n : Numbered). n.lane < 1) asked
    below = asked_all (λ n. n.lane < 1) segment.lines before.left
        (All-weaker IsOfOne (λ line. (part : ℕ × Work) → line.lane < 1) (λ line here part. here) segment.lines lines)

    of_one : All (λ (entry : Entry). entry.lane < 1) entries
    of_one = on_one_lane script.setup before.state asked below

    answer_once : (k : ℕ) → k < script.lanes → map asked_of (of_lane k entries) ≡ asked_of_lane k asked
    answer_once k lt =
        let first : 0 ≡ k = omega (arith, lanes, lt) in
        let all = ap (map asked_of) (all_of_lane entries of_one) ∙ answer_all script.setup before.state asked (asked_alone segment.lines before.left)
        ∙ sym (all_asked_of_lane asked below) in
        subst (λ lane. map asked_of (of_lane lane entries) ≡ asked_of_lane lane asked) first all

    woven : IsWoven script.setup script.lanes asked before.state (state_from script.setup before.state asked) entries (jobs_from script.setup before.state asked)
    woven = record {
      legal = there.legal;
      once = λ k lt. filter_asked k entries ∙ answer_once k lt;
      lanes_are = subst (λ most. All (λ (entry : Entry). entry.lane < most) entries) (sym lanes) of_one;
      order = in_text_order script.setup before.state asked below (asked_rises segment.lines before.left rise);
      jobs_are = there.jobs;
    }

    segment_runs : IsSegmentRun script.setup script.lanes script.endpoints segment before (plain_segment script segment before) (plain_after script segment before)
    segment_runs = record { retired = refl; start = refl; woven = woven; left = refl; lost = refl; ends = refl }

  segments_run : (segments : List Segment) (before : RunPoint) → All IsOfOne (lines_in segments) → LinesRise (lines_in segments) → IsFound script.setup before.state
      → All MetNone (flat_map (λ s. s.entries) (plain_segments script segments before))
      → AreRun script segments before (plain_segments script segments before) (plain_end script segments before)
  segments_run [] before lines rise from free = (refl, refl)
  segments_run (segment ∷ segments) before lines rise from free =
      let later = lines_in segments in
      let first_lines : All IsOfOne segment.lines =
      subst (All IsOfOne) (take-append_seam segment.lines later) (All-take IsOfOne (length segment.lines) (segment.lines ++ later) lines) in
      let other_lines : All IsOfOne later =
      subst (All IsOfOne) (drop-append_seam segment.lines later) (All-drop IsOfOne (length segment.lines) (segment.lines ++ later) lines) in
      let first = entries_from script.setup before.state (asked_in segment.lines before.left) in
      let others = flat_map (λ (s : SegmentSeen). s.entries) (plain_segments script segments (plain_after script segment before)) in
      let first_free : All MetNone first =
      subst (All MetNone) (take-append_seam first others) (All-take MetNone (length first) (first ++ others) free) in
      let other_free : All MetNone others =
      subst (All MetNone) (drop-append_seam first others) (All-drop MetNone (length first) (first ++ others) free) in
      let first_rise = rise_front segment.lines later rise in
      let one = segment_runs segment before first_lines first_rise from first_free in
      let left = there segment before first_lines first_rise from first_free in (
        plain_segment script segment before,
        plain_segments script segments (plain_after script segment before),
        plain_after script segment before,
        refl,
        one,
        segments_run segments (plain_after script segment before) other_lines (rise_behind segment.lines later rise) left.found other_free,
      )

pub plain_runs : PlainIsRun
plain_runs n text script capture ends is lanes free =
    let orderly = script_orderly n text script is in
    let lines = All-weaker (IsOnLane script.lanes) IsOfOne (λ line on. omega (arith, lanes, on.below)) (lines_in script.segments) orderly.lanes.each in
    record {
      segments = segments_run script lanes script.segments (start_with script (frames_of capture) ends) lines orderly.numbers (found_start script.setup) free;
      end = refl;
      capture_is = refl;
    }
