-- Two answers of one segment of raises of the events from 8 on count the same, where these events have the same states.
use Rattle.std.proofs.Common.{◌≡◌, ◌∙◌, ◌≤◌, ℕ, zero, suc, List, [], ◌∷◌, map, drop, refl, sym, ap, subst}
use Rattle.std.specs.Prelude.{◌==◌, All}
use Rattle.std.specs.List.{AllByRecursion}
use Rattle.std.proofs.lemmas.List.Elements.{All-filter, recursion_from_All, All-from_recursion}
use Rattle.spin_values.specs.declared.values.Value.{Value}
use Rattle.spin_word.specs.declared.work.Work.TheVariants as work
use Rattle.spin_word.specs.declared.work.Deed.{Deed}
use Rattle.spin_word.specs.declared.work.Deed.TheVariants as deed
use Rattle.spin_table.specs.declared.event.EventDef.{EventDef}
use Rattle.spin_table.specs.Setups.{SetupData}
use Rattle.spin_table.specs.States.{State, EventState}
use Rattle.spin_raise.specs.declared.bound.Runner.TheVariants as runner
use Rattle.spin_raise.specs.Firing.{Bound}
use Rattle.spin_proto.specs.Whole.{raised, reply_of}
use Rattle.spin_proto.specs.Replies.{reply_if_fit, types_in, units_in, AreBounds, IsDeedReply}
use Rattle.spin_proto.specs.declared.reply.Reply.{Reply}
use Rattle.spin_proto.specs.declared.reply.TheConstants.{MAX_RUNS}
use Rattle.spin_proto.proofs.BoundEvents.{bounds_unique}
use Rattle.spin_proto.proofs.RaiseTurns.{raised_later}
use Rattle.spin_report.specs.declared.entry.What.{What}
use Rattle.spin_report.specs.declared.entry.What.TheVariants as what
use Rattle.spin_report.specs.declared.entry.Entry.{Entry}
use Rattle.spin_report.specs.Asked.{Numbered, asked_by, asked_of}
use Rattle.spin_report.specs.Legal.{Answers, IsLegal}
use Rattle.spin_report.specs.Segments.{of_lane}
use Rattle.spin_gen_law.proofs.EntryCounts.{tally_of}
use Rattle.spin_gen_law.proofs.LaneCounts.{work_by, tally_in}
use Rattle.spin_gen_law.proofs.CountSums.{HaveSameCounts, counts_by_lanes, counts_of_tallies}
use Rattle.spin_gen_law.proofs.LaneAnswers.{IsAnswered, woven_all, same_works}

-- a raise of one of the events from 8 on is asked
pub record IsLateRaise (n : Numbered) : Type 0 where
  pub event : ℕ
  pub args : List Value
  pub late : 8 ≤ event
  pub is : n.asked ≡ work.Deed (deed.Raise event args)

-- ---- one reply

later_bounds : (m : ℕ) (es : List EventDef) (ts : List EventState) (bs : List Bound) → AreBounds es ts bs → AreBounds (drop m es) (drop m ts) (drop m bs)
later_bounds zero es ts bs h = h
later_bounds (suc m) [] [] [] h = h
later_bounds (suc m) [] [] (b ∷ bs) h = absurd h
later_bounds (suc m) [] (t ∷ ts) bs h = absurd h
later_bounds (suc m) (e ∷ es) [] bs h = absurd h
later_bounds (suc m) (e ∷ es) (t ∷ ts) [] h = absurd h
later_bounds (suc m) (e ∷ es) (t ∷ ts) (b ∷ bs) h = later_bounds m es ts bs h.1

-- where the later events are the same, a raise of one of them has one reply
one_reply : (d : SetupData) (s s' : State) (event : ℕ) (args : List Value) (r r' : Reply) → 8 ≤ event → drop 8 s.events ≡ drop 8 s'.events
    → IsDeedReply d s (deed.Raise event args) r → IsDeedReply d s' (deed.Raise event args) r' → r ≡ r'
one_reply d s s' event args r r' late same (bs, are, is) (cs, are', is') =
    let left = later_bounds 8 d.events s.events bs are in
    let right = subst (λ (ts : List EventState). AreBounds (drop 8 d.events) ts (drop 8 cs)) (sym same) (later_bounds 8 d.events s'.events cs are') in
    let one : drop 8 bs ≡ drop 8 cs = bounds_unique (drop 8 d.events) (drop 8 s.events) (drop 8 bs) (drop 8 cs) left right in
    let first = raised_later runner.Raiser (units_in d) bs 0 8 event args late in
    let second = raised_later runner.Raiser (units_in d) cs 0 8 event args late in
    let raise : raised runner.Raiser (units_in d) bs 0 event args ≡ raised runner.Raiser (units_in d) cs 0 event args =
    sym first ∙ ap (λ (xs : List Bound). raised runner.Raiser (units_in d) xs 8 event args) one ∙ second in
    is ∙ ap (λ x. reply_if_fit (types_in d) event args (reply_of MAX_RUNS x)) raise ∙ sym is'

-- ---- all entries

-- the entry is a deed that has its reply at this state
pub record IsRaisedAt (d : SetupData) (s : State) (w : What) : Type 0 where
  pub event : ℕ
  pub args : List Value
  pub late : 8 ≤ event
  pub reply : Reply
  pub is : w ≡ what.Deed (deed.Raise event args) reply
  pub replied : IsDeedReply d s (deed.Raise event args) reply

raised_at_state : (d : SetupData) (s next : State) (w : What) (event : ℕ) (args : List Value) → 8 ≤ event → asked_by w ≡ work.Deed (deed.Raise event args) → Answers d s w next
    → IsRaisedAt d s w × (next ≡ s)
raised_at_state d s next (what.Command c v) event args late asked answer = absurd (cc)
raised_at_state d s next (what.Deed done reply) event args late asked answer =
    let same : done ≡ deed.Raise event args = cc in (
      record {
        event = event;
        args = args;
        late = late;
        reply = reply;
        is = ap (λ (x : Deed). what.Deed x reply) same;
        replied = subst (λ (x : Deed). IsDeedReply d s x reply) same answer.0;
      },
      answer.1,
    )

-- raises leave the state as it is
raised_all : (d : SetupData) (xs : List Entry) (s t : State) → AllByRecursion (λ entry. IsLateRaise (asked_of entry)) xs → IsLegal d s xs t → AllByRecursion (λ entry. IsRaisedAt d s entry.what) xs
raised_all d [] s t all legal = tt
raised_all d (x ∷ xs) s t all (next, (answer, place), legal) =
    let here = raised_at_state d s next x.what all.0.event all.0.args all.0.late all.0.is answer in
    (here.0, raised_all d xs s t all.1 (subst (λ (z : State). IsLegal d z xs t) here.1 legal))

twins : (d : SetupData) (s s' : State) (w w' : What) → drop 8 s.events ≡ drop 8 s'.events → asked_by w ≡ asked_by w' → IsRaisedAt d s w → IsRaisedAt d s' w' → tally_of w ≡ tally_of w'
twins d s s' w w' same asked h g =
    let deeds : work.Deed (deed.Raise h.event h.args) ≡ work.Deed (deed.Raise g.event g.args) = sym (ap asked_by h.is) ∙ asked ∙ ap asked_by g.is in
    let events : h.event ≡ g.event = cc in
    let args : h.args ≡ g.args = cc in
    let replied : IsDeedReply d s (deed.Raise g.event g.args) h.reply =
    subst (λ (n : ℕ). IsDeedReply d s (deed.Raise n g.args) h.reply) events (subst (λ (xs : List Value). IsDeedReply d s (deed.Raise h.event xs) h.reply) args h.replied) in
    let replies = one_reply d s s' g.event g.args h.reply g.reply g.late same replied g.replied in
    ap tally_of h.is ∙ (λ i. tally_of (what.Deed (deed.Raise (events i) (args i)) (replies i))) ∙ sym (ap tally_of g.is)

all_twins : (d : SetupData) (s s' : State) (xs ys : List Entry) → drop 8 s.events ≡ drop 8 s'.events → map work_by xs ≡ map work_by ys
    → AllByRecursion (λ entry. IsRaisedAt d s entry.what) xs → AllByRecursion (λ entry. IsRaisedAt d s' entry.what) ys → map tally_in xs ≡ map tally_in ys
all_twins d s s' [] [] same works h g = refl
all_twins d s s' [] (y ∷ ys) same works h g = absurd (cc)
all_twins d s s' (x ∷ xs) [] same works h g = absurd (cc)
all_twins d s s' (x ∷ xs) (y ∷ ys) same works h g =
    let first : work_by x ≡ work_by y = cc in
    let others : map work_by xs ≡ map work_by ys = cc in
    let one = twins d s s' x.what y.what same first h.0 g.0 in
    let rest = all_twins d s s' xs ys same others h.1 g.1 in
    λ i. one i ∷ rest i

module _ (d : SetupData) (lanes : ℕ) (asked : List Numbered) (s t s' t' : State) (xs ys : List Entry)
    (woven : IsAnswered d lanes asked s t xs) (woven' : IsAnswered d lanes asked s' t' ys) (raises : All IsLateRaise asked) (same : drop 8 s.events ≡ drop 8 s'.events) where
  of_each : (x : State) (es : List Entry) (k : ℕ) → AllByRecursion (λ entry. IsRaisedAt d x entry.what) es → AllByRecursion (λ entry. IsRaisedAt d x entry.what) (of_lane k es)
  of_each x es k all =
      let P = λ (entry : Entry). IsRaisedAt d x entry.what in
      recursion_from_All P (of_lane k es) (All-filter (λ (entry : Entry). entry.lane == k) P es (All-from_recursion P es all))

  pub last_segment : HaveSameCounts xs ys
  last_segment =
      let all = raised_all d xs s t (woven_all d lanes asked s t xs woven IsLateRaise raises) woven.legal in
      let all' = raised_all d ys s' t' (woven_all d lanes asked s' t' ys woven' IsLateRaise raises) woven'.legal in
      let works = same_works d lanes asked s t s' t' xs ys woven woven' in
      counts_by_lanes lanes xs ys woven.lanes_are woven'.lanes_are
      (λ k among. counts_of_tallies (of_lane k xs) (of_lane k ys) (all_twins d s s' (of_lane k xs) (of_lane k ys) same (works k) (of_each s xs k all) (of_each s' ys k all')))
