-- Two histories of the generated script, segment after segment.
use Rattle.std.proofs.Common.{◌≡◌, ◌∙◌, ◌-◌, ℕ, List, [], ◌∷◌, ◌++◌, map, take, drop, refl, sym, ap, subst, inl, inr, arith}
use Rattle.std.specs.Prelude.{Ok, All}
use Rattle.std.specs.Option.{option_map}
use Rattle.std.specs.List.{flat_map, enumerate_from, AllByRecursion}
use Rattle.std.proofs.lemmas.Option.{slice_get-map}
use Rattle.std.proofs.lemmas.List.Elements.{All-nil, All-cons, All-append, All-map}
use Rattle.spin_word.specs.declared.work.Work.{Work}
use Rattle.spin_objects.proofs.NumberedItems.{numbered-map}
use Rattle.spin_table.specs.Setups.{SetupData}
use Rattle.spin_table.specs.States.{State, EventState, start_of}
use Rattle.spin_grammar.specs.Bare.{bare_expr, bare_step}
use Rattle.spin_script.specs.declared.script.Line.{Line}
use Rattle.spin_script.specs.declared.script.Segment.{Segment}
use Rattle.spin_script.specs.States.{ScriptData}
use Rattle.spin_script.specs.Laws.{bare_event, bare_handler, bare_guard, bare_setup}
use Rattle.spin_script.proofs.OutcomeUniqueness.{one_outcome}
use Rattle.spin_report.specs.declared.entry.Entry.{Entry}
use Rattle.spin_report.specs.Asked.{Numbered}
use Rattle.spin_report.specs.Segments.{records_wanted, raise_with, parts_of, asked_at, asked_in, wanted_by}
use Rattle.spin_report.specs.Histories.{SegmentSeen}
use Rattle.spin_report.specs.Runs.{RunPoint, AreRun, frames_of}
use Rattle.spin_report.proofs.LaneAnswers.{filter_asked}
use Rattle.spin_gen.specs.Texts.{script_of}
use Rattle.spin_run.specs.Summaries.{counts_in}
use Rattle.spin_gen_law.specs.Laws.{CountsAreOne}
use Rattle.spin_gen_law.proofs.WordSetups.{HasWords}
use Rattle.spin_gen_law.proofs.EntryCounts.{IsOwn}
use Rattle.spin_gen_law.proofs.CountSums.{HaveSameCounts, counts_joined}
use Rattle.spin_gen_law.proofs.LaneAnswers.{IsAnswered}
use Rattle.spin_gen_law.proofs.LaneSegments.{AreAlike, AsksOwn, own_segment}
use Rattle.spin_gen_law.proofs.CommandSegments.{IsLateCommand, first_segment}
use Rattle.spin_gen_law.proofs.RaiseSegments.{IsLateRaise, last_segment}
use Rattle.spin_gen_law.proofs.LaneLines.{OnLanes, IsPacket}
use Rattle.spin_gen_law.proofs.GeneratedScript.{IsFirstWork, generated}
use Rattle.spin_report.proofs.BareEntries.{bare_start, bare_legal}

-- ---- what segments ask

-- where each line asks for what Q holds of, so does the segment
all_asked : (P : ℕ → Work → Type 0) (Q : Numbered → Type 0) → ((line : Line) (records : List (List ℕ)) → P line.lane line.work → All Q (asked_at line records))
    → (lines : List Line) (records : List (List ℕ)) → AllByRecursion (λ line. P line.lane line.work) lines → All Q (asked_in lines records)
all_asked P Q each [] records all = All-nil Q
all_asked P Q each (line ∷ lines) records all =
    All-append Q (asked_at line (take (records_wanted line.work) records)) (asked_in lines (drop (records_wanted line.work) records))
    (each line (take (records_wanted line.work) records) all.0)
    (all_asked P Q each lines (drop (records_wanted line.work) records) all.1)

-- a line that isn't of packets asks for its work
asks_one : (line : Line) (records : List (List ℕ)) (w : Work) → line.work ≡ w → parts_of w records ≡ (0, w) ∷ []
    → asked_at line records ≡ record { lane = line.lane; line = line.number; part = 0; asked = w } ∷ []
asks_one line records w is one =
    (λ i. map (λ part. record { lane = line.lane; line = line.number; part = part.0; asked = part.1 }) (parts_of (is i) records))
    ∙ ap (map (λ part. record { lane = line.lane; line = line.number; part = part.0; asked = part.1 })) one

all_of_one : (Q : Numbered → Type 0) (ns : List Numbered) (n : Numbered) → ns ≡ n ∷ [] → Q n → All Q ns
all_of_one Q ns n is here = subst (All Q) (sym is) (All-cons Q n [] here (All-nil Q))

own_asked : (line : Line) (records : List (List ℕ)) → IsOwn line.lane line.work → All AsksOwn (asked_at line records)
own_asked line records (among, inl install) =
    all_of_one AsksOwn (asked_at line records) _ (asks_one line records _ install.is refl) (
      among,
      inl (record {
        handler = install.handler;
        guard = install.guard;
        where_to = install.where_to;
        first = install.first;
        last = install.last;
        greatest = install.greatest;
        is = refl;
      }),
    )
own_asked line records (among, inr raise) =
    all_of_one AsksOwn (asked_at line records) _ (asks_one line records _ raise.is refl) (among, inr (record { value = raise.value; is = refl }))

first_asked : (line : Line) (records : List (List ℕ)) → IsFirstWork line.lane line.work → All IsLateCommand (asked_at line records)
first_asked line records first =
    all_of_one IsLateCommand (asked_at line records) _ (asks_one line records _ first.is refl)
    (record { lane = first.lane_is; command = first.command; late = first.late; is = refl })

packet_asked : (line : Line) (records : List (List ℕ)) → IsPacket line.lane line.work → All IsLateRaise (asked_at line records)
packet_asked line records is =
    let make = λ (part : ℕ × Work). let n : Numbered = record { lane = line.lane; line = line.number; part = part.0; asked = part.1 } in n in
    let raise = λ (part : ℕ × List ℕ). let x : ℕ × Work = (part.0, raise_with 8 part.1) in x in
    let same : asked_at line records ≡ map make (map raise (enumerate_from 1 records)) = ap (λ (w : Work). map make (parts_of w records)) is in
    subst (All IsLateRaise) (sym same)
    (All-map IsLateRaise make (map raise (enumerate_from 1 records))
    (All-map (λ part. IsLateRaise (make part)) raise (enumerate_from 1 records)
    (λ k d inside. record { event = 8; args = _; late = omega arith; is = refl })))

-- ---- answers of segments

-- These are the entries of answers of the segments, one after another, where these records are left.
abbrev AreAnswered : SetupData → ℕ → List Segment → State → List (List ℕ) → List SegmentSeen → Type 0
AreAnswered d lanes [] s left seen = seen ≡ []
AreAnswered d lanes (segment ∷ segments) s left seen =
    (first : SegmentSeen)
    × (others : List SegmentSeen)
    × (next : State)
    × (seen ≡ first ∷ others)
    × IsAnswered d lanes (asked_in segment.lines left) s next first.entries
    × AreAnswered d lanes segments next (drop (wanted_by segment.lines) left) others

-- a run of segments has such answers, without where the setup's boxes lie
run_answered : (script : ScriptData) (segments : List Segment) (before after : RunPoint) (seen : List SegmentSeen) → AreRun script segments before seen after
    → AreAnswered (bare_setup script.setup) script.lanes segments before.state before.left seen
run_answered script [] before after seen run = run.0
run_answered script (segment ∷ segments) before after seen (first, others, next, is, run, rest) = (
  first,
  others,
  next.state,
  is,
  record {
    legal = bare_legal script.setup first.entries before.state next.state run.woven.legal;
    once = λ k lt. sym (filter_asked k first.entries) ∙ run.woven.once k lt;
    lanes_are = run.woven.lanes_are;
  },
  subst (λ (left : List (List ℕ)). AreAnswered (bare_setup script.setup) script.lanes segments next.state left others) run.left (run_answered script segments next after others rest),
)

abbrev entries_in : List SegmentSeen → List Entry
entries_in seen = flat_map (λ s. s.entries) seen

same_parts : (seen seen' : List SegmentSeen) (first first' : SegmentSeen) (others others' : List SegmentSeen) → seen ≡ first ∷ others → seen' ≡ first' ∷ others'
    → HaveSameCounts first.entries first'.entries → HaveSameCounts (entries_in others) (entries_in others') → HaveSameCounts (entries_in seen) (entries_in seen')
same_parts seen seen' first first' others others' is is' one rest =
    subst (λ (xs : List SegmentSeen). HaveSameCounts (entries_in xs) (entries_in seen')) (sym is)
    (subst (λ (ys : List SegmentSeen). HaveSameCounts (entries_in (first ∷ others)) (entries_in ys)) (sym is')
    (counts_joined first.entries (entries_in others) first'.entries (entries_in others') one rest))

module _ (d : SetupData) (fit : HasWords d) (lanes : ℕ) where
  last_counts : (last : Segment) (others : List EventState) → OnLanes IsPacket last → (s s' : State) (left : List (List ℕ)) (seen seen' : List SegmentSeen) → AreAlike d others s s'
      → AreAnswered d lanes (last ∷ []) s left seen → AreAnswered d lanes (last ∷ []) s' left seen' → HaveSameCounts (entries_in seen) (entries_in seen')
  last_counts last others packets s s' left seen seen' alike (first, rest, next, is, answered, none) (first', rest', next', is', answered', none') =
      let raises = all_asked IsPacket IsLateRaise packet_asked last.lines left packets in
      let same = last_segment d lanes (asked_in last.lines left) s next s' next' first.entries first'.entries answered answered' raises (alike.calm.others_are ∙ sym alike.calm'.others_are) in
      same_parts seen seen' first first' rest rest' is is' same (λ i. counts_in (entries_in ((none ∙ sym none') i)))

  middle_counts : (middle : List Segment) (last : Segment) (others : List EventState) → AllByRecursion (OnLanes IsOwn) middle → OnLanes IsPacket last
      → (s s' : State) (left : List (List ℕ)) (seen seen' : List SegmentSeen) → AreAlike d others s s'
      → AreAnswered d lanes (middle ++ last ∷ []) s left seen → AreAnswered d lanes (middle ++ last ∷ []) s' left seen' → HaveSameCounts (entries_in seen) (entries_in seen')
  middle_counts [] last others own packets s s' left seen seen' alike answered answered' = last_counts last others packets s s' left seen seen' alike answered answered'
  middle_counts (segment ∷ middle) last others own packets s s' left seen seen' alike (first, rest, next, is, answered, more) (first', rest', next', is', answered', more') =
      let asks = all_asked IsOwn AsksOwn own_asked segment.lines left own.0 in
      let one = own_segment d others fit lanes (asked_in segment.lines left) s next s' next' first.entries first'.entries answered answered' asks alike in
      let behind = middle_counts middle last others own.1 packets next next' (drop (wanted_by segment.lines) left) rest rest' one.0 more more' in
      same_parts seen seen' first first' rest rest' is is' one.1 behind

  all_counts : (begin : Segment) (middle : List Segment) (last : Segment) → OnLanes IsFirstWork begin → AllByRecursion (OnLanes IsOwn) middle → OnLanes IsPacket last
      → (left : List (List ℕ)) (seen seen' : List SegmentSeen)
      → AreAnswered d lanes (begin ∷ (middle ++ last ∷ [])) (start_of d) left seen → AreAnswered d lanes (begin ∷ (middle ++ last ∷ [])) (start_of d) left seen'
      → HaveSameCounts (entries_in seen) (entries_in seen')
  all_counts begin middle last commands own packets left seen seen' (first, rest, next, is, answered, more) (first', rest', next', is', answered', more') =
      let asks = all_asked IsFirstWork IsLateCommand first_asked begin.lines left commands in
      let one = first_segment d fit lanes (asked_in begin.lines left) next next' first.entries first'.entries answered answered' asks in
      let behind = middle_counts middle last (drop 8 next.events) own packets next next' (drop (wanted_by begin.lines) left) rest rest' one.0 more more' in
      same_parts seen seen' first first' rest rest' is is' one.1 behind

-- ---- without where boxes lie, a setup has its events of words, too

bare_words : (d : SetupData) → HasWords d → HasWords (bare_setup d)
bare_words d fit = record {
  modules = fit.modules;
  events = λ event among.
      let e = fit.events event among in
      record {
        def = bare_event e.def;
        there = slice_get-map bare_event d.events event ∙ ap (option_map bare_event) e.there;
        owner = e.owner;
        sig = e.sig;
        default = e.default;
      };
  handlers = λ handler first last.
      let h = fit.handlers handler first last in
      record {
        unit = bare_handler h.unit;
        there = numbered-map bare_handler d.handlers handler ∙ ap (option_map bare_handler) h.there;
        sig = h.sig;
        result = bare_expr h.result;
        steps = ap (map bare_step) h.steps;
      };
  guards = λ guard first last.
      let g = fit.guards guard first last in
      record {
        unit = bare_guard g.unit;
        there = slice_get-map bare_guard d.guards (guard - 1) ∙ ap (option_map bare_guard) g.there;
        sig = g.sig;
      };
}

-- ---- the law

started : (script : ScriptData) (segments : List Segment) (left : List (List ℕ)) (seen : List SegmentSeen)
    → AreAnswered (bare_setup script.setup) script.lanes segments (start_of script.setup) left seen
    → AreAnswered (bare_setup script.setup) script.lanes segments (start_of (bare_setup script.setup)) left seen
started script segments left seen h = subst (λ (s : State). AreAnswered (bare_setup script.setup) script.lanes segments s left seen) (bare_start script.setup) h

pub counts_same : CountsAreOne
counts_same n number script other capture ends ends' h k last last' read read' run run' =
    let made = generated n number script read in
    let same = one_outcome n (script_of number) (Ok script) (Ok other) read read' in
    let left = frames_of capture in
    let first = started script script.segments left h.segments (run_answered script script.segments _ last h.segments run.segments) in
    let second = started other other.segments left k.segments (run_answered other other.segments _ last' k.segments run'.segments) in
    let AreFor = λ (x : ScriptData). AreAnswered x.setup x.lanes x.segments (start_of x.setup) left k.segments in
    let moved : AreAnswered (bare_setup script.setup) script.lanes script.segments (start_of (bare_setup script.setup)) left k.segments = subst AreFor (sym same) second in
    let d = bare_setup script.setup in
    all_counts d (bare_words script.setup made.fit) script.lanes made.first made.middle made.last made.first_lines made.middle_lines made.last_lines left h.segments k.segments
    (subst (λ (segments : List Segment). AreAnswered d script.lanes segments (start_of d) left h.segments) made.segments first)
    (subst (λ (segments : List Segment). AreAnswered d script.lanes segments (start_of d) left k.segments) made.segments moved)
