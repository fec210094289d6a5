-- Segments that are run one after another, and the ends of a run.
use Rattle.std.proofs.Common.{◌≡◌, ◌≢◌, ◌<◌, ◌≤◌, ◌+◌, ◌-◌, ℕ, List, [], ◌∷◌, ◌++◌, length, take, drop, Option, Some, None}
use Rattle.std.proofs.Common.{Result, Ok, Err, refl, sym, ap, subst, ◌∙◌, inl, inr, ◌⊎◌, arith, append_assoc, get_or, IfSome}
use Rattle.std.specs.Prelude.{slice_get, sum_by}
use Rattle.std.specs.List.{flat_map, enumerate_from}
use Rattle.std.specs.Option.{option_map_or}
use Rattle.std.specs.Io.KnownBytes.{Appends}
use Rattle.std.proofs.lemmas.List.{append-nil, drop-drop, length-drop, length-take-le, take_more}
use Rattle.std.proofs.lemmas.Option.{slice_get_within, get_or_from_slice_get}
use Rattle.std.proofs.lemmas.List.Sums.{sum_by_push}
use Rattle.spin_outside.specs.Seen.{SinkSeen}
use Rattle.spin_outside.specs.Sources.{SourceSeen}
use Rattle.spin_pcap.specs.declared.fault.PcapFault.{PcapFault}
use Rattle.spin_pcap.specs.declared.next.Next.{Next}
use Rattle.spin_pcap.specs.Passing.{ReaderState, IsFresh}
use Rattle.spin_endpoint.specs.Named.{NamedEnd}
use Rattle.spin_endpoint.specs.Sends.{StopsAt, all_retired}
use Rattle.spin_text.specs.Words.{ended, text_of}
use Rattle.spin_script.specs.declared.script.Segment.{Segment}
use Rattle.spin_script.specs.States.{ScriptData}
use Rattle.spin_report.specs.declared.entry.Entry.{Entry}
use Rattle.spin_report.specs.Histories.{SegmentSeen, first_line, segment_lines, front_text}
use Rattle.spin_report.specs.Segments.{wanted_by}
use Rattle.spin_report.specs.Runs.{RunPoint, IsSegmentRun, AreRun, segment_sends, start_with}
use Rattle.spin_run.specs.declared.end.RunEnd.{RunEnd}
use Rattle.spin_run.specs.declared.end.RunEnd.TheVariants as end
use Rattle.spin_run.specs.Records.{AreRecords, room_of, IsTakenPast}
use Rattle.spin_run.specs.Ends.{RunSeen, HasRun, IsReading, retired_before, segment_text, wanted_to, Writes, WritesInto, EndsWithin, TakesFor, EndsBy, CountsBy, seen}
use Rattle.spin_run.specs.Inner.Reading.{given_by, IsGoing, HasTaken, Reads, TakesFrames}
use Rattle.spin_run.specs.Inner.Steps.{RunState, standing, setting_of, RunsFrom, retired_for, HasRunOne, HasTold, StopsOne, Stands, HasToldAll, WalksBy, AllBy, RunsAll, Setting}
use Rattle.spin_run.specs.Summaries.{Counts, counts_in}
use Rattle.spin_run.specs.Inner.Tallies.{TalliesOn}
use Rattle.spin_run.proofs.PartCounts.{tallies_none, tallies_more, entries_more}
use Rattle.spin_run.proofs.JoinedTexts.{Appends-append}
use Rattle.spin_run.proofs.CaptureBytes.{took_none, took_segments, past_none, past_segments}

-- ---- one segment behind others

are_run_more : (script : ScriptData) (segments : List Segment) (segment : Segment) (before : RunPoint) (parts : List SegmentSeen) (at : RunPoint) (part : SegmentSeen) (next : RunPoint)
    → AreRun script segments before parts at → IsSegmentRun script.setup script.lanes script.endpoints segment at part next → AreRun script (segments ++ segment ∷ []) before (parts ++ part ∷ []) next
are_run_more script [] segment before parts at part next h one =
    (part, [], next, ap (λ (x : List SegmentSeen). x ++ part ∷ []) h.0, subst (λ (x : RunPoint). IsSegmentRun script.setup script.lanes script.endpoints segment x part next) h.1 one, (refl, refl))
are_run_more script (s ∷ segments) segment before parts at part next h one =
    (h.0, h.1 ++ part ∷ [], h.2, ap (λ (x : List SegmentSeen). x ++ part ∷ []) h.3, h.4, are_run_more script segments segment h.2 h.1 at part next h.5 one)

length_run : (script : ScriptData) (segments : List Segment) (before : RunPoint) (parts : List SegmentSeen) (at : RunPoint) → AreRun script segments before parts at → length parts ≡ length segments
length_run script [] before parts at h = ap length h.0
length_run script (s ∷ segments) before parts at h = omega (arith, ap length h.3, length_run script segments h.2 h.1 at h.5)

slice_at : {X : Type 0} (xs : List X) (i : ℕ) (x : X) → slice_get xs i ≡ Some x → (i < length xs) × (get_or xs i x ≡ x)
slice_at xs i x e = (slice_get_within xs i x e, get_or_from_slice_get xs i x x e)

pub take_next : {X : Type 0} (xs : List X) (i : ℕ) (x : X) → slice_get xs i ≡ Some x → take (i + 1) xs ≡ take i xs ++ x ∷ []
take_next xs i x e = let h = slice_at xs i x e in take_more xs i x h.0 ∙ ap (λ y. take i xs ++ y ∷ []) h.1

-- ---- the text

abbrev lines_at : ℕ × SegmentSeen → List (List ℕ)
lines_at numbered = segment_lines numbered.0 numbered.1

pub text_append : (a b : List (List ℕ)) → text_of (a ++ b) ≡ text_of a ++ text_of b
text_append [] b = refl
text_append (l ∷ a) b = ap (λ x. ended l ++ x) (text_append a b) ∙ sym (append_assoc (ended l) (text_of a) (text_of b))

lines_more : (n : ℕ) (parts : List SegmentSeen) (part : SegmentSeen)
    → flat_map lines_at (enumerate_from n (parts ++ part ∷ [])) ≡ flat_map lines_at (enumerate_from n parts) ++ segment_lines (n + length parts) part
lines_more n [] part = append-nil (segment_lines n part) ∙ ap (λ k. segment_lines k part) (let e : n ≡ n + 0 = omega arith in e)
lines_more n (p ∷ parts) part =
    ap (λ x. segment_lines n p ++ x)
    (lines_more (n + 1) parts part ∙ ap (λ k. flat_map lines_at (enumerate_from (n + 1) parts) ++ segment_lines k part) (let e : n + 1 + length parts ≡ n + length (p ∷ parts) = omega arith in e))
    ∙ sym (append_assoc (segment_lines n p) (flat_map lines_at (enumerate_from (n + 1) parts)) (segment_lines (n + length (p ∷ parts)) part))

front_more : (parts : List SegmentSeen) (part : SegmentSeen) (count : ℕ) → length parts ≡ count → front_text (parts ++ part ∷ []) ≡ front_text parts ++ segment_text count part
front_more parts part count long =
    ap (λ (x : List (List ℕ)). text_of (first_line ∷ x)) (lines_more 0 parts part)
    ∙ text_append (first_line ∷ flat_map lines_at (enumerate_from 0 parts)) (segment_lines (0 + length parts) part)
    ∙ ap (λ k. front_text parts ++ segment_text k part) (let e : 0 + length parts ≡ count = omega (arith, long) in e)

-- what is written later
pub writes_more : (a b c : RunSeen) (xs ys : List ℕ) → Writes a b xs → Writes b c ys → Writes a c (xs ++ ys)
writes_more a b c xs ys h k = Appends-append a.sink.told b.sink.told c.sink.told xs ys h k

pub writes_nothing : (a b c : RunSeen) (xs : List ℕ) → Writes a b xs → Writes b c [] → Writes a c xs
writes_nothing a b c xs h k = subst (λ (ys : List ℕ). Writes a c ys) (append-nil xs) (writes_more a b c xs [] h k)

pub writes_into : (a b c : RunSeen) (xs ys : List ℕ) → Writes a b xs → WritesInto b c [] ys → WritesInto a c xs ys
writes_into a b c xs ys h k = (k.0, k.1, writes_more a b c xs (take k.0 ys) h k.2)

-- ---- moments

-- the records that are wanted with one segment more
wanted_next : (script : ScriptData) (count : ℕ) (segment : Segment) → slice_get script.segments count ≡ Some segment → wanted_to script (count + 1) ≡ wanted_to script count + wanted_by segment.lines
wanted_next script count segment there =
    ap (λ (x : List Segment). sum_by (λ (t : Segment). wanted_by t.lines) x) (take_next script.segments count segment there)
    ∙ sum_by_push (λ (t : Segment). wanted_by t.lines) (take count script.segments) segment

-- how many records are left, where all wanted so far were there
left_long : (script : ScriptData) (reader : Option ReaderState) (frames left : List (List ℕ)) (before : RunSeen) (count : ℕ) (now : RunState)
    → Stands script reader frames left before count now → length left ≡ length frames - wanted_to script count
left_long script reader frames left before count now s = ap length s.left_is ∙ length-drop (wanted_to script count) frames

pub stands_start : (script : ScriptData) (reader : Option ReaderState) (frames : List (List ℕ)) (before : RunSeen) (now : RunState) → now.capture ≡ reader
    → now.outside.source ≡ before.source → now.state ≡ (start_with script frames before.ends).state → now.outside.ends ≡ before.ends
    → given_by now.capture ≡ 0 → Writes before now.outside (ended first_line) → Stands script reader frames frames before 0 now
stands_start script reader frames before now same source state ends given text = record {
  parts = [];
  run = record { there = omega arith; run = (refl, λ i. record { state = state i; left = frames; ends = ends i }) };
  text = subst (λ (x : List ℕ). Writes before now.outside x) (sym (append-nil (ended first_line))) text;
  left_is = refl;
  taken = λ le. subst (λ (x : Option ReaderState × SourceSeen). HasTaken reader x.0 before.source x.1 []) (λ i. (sym same i, sym source i)) (took_none reader before.source);
  total = omega (arith, given);
  going = λ g. given;
}

pub stands_next : (script : ScriptData) (reader : Option ReaderState) (frames left later : List (List ℕ)) (before : RunSeen) (count : ℕ) (segment : Segment) (now next : RunState)
    → slice_get script.segments count ≡ Some segment → (s : Stands script reader frames left before count now) → HasRunOne (setting_of script) count segment now next left later
    → TakesFrames {T = Unit {0}} (wanted_by segment.lines) now.capture next.capture now.outside.source next.outside.source (Ok tt) left → Stands script reader frames later before (count + 1) next
stands_next script reader frames left later before count segment now next there s one took =
    let h : HasRun script frames before.ends count s.parts (standing now left) = s.run in
    let at = slice_at script.segments count segment there in
    let more : take (count + 1) script.segments ≡ take count script.segments ++ segment ∷ [] = take_next script.segments count segment there in
    let sum = wanted_next script count segment there in
    let long : length s.parts ≡ count = length_run script (take count script.segments) _ s.parts _ h.run ∙ length-take-le count script.segments h.there in
    record {
      parts = s.parts ++ one.part ∷ [];
      run = record {
        there = omega (arith, at.0);
        run = subst (λ (x : List Segment). AreRun script x (start_with script frames before.ends) (s.parts ++ one.part ∷ []) (standing next later)) (sym more)
            (are_run_more script (take count script.segments) segment (start_with script frames before.ends) s.parts (standing now left) one.part (standing next later) h.run one.run);
      };
      text = subst (λ (x : List ℕ). Writes before next.outside x) (sym (front_more s.parts one.part count long))
          (writes_more before now.outside next.outside (front_text s.parts) (segment_text count one.part) s.text one.text);
      left_is = one.run.left ∙ ap (drop (wanted_by segment.lines)) s.left_is ∙ drop-drop (wanted_by segment.lines) (wanted_to script count) frames ∙ ap (λ n. drop n frames) (sym sum);
      taken = λ le.
          let few : wanted_to script count + wanted_by segment.lines ≤ length frames = omega (arith, le, sum) in
          subst (λ n. HasTaken reader next.capture before.source next.outside.source (take n frames)) (sym sum)
          (took_segments reader now.capture next.capture before.source now.outside.source next.outside.source frames left (wanted_to script count) (wanted_by segment.lines) s.left_is few
          (s.taken (omega (arith, few))) (took (omega (arith, few, left_long script reader frames left before count now s))));
      total = one.total ∙ s.total;
      going = λ g. let one_going = one.going g in
          one_going.1 ∙ ap (λ n. n + wanted_by segment.lines) (s.going one_going.0) ∙ sym sum;
    }

-- nothing was run, and nothing counted
pub told_start : (script : ScriptData) (reader : Option ReaderState) (frames : List (List ℕ)) (before : RunSeen) (now : RunState) (tally tally' : Option Counts)
    → now.capture ≡ reader → now.outside.source ≡ before.source → now.state ≡ (start_with script frames before.ends).state → now.outside.ends ≡ before.ends
    → given_by now.capture ≡ 0 → Writes before now.outside (ended first_line) → tally' ≡ tally → HasToldAll script reader frames frames before 0 now tally tally'
unfolding stands_start
told_start script reader frames before now tally tally' same source state ends given text counted = record {
  stands = stands_start script reader frames before now same source state ends given text;
  counted = tallies_none tally tally' counted;
}

-- one segment more was run, and its entries counted
pub told_next : (script : ScriptData) (reader : Option ReaderState) (frames left later : List (List ℕ)) (before : RunSeen) (count : ℕ)
    (segment : Segment) (now next : RunState) (tally tally' tally'' : Option Counts) → slice_get script.segments count ≡ Some segment
    → HasToldAll script reader frames left before count now tally tally' → HasTold (setting_of script) count segment now next tally' tally'' left later
    → TakesFrames {T = Unit {0}} (wanted_by segment.lines) now.capture next.capture now.outside.source next.outside.source (Ok tt) left
    → HasToldAll script reader frames later before (count + 1) next tally tally''
unfolding stands_next
told_next script reader frames left later before count segment now next tally tally' tally'' there s told took = record {
  stands = stands_next script reader frames left later before count segment now next there s.stands told.one took;
  counted = subst (λ (es : List Entry). TalliesOn tally tally'' (counts_in es)) (entries_more s.stands.parts told.one.part)
      (tallies_more tally tally' tally'' (flat_map (λ (p : SegmentSeen). p.entries) s.stands.parts) told.one.part.entries s.counted told.counted);
}

-- whatever records are left afterwards, P holds of them, and of some that were left before
abbrev pub KeepsRecords : Option ReaderState → SourceSeen → Option ReaderState → SourceSeen → (List (List ℕ) → List (List ℕ) → Option (Result Next PcapFault) → Type 0) → Type 0
KeepsRecords before s after s' P = Reads {T = Unit {0}} before s after s' (Ok tt) P

-- the same records, of which something else holds
pub reads_so : {T : Type 0} (P Q : List (List ℕ) → List (List ℕ) → Option (Result Next PcapFault) → Type 0)
    (before : Option ReaderState) (s : SourceSeen) (after : Option ReaderState) (s' : SourceSeen) (result : Result T RunEnd)
    → ((frames left : List (List ℕ)) (rest : Option (Result Next PcapFault)) → P frames left rest → Q frames left rest) → Reads before s after s' result P → Reads before s after s' result Q
reads_so P Q before s after s' (Ok done) f h = λ left rest r. let one = h left rest r in (one.0, one.1, f one.0 left rest one.2)
reads_so P Q before s after s' (Err stop) f h = (h.0, h.1, h.2, f h.0 [] h.1 h.3)

-- what was run in a setting is a run of the script whose setting it is
pub runs_script : (script : ScriptData) (s : Setting) (reader : Option ReaderState) (start : RunSeen) (now : RunState) (tally counted : Option Counts)
    (capture : Option ReaderState) (after : RunSeen) (tally' : Option Counts) (result : Result ℕ RunEnd) → s ≡ setting_of script
    → RunsAll s script.segments now counted capture after tally' result → ((frames : List (List ℕ)) → HasToldAll script reader frames frames start 0 now tally counted)
    → Reads now.capture now.outside.source capture after.source result (AllBy script reader start tally capture after tally' result)
runs_script script s reader start now tally counted capture after tally' result same h told =
    let all = subst (λ (x : Setting). RunsAll x script.segments now counted capture after tally' result) same h in
    reads_so _ (AllBy script reader start tally capture after tally' result) now.capture now.outside.source capture after.source result
    (λ frames left rest f. f script.version reader start tally (told frames)) all

retired_is : (script : ScriptData) (count : ℕ) (segment : Segment) (ends : List NamedEnd) → slice_get script.segments count ≡ Some segment
    → all_retired script.endpoints segment.retires ends ≡ retired_before script count ends
retired_is script count segment ends there = ap (λ (o : Option Segment). option_map_or (λ (t : Segment). all_retired script.endpoints t.retires ends) o ends) (sym there)

within : (script : ScriptData) (count : ℕ) (segment : Segment) (now : RunState) (left : List (List ℕ)) (ends : List NamedEnd)
    → slice_get script.segments count ≡ Some segment → ((ends ≡ now.outside.ends)
    ⊎ ((ends ≡ retired_for (setting_of script) segment now) ⊎ ((part : SegmentSeen) × (next : RunPoint) × RunsFrom (setting_of script) segment now left part next × (ends ≡ next.ends))))
    → EndsWithin script count (standing now left) ends
within script count segment now left ends there (inl same) = inl same
within script count segment now left ends there (inr (inl retired)) = inr (inl (retired ∙ retired_is script count segment now.outside.ends there))
within script count segment now left ends there (inr (inr all)) = inr (inr (all.0, all.1, record { segment = segment; there = there; run = all.2 }, all.3))

-- what was taken by a run that stopped in a segment
takes_for : (script : ScriptData) (reader : Option ReaderState) (frames left : List (List ℕ)) (before : RunSeen) (count : ℕ) (segment : Segment) (now next : RunState) (stop : RunEnd)
    → slice_get script.segments count ≡ Some segment → Stands script reader frames left before count now
    → TakesFrames {T = Unit {0}} (wanted_by segment.lines) now.capture next.capture now.outside.source next.outside.source (Err stop) left
    → TakesFor script (room_of reader) frames count before next.outside
takes_for script reader frames left before count segment now next stop there s took = λ _ le.
    let sum = wanted_next script count segment there in
    let few : wanted_to script count + wanted_by segment.lines ≤ length frames = omega (arith, le, sum) in
    subst (λ n. IsTakenPast (room_of reader) before.source next.outside.source (take n frames)) (sym sum)
    (past_segments reader now.capture before.source now.outside.source next.outside.source frames left (wanted_to script count) (wanted_by segment.lines) s.left_is few
    (s.taken (omega (arith, few))) (took (omega (arith, few, left_long script reader frames left before count now s))))

-- a reader that goes on is one of a capture
has_rest : (capture : Option ReaderState) (source : SourceSeen) (left : List (List ℕ)) (rest : Option (Result Next PcapFault)) → IsGoing capture → AreRecords capture source left rest → rest ≢ None
has_rest None source left rest going r = absurd going
has_rest (Some reader) source left rest going r = λ none. absurd (let e : Some r.0 ≡ None = sym r.1 ∙ none in cc (e))

-- where the next record is read
pub reading : (script : ScriptData) (reader : Option ReaderState) (frames left : List (List ℕ)) (rest : Option (Result Next PcapFault)) (before : RunSeen) (count : ℕ) (now : RunState)
    → Stands script reader frames left before count now → AreRecords now.capture now.outside.source left rest → IsGoing now.capture
    → ((wanted_to script count + 1 ≤ wanted_to script (count + 1)) ⊎ (count ≡ length script.segments)) → IsReading script frames rest count
reading script reader frames left rest before count now s r going at = record {
  capture = has_rest now.capture now.outside.source left rest going r;
  number = wanted_to script count + 1;
  there = omega (arith, s.going going, s.total);
  read_at = record { behind = omega arith; before = at };
}

-- the end of a run that stopped in a segment
pub one_ends : (script : ScriptData) (reader : Option ReaderState) (frames left : List (List ℕ)) (rest : Option (Result Next PcapFault)) (before : RunSeen) (count : ℕ)
    (segment : Segment) (now next : RunState) (stop : RunEnd) → slice_get script.segments count ≡ Some segment → Stands script reader frames left before count now
    → AreRecords now.capture now.outside.source left rest → StopsOne (setting_of script) count segment now next left rest stop
    → TakesFrames {T = Unit {0}} (wanted_by segment.lines) now.capture next.capture now.outside.source next.outside.source (Err stop) left
    → EndsBy script (room_of reader) frames rest before next.outside stop
one_ends script reader frames left rest before count segment now next (end.Capture n reason) there s r h took =
    let sum = wanted_next script count segment there in
    let refused = h.0 in
    let number_is : n ≡ length frames + 1 = omega (arith, refused.3, s.total) in
    let given = s.going refused.4 in (
      refused.0,
      refused.1,
      refused.2,
      number_is,
      count,
      s.parts,
      standing now left,
      s.run,
      record { behind = omega (arith, number_is, given, s.total); before = inl (omega (arith, refused.3, sum, given, h.1)) },
      writes_nothing before now.outside next.outside (front_text s.parts) s.text h.3,
      h.2 ∙ retired_is script count segment now.outside.ends there,
    )
one_ends script reader frames left rest before count segment now next end.ReadFault there s r h took =
    let sum = wanted_next script count segment there in (
      count,
      s.parts,
      standing now left,
      s.run,
      reading script reader frames left rest before count now s r h.0 (inl (omega (arith, sum, h.1))),
      writes_nothing before now.outside next.outside (front_text s.parts) s.text h.3,
      h.2 ∙ retired_is script count segment now.outside.ends there,
      takes_for script reader frames left before count segment now next end.ReadFault there s took,
    )
one_ends script reader frames left rest before count segment now next end.WriteFault there s r h took = inr (inl (
  count,
  s.parts,
  standing now left,
  s.run,
  h.0,
  h.1,
  record { segment = segment; there = there; run = h.2 },
  writes_into before now.outside next.outside (front_text s.parts) (segment_text count h.0) s.text h.4,
  h.3,
  takes_for script reader frames left before count segment now next end.WriteFault there s took,
))
one_ends script reader frames left rest before count segment now next end.NoMemory there s r h took = (
  count,
  s.parts,
  standing now left,
  s.run,
  writes_nothing before now.outside next.outside (front_text s.parts) s.text h.1,
  within script count segment now left next.outside.ends there h.0,
  takes_for script reader frames left before count segment now next end.NoMemory there s took,
)
one_ends script reader frames left rest before count segment now next (end.Endpoint p) there s r h took = (
  count,
  s.parts,
  standing now left,
  s.run,
  h.0,
  h.1,
  record { segment = segment; there = there; run = h.2 },
  subst (λ (x : List NamedEnd). StopsAt script.endpoints (segment_sends h.0) p x next.outside.ends) (retired_is script count segment now.outside.ends there) h.3,
  writes_nothing before now.outside next.outside (front_text s.parts) s.text h.4,
  takes_for script reader frames left before count segment now next (end.Endpoint p) there s took,
)
one_ends script reader frames left rest before count segment now next end.Whole there s r h took = absurd h

-- ---- the first line

-- the sink failed at it
pub ends_first : (script : ScriptData) (reader : Option ReaderState) (frames : List (List ℕ)) (rest : Option (Result Next PcapFault)) (before after : RunSeen) (n : ℕ)
    → after.ends ≡ before.ends → after.source ≡ before.source → n < length (ended first_line)
    → Appends before.sink.told after.sink.told (take n (ended first_line)) → EndsBy script (room_of reader) frames rest before after end.WriteFault
ends_first script reader frames rest before after n same source short h =
    inl ((n, short, h), same, subst (λ (x : SourceSeen). IsTakenPast (room_of reader) before.source x []) (sym source) (past_none (room_of reader) before.source []))

-- there was no memory behind it
pub ends_empty : (script : ScriptData) (reader : Option ReaderState) (frames : List (List ℕ)) (rest : Option (Result Next PcapFault)) (before after : RunSeen) → after.ends ≡ before.ends
    → after.source ≡ before.source → Appends before.sink.told after.sink.told (ended first_line) → EndsBy script (room_of reader) frames rest before after end.NoMemory
ends_empty script reader frames rest before after same source h = (
  0,
  [],
  start_with script frames before.ends,
  record { there = omega arith; run = (refl, refl) },
  subst (λ (x : List ℕ). Writes before after x) (sym (append-nil (ended first_line))) h,
  inl same,
  λ _ _. subst (λ (x : SourceSeen). IsTakenPast (room_of reader) before.source x (take (wanted_to script (0 + 1)) frames))
      (sym source) (past_none (room_of reader) before.source (take (wanted_to script (0 + 1)) frames)),
)

-- a reader that gave nothing yet
pub fresh_given : (capture : Option ReaderState) → IfSome capture IsFresh → given_by capture ≡ 0
fresh_given None h = refl
fresh_given (Some reader) h = h.0

-- which is the end of the walk, as no segment stops whole
pub one_walks : (script : ScriptData) (past : ℕ) (frames : List (List ℕ)) (rest : Option (Result Next PcapFault)) (before after : RunSeen)
    (tally tally' : Option Counts) (s : Setting) (number : ℕ) (segment : Segment) (now next : RunState) (left : List (List ℕ)) (stop : RunEnd)
    → StopsOne s number segment now next left rest stop → EndsBy script past frames rest before after stop → WalksBy script past frames rest before tally after tally' stop
one_walks script past frames rest before after tally tally' s number segment now next left end.Whole h e = absurd h
one_walks script past frames rest before after tally tally' s number segment now next left end.ReadFault h e = e
one_walks script past frames rest before after tally tally' s number segment now next left end.WriteFault h e = e
one_walks script past frames rest before after tally tally' s number segment now next left end.NoMemory h e = e
one_walks script past frames rest before after tally tally' s number segment now next left (end.Endpoint p) h e = e
one_walks script past frames rest before after tally tally' s number segment now next left (end.Capture n reason) h e = e

-- a walk without counts ends as a run that writes a report
pub walk_ends : (script : ScriptData) (past : ℕ) (frames : List (List ℕ)) (rest : Option (Result Next PcapFault)) (before after : RunSeen) (tally tally' : Option Counts) (stop : RunEnd)
    → WalksBy script past frames rest before tally after tally' stop → EndsBy script past frames rest before after stop
walk_ends script past frames rest before after tally tally' end.Whole h = (h.0, h.1, h.2)
walk_ends script past frames rest before after tally tally' end.ReadFault h = h
walk_ends script past frames rest before after tally tally' end.WriteFault h = h
walk_ends script past frames rest before after tally tally' end.NoMemory h = h
walk_ends script past frames rest before after tally tally' (end.Endpoint p) h = h
walk_ends script past frames rest before after tally tally' (end.Capture n reason) h = h

-- the same of a sink that is seen so in another way
pub ends_seen : (script : ScriptData) (past : ℕ) (frames : List (List ℕ)) (rest : Option (Result Next PcapFault)) (before : RunSeen) (source : SourceSeen) (sink sink' : SinkSeen)
    (ends : List NamedEnd) (stop : RunEnd) → EndsBy script past frames rest before (seen source sink ends) stop → sink ≡ sink' → EndsBy script past frames rest before (seen source sink' ends) stop
ends_seen script past frames rest before source sink sink' ends stop h same =
    subst (λ (s : SinkSeen). EndsBy script past frames rest before (seen source s ends) stop) same h

pub counts_seen : (names : List (List ℕ)) (before : RunSeen) (source : SourceSeen) (sink sink' : SinkSeen) (ends : List NamedEnd) (stop : RunEnd)
    → CountsBy names before (seen source sink ends) stop → sink ≡ sink' → CountsBy names before (seen source sink' ends) stop
counts_seen names before source sink sink' ends stop h same =
    subst (λ (s : SinkSeen). CountsBy names before (seen source s ends) stop) same h
