-- The end of a run that came behind all its segments.
use Rattle.std.proofs.Common.{◌≡◌, ◌<◌, ◌+◌, ◌-◌, ℕ, true, false, List, [], ◌∷◌, ◌++◌, length, take, Option, Some, None, Result, Ok, Err, refl, sym, ap, subst, ◌∙◌, inl, inr, arith}
use Rattle.std.specs.Prelude.{is_none, slice_get}
use Rattle.std.specs.Option.{option_map, option_map_or}
use Rattle.std.specs.Io.KnownBytes.{Appends}
use Rattle.std.proofs.lemmas.List.{append-nil, take_all}
use Rattle.std.specs.List.{flat_map}
use Rattle.spin_outside.specs.Seen.{SinkSeen}
use Rattle.spin_outside.specs.Sources.{SourceSeen}
use Rattle.spin_pcap.specs.declared.fault.PcapFault.{PcapFault}
use Rattle.spin_pcap.specs.declared.next.Next.{Next}
use Rattle.spin_pcap.specs.declared.next.Next.TheVariants as next
use Rattle.spin_pcap.specs.Passing.{ReaderState}
use Rattle.spin_endpoint.specs.Named.{NamedEnd}
use Rattle.spin_endpoint.specs.Sends.{all_retired}
use Rattle.spin_text.specs.Words.{ended}
use Rattle.spin_script.specs.declared.script.Segment.{Segment}
use Rattle.spin_script.specs.States.{ScriptData}
use Rattle.spin_report.specs.declared.text.CaptureCounts.{CaptureCounts}
use Rattle.spin_report.specs.Histories.{SegmentSeen, HistorySeen, end_line, front_lines, front_text, report_text}
use Rattle.spin_report.specs.Runs.{CaptureSeen, AreRun, start_with, frames_of, counts_of}
use Rattle.spin_run.specs.declared.end.RunEnd.{RunEnd}
use Rattle.spin_run.specs.declared.end.RunEnd.TheVariants as end
use Rattle.spin_run.specs.Records.{AreRecords, HasRecords, room_of}
use Rattle.spin_run.specs.Ends.{RunSeen, HasRun, retired_before, IsReadWhole, IsWhole, end_text, Writes, WritesInto, EndsBy}
use Rattle.spin_run.specs.Inner.Reading.{given_by, IsCutRest, GivesRest}
use Rattle.spin_run.specs.Inner.Ending.{AreCounts, GivesCounts, Finishes}
use Rattle.spin_run.specs.Inner.Steps.{RunState, standing, Stands, HasToldAll, WalksBy}
use Rattle.spin_run.specs.Summaries.{Counts, counts_in}
use Rattle.spin_run.specs.Inner.Tallies.{Tells}
use Rattle.spin_run.proofs.PartCounts.{tallies_same}
use Rattle.spin_run.proofs.JoinedTexts.{Appends-none}
use Rattle.spin_run.proofs.Left.{some_left}
use Rattle.spin_run.proofs.SegmentRuns.{text_append, writes_more, writes_nothing, writes_into, reading}

-- ---- the counts

some_rest : (capture : Option ReaderState) (s : SourceSeen) (left : List (List ℕ)) (rest : Option (Result Next PcapFault))
    → is_none capture ≡ false → AreRecords capture s left rest → (ending : Result Next PcapFault) × (rest ≡ Some ending)
some_rest None s left rest there r = absurd (cc (there))
some_rest (Some reader) s left rest there r = (r.0, r.1)

pub counts_told : (capture : Option ReaderState) (s : SourceSeen) (left : List (List ℕ)) (rest : Option (Result Next PcapFault)) (records used cut : ℕ)
    → is_none capture ≡ false → AreRecords capture s left rest → IsCutRest rest cut → records ≡ given_by capture + length left
    → used ≡ given_by capture → AreCounts (given_by capture) (length left) rest (Some (record { records = records; used = used; cut = cut }))
counts_told capture s left None records used cut there r is all some = absurd (let e = some_rest capture s left None there r in cc (e.1))
counts_told capture s left (Some (Ok next.End)) records used cut there r is all some = λ i. Some (record { records = all i; used = some i; cut = is i })
counts_told capture s left (Some (Ok (next.Cut n))) records used cut there r is all some = λ i. Some (record { records = all i; used = some i; cut = is i })
counts_told capture s left (Some (Ok next.Packet)) records used cut there r is all some = absurd is
counts_told capture s left (Some (Err wrong)) records used cut there r is all some = absurd is

none_rest : (capture : Option ReaderState) (s : SourceSeen) (left : List (List ℕ)) (rest : Option (Result Next PcapFault)) → is_none capture ≡ true → AreRecords capture s left rest → rest ≡ None
none_rest None s left rest there r = r.1
none_rest (Some reader) s left rest there r = absurd (cc (there))

-- what is told of a capture that was read to its end
pub counts_rest : (before after : Option ReaderState) (s : SourceSeen) (records used cut : ℕ) → is_none before ≡ false → HasRecords before s (GivesRest before after (Ok cut))
    → used ≡ given_by before → records ≡ given_by after → HasRecords before s (GivesCounts before (Ok (Some (record { records = records; used = used; cut = cut }))))
counts_rest before after s records used cut there h used_is records_is =
    (h.0, h.1, h.2, counts_told before s h.0 h.1 records used cut there h.2 h.3.0 (records_is ∙ h.3.1) used_is)

pub no_counts : (capture : Option ReaderState) (s : SourceSeen) (left : List (List ℕ)) (rest : Option (Result Next PcapFault))
    → is_none capture ≡ true → AreRecords capture s left rest → AreCounts (given_by capture) (length left) rest None
no_counts capture s left rest there r =
    subst (λ (x : Option (Result Next PcapFault)). AreCounts (given_by capture) (length left) x None) (sym (none_rest capture s left rest there r)) refl

pub counts_none : (capture : Option ReaderState) (s : SourceSeen) → is_none capture ≡ true → HasRecords capture s (GivesCounts capture (Ok None))
counts_none capture s there =
    let some = some_left capture s in
    (some.0, some.1, some.2, no_counts capture s some.0 some.1 there some.2)

-- ---- the whole history

abbrev captured_of : List (List ℕ) → Option (Result Next PcapFault) → Option CaptureSeen
captured_of frames (Some (Ok next.End)) = Some (record { frames = frames; cut = 0 })
captured_of frames (Some (Ok (next.Cut n))) = Some (record { frames = frames; cut = n })
captured_of frames other = None

read_whole : (frames : List (List ℕ)) (rest : Option (Result Next PcapFault)) (used left : ℕ) (told : Option CaptureCounts)
    → AreCounts used left rest told → IsReadWhole frames rest (captured_of frames rest)
read_whole frames None used left told h = refl
read_whole frames (Some (Ok next.End)) used left told h = refl
read_whole frames (Some (Ok (next.Cut n))) used left told h = refl
read_whole frames (Some (Ok next.Packet)) used left told h = absurd h
read_whole frames (Some (Err wrong)) used left told h = absurd h

told_is : (frames rest_frames : List (List ℕ)) (rest : Option (Result Next PcapFault)) (used : ℕ) (told : Option CaptureCounts)
    → used + length rest_frames ≡ length frames → AreCounts used (length rest_frames) rest told → told ≡ option_map (counts_of rest_frames) (captured_of frames rest)
told_is frames left None used told all h = h
told_is frames left (Some (Ok next.End)) used told all h =
    let some : used ≡ length frames - length left = omega (arith, all) in
    h ∙ (λ i. Some (record { records = all i; used = some i; cut = 0 }))
told_is frames left (Some (Ok (next.Cut n))) used told all h =
    let some : used ≡ length frames - length left = omega (arith, all) in
    h ∙ (λ i. Some (record { records = all i; used = some i; cut = n }))
told_is frames left (Some (Ok next.Packet)) used told all h = absurd h
told_is frames left (Some (Err wrong)) used told all h = absurd h

pub no_frames : (capture : Option ReaderState) (s : SourceSeen) (frames : List (List ℕ)) → AreRecords capture s frames None → frames ≡ []
no_frames None s frames r = r.0
no_frames (Some reader) s frames r = absurd (cc (r.1))

frames_are : (capture : Option ReaderState) (s : SourceSeen) (frames : List (List ℕ)) (rest : Option (Result Next PcapFault)) (used left : ℕ) (told : Option CaptureCounts)
    → AreRecords capture s frames rest → AreCounts used left rest told → frames_of (captured_of frames rest) ≡ frames
frames_are capture s frames None used left told r h = sym (no_frames capture s frames r)
frames_are capture s frames (Some (Ok next.End)) used left told r h = refl
frames_are capture s frames (Some (Ok (next.Cut n))) used left told r h = refl
frames_are capture s frames (Some (Ok next.Packet)) used left told r h = absurd h
frames_are capture s frames (Some (Err wrong)) used left told r h = absurd h

abbrev history_of : (script : ScriptData) (capture : Option ReaderState) (frames left : List (List ℕ)) (rest : Option (Result Next PcapFault)) (before : RunSeen) (now : RunState)
    → Stands script capture frames left before (length script.segments) now → Option CaptureCounts → HistorySeen
history_of script capture frames left rest before now s told = record { segments = s.parts; end = now.state.place; capture = told }

is_whole : (script : ScriptData) (capture : Option ReaderState) (frames left : List (List ℕ)) (rest : Option (Result Next PcapFault)) (before : RunSeen) (now : RunState) (told : Option CaptureCounts)
    → AreRecords capture before.source frames rest → (s : Stands script capture frames left before (length script.segments) now)
    → AreCounts (given_by now.capture) (length left) rest told → IsWhole script frames rest before.ends now.outside.ends (history_of script capture frames left rest before now s told)
is_whole script capture frames left rest before now told r s h =
    let run : HasRun script frames before.ends (length script.segments) s.parts (standing now left) = s.run in
    record {
      captured = captured_of frames rest;
      capture_is = read_whole frames rest (given_by now.capture) (length left) told h;
      last = standing now left;
      run = record {
        segments = subst (λ (x : List (List ℕ)). AreRun script script.segments (start_with script x before.ends) s.parts (standing now left))
            (sym (frames_are capture before.source frames rest (given_by now.capture) (length left) told r h))
            (subst (λ (x : List Segment). AreRun script x (start_with script frames before.ends) s.parts (standing now left))
            (take_all (length script.segments) script.segments (omega arith)) run.run);
        end = refl;
        capture_is = told_is frames left rest (given_by now.capture) told s.total h;
      };
      ends_are = refl;
    }

-- ---- how the run ends

report_more : (history : HistorySeen) → report_text history ≡ front_text history.segments ++ end_text history
report_more history = text_append (front_lines history.segments) (end_line history.end history.capture ∷ []) ∙ ap (λ x. front_text history.segments ++ x) (append-nil (end_text history))

behind_all : {X : Type 0} (xs : List X) → slice_get xs (length xs) ≡ None
behind_all [] = refl
behind_all (x ∷ xs) = behind_all xs

-- behind all segments there is none to be retired for
none_retired : (script : ScriptData) (ends : List NamedEnd) → retired_before script (length script.segments) ends ≡ ends
none_retired script ends = ap (λ (o : Option Segment). option_map_or (λ (t : Segment). all_retired script.endpoints t.retires ends) o ends) (behind_all script.segments)

pub ends_whole : (script : ScriptData) (capture : Option ReaderState) (frames left : List (List ℕ)) (rest : Option (Result Next PcapFault))
    (before : RunSeen) (now : RunState) (log_length : ℕ) (after : RunSeen) → after.ends ≡ now.outside.ends → log_length ≡ now.state.place
    → AreRecords capture before.source frames rest → (s : Stands script capture frames left before (length script.segments) now)
    → Finishes log_length now.capture now.outside.sink after.sink (Ok tt) left rest → EndsBy script (room_of capture) frames rest before after end.Whole
ends_whole script capture frames left rest before now log_length after ends place r s h =
    let history = history_of script capture frames left rest before now s h.0 in
    let line : Writes now.outside after (end_text history) = subst (λ (n : ℕ). Appends now.outside.sink.told after.sink.told (ended (end_line n h.0))) place h.2 in
    let text : Writes before after (report_text history) =
    subst (λ (x : List ℕ). Writes before after x) (sym (report_more history)) (writes_more before now.outside after (front_text s.parts) (end_text history) s.text line) in
    (history, subst (λ (x : List NamedEnd). IsWhole script frames rest before.ends x history) (sym ends) (is_whole script capture frames left rest before now h.0 r s h.1), text)

pub ends_stopped : (script : ScriptData) (capture : Option ReaderState) (frames left : List (List ℕ)) (rest : Option (Result Next PcapFault)) (before : RunSeen) (now : RunState)
    (log_length : ℕ) (after : RunSeen) (stop : RunEnd) → after.ends ≡ now.outside.ends → log_length ≡ now.state.place → AreRecords capture before.source frames rest
    → AreRecords now.capture now.outside.source left rest → (s : Stands script capture frames left before (length script.segments) now)
    → Finishes log_length now.capture now.outside.sink after.sink (Err stop) left rest → EndsBy script (room_of capture) frames rest before after stop
ends_stopped script capture frames left rest before now log_length after end.WriteFault ends place r r' s h =
    let history = history_of script capture frames left rest before now s h.0 in
    let line : WritesInto now.outside after [] (end_text history) =
    subst (λ (n : ℕ). (k : ℕ) × (k < length (ended (end_line n h.0))) × Appends now.outside.sink.told after.sink.told (take k (ended (end_line n h.0)))) place (h.2, h.3, h.4) in
    inr (inr (
      history,
      subst (λ (x : List NamedEnd). IsWhole script frames rest before.ends x history) (sym ends) (is_whole script capture frames left rest before now h.0 r s h.1),
      writes_into before now.outside after (front_text s.parts) (end_text history) s.text line,
    ))
ends_stopped script capture frames left rest before now log_length after (end.Capture n reason) ends place r r' s h =
    let refused = h.0 in
    let number_is : n ≡ length frames + 1 = omega (arith, refused.3, s.total) in
    let given = s.going refused.4 in (
      refused.0,
      refused.1,
      refused.2,
      number_is,
      length script.segments,
      s.parts,
      standing now left,
      s.run,
      record { behind = omega (arith, number_is, given, s.total); before = inr refl },
      writes_nothing before now.outside after (front_text s.parts) s.text h.1,
      ends ∙ sym (none_retired script now.outside.ends),
    )
ends_stopped script capture frames left rest before now log_length after end.ReadFault ends place r r' s h = (
  length script.segments,
  s.parts,
  standing now left,
  s.run,
  reading script capture frames left rest before (length script.segments) now s r' h.0 (inr refl),
  writes_nothing before now.outside after (front_text s.parts) s.text h.1,
  ends ∙ sym (none_retired script now.outside.ends),
  λ there. absurd (omega (arith, there)),
)
ends_stopped script capture frames left rest before now log_length after end.NoMemory ends place r r' s h = (
  length script.segments,
  s.parts,
  standing now left,
  s.run,
  writes_nothing before now.outside after (front_text s.parts) s.text h.1,
  inl ends,
  λ there. absurd (omega (arith, there)),
)
ends_stopped script capture frames left rest before now log_length after end.Whole ends place r r' s h = absurd h.0
ends_stopped script capture frames left rest before now log_length after (end.Endpoint p) ends place r r' s h = absurd h.0

-- ---- how the walk ends

pub walks_whole : (script : ScriptData) (capture : Option ReaderState) (frames left : List (List ℕ)) (rest : Option (Result Next PcapFault)) (before : RunSeen)
    (now : RunState) (log_length : ℕ) (after : RunSeen) (tally tally' tally'' : Option Counts) → after.ends ≡ now.outside.ends → log_length ≡ now.state.place
    → AreRecords capture before.source frames rest → (s : HasToldAll script capture frames left before (length script.segments) now tally tally')
    → Finishes log_length now.capture now.outside.sink after.sink (Ok tt) left rest → tally'' ≡ tally' → WalksBy script (room_of capture) frames rest before tally after tally'' end.Whole
unfolding ends_whole
walks_whole script capture frames left rest before now log_length after tally tally' tally'' ends place r s h same =
    let e = ends_whole script capture frames left rest before now log_length after ends place r s.stands h in
    (e.0, e.1, e.2, tallies_same tally tally' tally'' (counts_in (flat_map (λ (p : SegmentSeen). p.entries) s.stands.parts)) s.counted same)

pub walks_stopped : (script : ScriptData) (capture : Option ReaderState) (frames left : List (List ℕ)) (rest : Option (Result Next PcapFault)) (before : RunSeen)
    (now : RunState) (log_length : ℕ) (after : RunSeen) (tally tally' : Option Counts) (stop : RunEnd) → after.ends ≡ now.outside.ends → log_length ≡ now.state.place
    → AreRecords capture before.source frames rest → AreRecords now.capture now.outside.source left rest → (s : Stands script capture frames left before (length script.segments) now)
    → Finishes log_length now.capture now.outside.sink after.sink (Err stop) left rest → WalksBy script (room_of capture) frames rest before tally after tally' stop
walks_stopped script capture frames left rest before now log_length after tally tally' end.Whole ends place r r' s h = absurd h.0
walks_stopped script capture frames left rest before now log_length after tally tally' end.ReadFault ends place r r' s h =
    ends_stopped script capture frames left rest before now log_length after end.ReadFault ends place r r' s h
walks_stopped script capture frames left rest before now log_length after tally tally' end.WriteFault ends place r r' s h =
    ends_stopped script capture frames left rest before now log_length after end.WriteFault ends place r r' s h
walks_stopped script capture frames left rest before now log_length after tally tally' end.NoMemory ends place r r' s h =
    ends_stopped script capture frames left rest before now log_length after end.NoMemory ends place r r' s h
walks_stopped script capture frames left rest before now log_length after tally tally' (end.Endpoint p) ends place r r' s h = absurd h.0
walks_stopped script capture frames left rest before now log_length after tally tally' (end.Capture n reason) ends place r r' s h =
    ends_stopped script capture frames left rest before now log_length after (end.Capture n reason) ends place r r' s h

-- telling the end
pub finishes : (log_length : ℕ) (before : Option ReaderState) (sink sink' : SinkSeen) (told : Option CaptureCounts) (left : List (List ℕ))
    (rest : Option (Result Next PcapFault)) (result : Result (Unit {0}) RunEnd) → AreCounts (given_by before) (length left) rest told
    → Tells sink sink' (ended (end_line log_length told)) result → Finishes log_length before sink sink' result left rest
finishes log_length before sink sink' told left rest (Ok done) counts t = (told, counts, t)
finishes log_length before sink sink' told left rest (Err end.WriteFault) counts t = (told, counts, t.0, t.1, t.2)
finishes log_length before sink sink' told left rest (Err end.NoMemory) counts t =
    (tt, subst (λ (x : SinkSeen). Appends sink.told x.told []) (sym t) (Appends-none sink.told))
finishes log_length before sink sink' told left rest (Err end.Whole) counts t = absurd t
finishes log_length before sink sink' told left rest (Err end.ReadFault) counts t = absurd t
finishes log_length before sink sink' told left rest (Err (end.Endpoint p)) counts t = absurd t
finishes log_length before sink sink' told left rest (Err (end.Capture n reason)) counts t = absurd t

stops_in : (log_length : ℕ) (before : Option ReaderState) (sink : SinkSeen) (left : List (List ℕ)) (rest : Option (Result Next PcapFault)) (stop : RunEnd)
    → GivesCounts before (Err stop) left rest → Finishes log_length before sink sink (Err stop) left rest
stops_in log_length before sink left rest end.WriteFault h = absurd h
stops_in log_length before sink left rest end.NoMemory h = (h, Appends-none sink.told)
stops_in log_length before sink left rest end.Whole h = absurd h
stops_in log_length before sink left rest end.ReadFault h = (h, Appends-none sink.told)
stops_in log_length before sink left rest (end.Endpoint p) h = absurd h
stops_in log_length before sink left rest (end.Capture n reason) h = (h, Appends-none sink.told)

-- reading to the end stopped
pub stops_finishing : (log_length : ℕ) (before : Option ReaderState) (s : SourceSeen) (sink : SinkSeen) (stop : RunEnd)
    → HasRecords before s (GivesCounts before (Err stop)) → HasRecords before s (Finishes log_length before sink sink (Err stop))
stops_finishing log_length before s sink stop h = (h.0, h.1, h.2, stops_in log_length before sink h.0 h.1 stop h.3)
