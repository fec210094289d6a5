-- The end of a run whose history is summed up.
use Rattle.std.proofs.Common.{◌≡◌, ℕ, List, [], length, take, Option, Some, None, Result, Ok, Err, refl, sym, ap, subst, ◌∙◌, inl, arith}
use Rattle.std.specs.Io.KnownBytes.{Appends}
use Rattle.std.proofs.lemmas.List.{take_all}
use Rattle.spin_outside.specs.Counts.{Rose}
use Rattle.spin_outside.specs.Seen.{SinkSeen}
use Rattle.spin_outside.specs.Sources.{SourceSeen}
use Rattle.spin_pcap.specs.declared.fault.PcapFault.{PcapFault}
use Rattle.spin_pcap.specs.declared.next.Next.{Next}
use Rattle.spin_pcap.specs.declared.next.Next.TheVariants as next
use Rattle.spin_pcap.specs.Passing.{ReaderState}
use Rattle.spin_text.specs.Words.{text_of}
use Rattle.spin_script.specs.declared.script.Segment.{Segment}
use Rattle.spin_script.specs.States.{ScriptData}
use Rattle.spin_report.specs.declared.entry.Entry.{Entry}
use Rattle.spin_report.specs.Histories.{HistorySeen, entries_of}
use Rattle.spin_report.specs.Runs.{CaptureSeen, AreRun, start_with, frames_of}
use Rattle.spin_run.specs.declared.end.RunEnd.{RunEnd}
use Rattle.spin_run.specs.declared.end.RunEnd.TheVariants as end
use Rattle.spin_run.specs.Records.{AreRecords, HasRecords}
use Rattle.spin_run.specs.Ends.{RunSeen, IsReadWhole, IsWhole, Writes, WritesInto, EndsBy, CountsBy}
use Rattle.spin_run.specs.Summaries.{Counts, counts_in, summary_lines, untold, SumsUpBy}
use Rattle.spin_run.specs.Inner.Tallies.{plus, TalliesOn, Tells, TellsByCount}
use Rattle.spin_run.specs.Inner.Steps.{WalksBy}
use Rattle.spin_run.proofs.PartCounts.{none_plus}
use Rattle.spin_run.proofs.RunEnds.{no_frames}

-- a tally that began with nothing has counted just these entries
summed : (tally : Counts) (entries : List Entry) → TalliesOn (Some (counts_in [])) (Some tally) (counts_in entries) → tally ≡ counts_in entries
summed tally entries h =
    let e : tally ≡ plus (counts_in []) (counts_in entries) = cc in e ∙ none_plus (counts_in entries)

-- what is seen of a tally never fails
no_rise : Rose 0 0 → ⊥
no_rise rose = omega arith

-- the walk stopped
stops_untold : (script : ScriptData) (past number : ℕ) (frames : List (List ℕ)) (rest : Option (Result Next PcapFault)) (names : List (List ℕ)) (before after : RunSeen)
    (tally tally' : Option Counts) (stop : RunEnd) → (stop ≡ end.Whole → ⊥) → CountsBy names (untold before) (untold after) stop → after.sink ≡ before.sink
    → WalksBy script past frames rest (untold before) tally (untold after) tally' stop → SumsUpBy script past number frames rest before after stop
stops_untold script past number frames rest names before after tally tally' end.Whole differs c same h = absurd (differs refl)
stops_untold script past number frames rest names before after tally tally' end.WriteFault differs c same h = absurd (no_rise c.1)
stops_untold script past number frames rest names before after tally tally' end.ReadFault differs c same h = (h, same)
stops_untold script past number frames rest names before after tally tally' end.NoMemory differs c same h = (h, same)
stops_untold script past number frames rest names before after tally tally' (end.Endpoint p) differs c same h = (h, same)
stops_untold script past number frames rest names before after tally tally' (end.Capture n reason) differs c same h = (h, same)

pub stops_summing : (script : ScriptData) (past number : ℕ) (capture : Option ReaderState) (source : SourceSeen) (names : List (List ℕ))
    (before after : RunSeen) (tally tally' : Option Counts) (stop : RunEnd) → (stop ≡ end.Whole → ⊥) → CountsBy names (untold before) (untold after) stop
    → after.sink ≡ before.sink → HasRecords capture source (λ frames rest. WalksBy script past frames rest (untold before) tally (untold after) tally' stop)
    → HasRecords capture source (λ frames rest. SumsUpBy script past number frames rest before after stop)
stops_summing script past number capture source names before after tally tally' stop differs c same h =
    (h.0, h.1, h.2, stops_untold script past number h.0 h.1 names before after tally tally' stop differs c same h.3)

pub counts_untold : (names : List (List ℕ)) (before after : RunSeen) (stop : RunEnd) → CountsBy names (untold before) (untold after) stop → after.sink ≡ before.sink → CountsBy names before after stop
counts_untold names before after end.Whole c same = (c.0, ap (λ (s : SinkSeen). s.faults) same, c.2)
counts_untold names before after end.WriteFault c same = absurd (no_rise c.1)
counts_untold names before after end.ReadFault c same = (c.0, ap (λ (s : SinkSeen). s.faults) same, c.2)
counts_untold names before after end.NoMemory c same = (c.0, ap (λ (s : SinkSeen). s.faults) same, c.2)
counts_untold names before after (end.Endpoint p) c same = (c.0, ap (λ (s : SinkSeen). s.faults) same, c.2)
counts_untold names before after (end.Capture n reason) c same = (c.0, ap (λ (s : SinkSeen). s.faults) same, c.2)

-- the walk was whole, and the summary was written
pub whole_summed : (script : ScriptData) (past number : ℕ) (frames : List (List ℕ)) (rest : Option (Result Next PcapFault)) (before after : RunSeen) (tally : Counts)
    → WalksBy script past frames rest (untold before) (Some (counts_in [])) (untold after) (Some tally) end.Whole
    → Appends before.sink.told after.sink.told (text_of (summary_lines number tally)) → SumsUpBy script past number frames rest before after end.Whole
whole_summed script past number frames rest before after tally h told =
    (h.0, h.1, subst (λ (c : Counts). Writes before after (text_of (summary_lines number c))) (summed tally (entries_of h.0) h.3) told)

captured_frames : (capture : Option ReaderState) (source : SourceSeen) (frames : List (List ℕ)) (rest : Option (Result Next PcapFault)) (captured : Option CaptureSeen)
    → IsReadWhole frames rest captured → AreRecords capture source frames rest → frames_of captured ≡ frames
captured_frames capture source frames None captured h r = ap frames_of h ∙ sym (no_frames capture source frames r)
captured_frames capture source frames (Some (Ok next.End)) captured h r = ap frames_of h
captured_frames capture source frames (Some (Ok (next.Cut n))) captured h r = ap frames_of h
captured_frames capture source frames (Some (Ok next.Packet)) captured h r = absurd h
captured_frames capture source frames (Some (Err wrong)) captured h r = absurd h

-- the walk was whole, and there was no memory then
without_memory : (script : ScriptData) (past : ℕ) (capture : Option ReaderState) (source : SourceSeen) (frames : List (List ℕ))
    (rest : Option (Result Next PcapFault)) (before after : RunSeen) (history : HistorySeen) → AreRecords capture source frames rest
    → IsWhole script frames rest before.ends after.ends history → EndsBy script past frames rest (untold before) (untold after) end.NoMemory
without_memory script past capture source frames rest before after history r w = (
  length script.segments,
  history.segments,
  w.last,
  record {
    there = omega arith;
    run = subst (λ (fs : List (List ℕ)). AreRun script (take (length script.segments) script.segments) (start_with script fs before.ends) history.segments w.last)
        (captured_frames capture source frames rest w.captured w.capture_is r)
        (subst (λ (segments : List Segment). AreRun script segments (start_with script (frames_of w.captured) before.ends) history.segments w.last)
        (sym (take_all (length script.segments) script.segments (omega arith))) w.run.segments);
  },
  tt,
  inl w.ends_are,
  λ there. absurd (omega (arith, there)),
)

-- the walk was whole, and the summary was not written, or not all of it
pub whole_unwritten : (script : ScriptData) (past number : ℕ) (capture : Option ReaderState) (source : SourceSeen) (frames : List (List ℕ))
    (rest : Option (Result Next PcapFault)) (before after : RunSeen) (tally : Counts) (stop : RunEnd) → AreRecords capture source frames rest
    → WalksBy script past frames rest (untold before) (Some (counts_in [])) (untold after) (Some tally) end.Whole
    → Tells before.sink after.sink (text_of (summary_lines number tally)) (Err stop) → SumsUpBy script past number frames rest before after stop
whole_unwritten script past number capture source frames rest before after tally end.WriteFault r h t =
    (h.0, h.1, subst (λ (c : Counts). WritesInto before after [] (text_of (summary_lines number c))) (summed tally (entries_of h.0) h.3) t)
whole_unwritten script past number capture source frames rest before after tally end.NoMemory r h t =
    (without_memory script past capture source frames rest before after h.0 r h.1, t)
whole_unwritten script past number capture source frames rest before after tally end.Whole r h t = absurd t
whole_unwritten script past number capture source frames rest before after tally end.ReadFault r h t = absurd t
whole_unwritten script past number capture source frames rest before after tally (end.Endpoint p) r h t = absurd t
whole_unwritten script past number capture source frames rest before after tally (end.Capture n reason) r h t = absurd t

pub counts_unwritten : (names : List (List ℕ)) (text : List ℕ) (before after : RunSeen) (stop : RunEnd) → CountsBy names (untold before) (untold after) end.Whole
    → Tells before.sink after.sink text (Err stop) → TellsByCount before.sink.faults after.sink.faults (Err stop) → CountsBy names before after stop
counts_unwritten names text before after end.WriteFault c t h = (c.0, h, c.2)
counts_unwritten names text before after end.NoMemory c t h = (c.0, h, c.2)
counts_unwritten names text before after end.Whole c t h = absurd t
counts_unwritten names text before after end.ReadFault c t h = absurd t
counts_unwritten names text before after (end.Endpoint p) c t h = absurd t
counts_unwritten names text before after (end.Capture n reason) c t h = absurd t
