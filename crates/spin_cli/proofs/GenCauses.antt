-- What the end of a summary rests on, and which status it always comes to.
use Rattle.std.proofs.Common.{◌≡◌, ◌⊎◌, ◌+◌, ℕ, Option, Some, None, List, refl, sym, ap, subst, ◌∙◌, inl, inr}
use Rattle.std.specs.Prelude.{Result, Ok, Err}
use Rattle.spin_outside.specs.Counts.{Rose}
use Rattle.spin_outside.specs.Seen.{SinkSeen}
use Rattle.spin_endpoint.specs.Named.{NamedEnd}
use Rattle.spin_pcap.specs.Captures.{header_of}
use Rattle.spin_pcap.specs.Passing.{ReaderState}
use Rattle.spin_pcap.specs.declared.fault.PcapFault.{PcapFault}
use Rattle.spin_pcap.specs.declared.limits.TheConstants.{MAX_HELD}
use Rattle.spin_pcap.specs.declared.next.Next.{Next}
use Rattle.spin_pcap.specs.declared.next.Next.TheVariants as next
use Rattle.spin_pcap.specs.declared.order.Order.TheVariants as order
use Rattle.spin_script.proofs.OutcomeUniqueness.{one_outcome}
use Rattle.spin_script.specs.Language.{IsScript}
use Rattle.spin_script.specs.Scripts.{IsBad}
use Rattle.spin_script.specs.declared.script.ScriptFault.TheVariants as fault
use Rattle.spin_script.specs.States.{NativeData, ScriptData}
use Rattle.spin_gen.specs.Laws.{IsReadAsCapture, IsReadAsScript}
use Rattle.spin_gen.specs.Texts.{packets_of, script_of}
use Rattle.spin_run.specs.declared.end.RunEnd.{RunEnd}
use Rattle.spin_run.specs.declared.end.RunEnd.TheVariants as run
use Rattle.spin_run.specs.Ends.{RunSeen, seen, CountsBy}
use Rattle.spin_run.specs.Records.{AreRecords, IsTakenPast, room_of}
use Rattle.spin_run.specs.Summaries.{SumsUpBy, untold}
use Rattle.spin_inputs.specs.declared.end.End.{End}
use Rattle.spin_inputs.specs.declared.end.End.TheVariants.{Capture, NoMemory}
use Rattle.spin_inputs.specs.Ends as ends
use Rattle.spin_inputs.specs.Ends.{Tells, stop_line}
use Rattle.spin_cli.specs.Gen.{GenHasCause, GenKnows, RanMade}
use Rattle.spin_inputs.specs.Held.{held_seen}
use Rattle.spin_inputs.specs.Holding.{HeaderRefuses, IsBehind}
use Rattle.spin_cli.specs.Inner.Making.{RunsMade}
use Rattle.spin_inputs.specs.Outside.{OnlyStops, Outside}
use Rattle.spin_cli.specs.Run.{end_of}
use Rattle.spin_cli.proofs.MemoryCaptures.{good_not_bad, never, records_left}
use Rattle.spin_inputs.proofs.ShelfLemmas.{tells_nothing}
use Rattle.spin_cli.proofs.RunCauses.{ends_moved, none_taken}

-- ---- what is made

-- a script that was made isn't bad
pub never_refused : (natives : NativeData) (text : List ℕ) (line cause : ℕ) → IsReadAsScript natives text → IsBad natives text (fault.Bad line cause) → ⊥
never_refused natives text line cause made bad = one_outcome natives text (Ok made.script) (Err (line, bad.0)) made.read bad.1

-- and only want of memory keeps the header of a capture that was made from being read
pub not_behind : (natives : NativeData) (before after : Outside) (number : ℕ) (end : End) → after.shelf ≡ before.shelf → IsReadAsCapture (packets_of number)
    → HeaderRefuses (packets_of number) end → OnlyStops before after end → GenHasCause natives before after number end
not_behind natives before after number (Capture at fault) same made refused only =
    absurd (good_not_bad order.Little refused.1 (header_of (packets_of number)) made.capture.header refused.3)
not_behind natives before after number NoMemory same made refused only = (same, inl (refl, only))
not_behind natives before after number other same made refused only = absurd refused

-- ---- the run

-- the capture that was made has no bad record
never_bad : (wrong : PcapFault) (r : Option (Result Next PcapFault)) → r ≡ Some (Ok next.End) → r ≡ Some (Err wrong) → ⊥
never_bad wrong r good bad = cc

-- a source that tells nothing of what was taken
sums_moved : (script : ScriptData) (past past' number : ℕ) (frames : List (List ℕ)) (rest : Option (Result Next PcapFault)) (a b : RunSeen) (ended : RunEnd)
    → ((fs : List (List ℕ)) → IsTakenPast past' a.source b.source fs) → SumsUpBy script past number frames rest a b ended → SumsUpBy script past' number frames rest a b ended
sums_moved script past past' number frames rest a b run.Whole none h = h
sums_moved script past past' number frames rest a b run.WriteFault none h = h
sums_moved script past past' number frames rest a b (run.Capture n fault) none h =
    (ends_moved script past past' frames rest (untold a) (untold b) a.source b.source (run.Capture n fault) (λ fs _. none fs) h.0, h.1)
sums_moved script past past' number frames rest a b run.ReadFault none h =
    (ends_moved script past past' frames rest (untold a) (untold b) a.source b.source run.ReadFault (λ fs _. none fs) h.0, h.1)
sums_moved script past past' number frames rest a b run.NoMemory none h =
    (ends_moved script past past' frames rest (untold a) (untold b) a.source b.source run.NoMemory (λ fs _. none fs) h.0, h.1)
sums_moved script past past' number frames rest a b (run.Endpoint n) none h =
    (ends_moved script past past' frames rest (untold a) (untold b) a.source b.source (run.Endpoint n) (λ fs _. none fs) h.0, h.1)

pub over_known : (script : ScriptData) (number : ℕ) (left left' : List ℕ) (reader : ReaderState) (sink sink' : SinkSeen) (ends ends' : List NamedEnd) (ended : RunEnd)
    → ((frames : List (List ℕ)) (rest : Option (Result Next PcapFault)) → AreRecords (Some reader) (held_seen left) frames rest
    → SumsUpBy script (room_of (Some reader)) number frames rest (seen (held_seen left) sink ends) (seen (held_seen left') sink' ends') ended)
    → CountsBy script.endpoints (seen (held_seen left) sink ends) (seen (held_seen left') sink' ends') ended → RunsMade script number left reader sink ends sink' ends' ended
over_known script number left left' reader sink sink' ends ends' ended by counts = record { left' = left'; ended_so = by; counts = counts }

pub was_made : (natives : NativeData) (before after : Outside) (number : ℕ) (sink : SinkSeen) (script : ScriptData) (left : List ℕ) (reader : ReaderState) (ended : RunEnd)
    → after.shelf ≡ before.shelf → IsScript natives (script_of number) (Ok script) → IsReadAsCapture (packets_of number) → IsBehind (packets_of number) left reader
    → RunsMade script number left reader before.sink before.ends sink after.ends ended → Tells sink after.sink (stop_line (end_of ended)) → GenHasCause natives before after number (end_of ended)
was_made natives before after number sink script left reader ended same read made behind over line =
    let from = held_seen left in
    let to = held_seen over.left' in
    let sums =
    over.ended_so made.frames (Some (Ok next.End)) (records_left (packets_of number) left reader made.frames (Some (Ok next.End)) behind (Ok next.End, refl, order.Little, made.capture)) in (
      same,
      inr (
        ended,
        refl,
        record {
          script = script;
          read = read;
          frames = made.frames;
          capture = made.capture;
          left = left;
          left' = over.left';
          sink = sink;
          ended_so =
              sums_moved script (room_of (Some reader)) (24 + MAX_HELD) number made.frames (Some (Ok next.End)) (seen from before.sink before.ends) (seen to sink after.ends) ended
              (λ fs. none_taken (24 + MAX_HELD) None None from to fs refl refl refl) sums;
          counts = over.counts;
          line = line;
        },
      ),
    )

-- ---- the status

ran_known : (natives : NativeData) (before after : Outside) (number status : ℕ) (end : End) (ended : RunEnd)
    → status ≡ ends.exit_status end → end ≡ end_of ended → RanMade natives before after number ended → GenKnows before after status
ran_known natives before after number status end run.Whole is same ran calm = inl (is ∙ ap ends.exit_status same)
ran_known natives before after number status end (run.Capture at fault) is same ran calm = absurd (never_bad ran.ended_so.0.0 (Some (Ok next.End)) refl ran.ended_so.0.1)
ran_known natives before after number status end run.ReadFault is same ran calm = absurd (never ran.counts.0)
ran_known natives before after number status end run.WriteFault is same ran calm =
    absurd (calm.sink (subst (λ n. Rose before.sink.faults n) (sym (tells_nothing ran.sink after.sink ran.line)) ran.counts.1))
ran_known natives before after number status end run.NoMemory is same ran calm = inr (is ∙ ap ends.exit_status same)
ran_known natives before after number status end (run.Endpoint at) is same ran calm =
    let rose = ran.counts.2 in
    absurd (calm.ends rose.place rose.there rose.rose)

-- nothing was made, or it was run
made_known : (natives : NativeData) (before after : Outside) (number status : ℕ) (end : End) → status ≡ ends.exit_status end
    → ((end ≡ NoMemory) × OnlyStops before after NoMemory) ⊎ ((ended : RunEnd) × (end ≡ end_of ended) × RanMade natives before after number ended) → GenKnows before after status
made_known natives before after number status end is (inl none) = λ calm. inr (is ∙ ap ends.exit_status none.0)
made_known natives before after number status end is (inr ran) = ran_known natives before after number status end ran.0 is ran.1 ran.2

pub gen_known : (natives : NativeData) (before after : Outside) (number status : ℕ) (end : End)
    → status ≡ ends.exit_status end → GenHasCause natives before after number end → GenKnows before after status
gen_known natives before after number status end is cause = made_known natives before after number status end is cause.1
