-- What the end of a run over a joined capture rests on.
use Rattle.std.proofs.Common.{◌≡◌, ◌+◌, ℕ, Option, Some, None, List, [], refl, sym, subst, ◌∙◌, inl, inr, IfSome}
use Rattle.std.specs.Prelude.{Result, Ok, Err}
use Rattle.spin_outside.specs.Files.{File, IsWholeFile}
use Rattle.spin_outside.specs.Seen.{ShelfSeen, SinkSeen}
use Rattle.spin_endpoint.specs.Named.{NamedEnd}
use Rattle.spin_pcap.specs.Captures.{IsCapture, header_of}
use Rattle.spin_pcap.specs.Passing.{ReaderState}
use Rattle.spin_pcap.specs.declared.fault.PcapFault.{PcapFault}
use Rattle.spin_pcap.specs.declared.limits.TheConstants.{MAX_HELD}
use Rattle.spin_pcap.specs.declared.next.Next.{Next}
use Rattle.spin_pcap.specs.declared.order.Order.TheVariants as order
use Rattle.spin_reass.proofs.CaptureLemmas.{joined_is_capture}
use Rattle.spin_reass.specs.JoinedCaptures.{IsJoined, IsJoinedCapture}
use Rattle.spin_reass.specs.Joining.{joined_frames}
use Rattle.spin_script.specs.States.{NativeData, ScriptData}
use Rattle.spin_run.specs.declared.end.RunEnd.{RunEnd}
use Rattle.spin_run.specs.declared.end.RunEnd.TheVariants as run
use Rattle.spin_run.specs.Ends.{seen, EndsBy, CountsBy}
use Rattle.spin_run.specs.Records.{AreRecords, room_of}
use Rattle.spin_inputs.specs.declared.end.End.{End}
use Rattle.spin_inputs.specs.declared.end.End.TheVariants.{Capture, NoMemory}
use Rattle.spin_inputs.specs.Captures.{NoWholeBy}
use Rattle.spin_inputs.specs.Ends.{Tells, stop_line}
use Rattle.spin_inputs.specs.Held.{held_seen}
use Rattle.spin_inputs.specs.Holding.{HeaderRefuses, IsBehind}
use Rattle.spin_cli.specs.Inner.Joining.{RunsJoined}
use Rattle.spin_cli.specs.Join.{IsJoinedBy, IsJoinedFile, JoinHasCause, RanJoined}
use Rattle.spin_inputs.specs.Loading.{IsLoaded, NoScriptBy}
use Rattle.spin_inputs.specs.Outside.{OnlyStops, Outside}
use Rattle.spin_cli.specs.Run.{end_of}
use Rattle.spin_inputs.specs.Shelves.{ShelfStood}
use Rattle.spin_cli.proofs.MemoryCaptures.{good_not_bad, records_left}
use Rattle.spin_cli.proofs.RunCauses.{ends_moved, none_taken}
use Rattle.spin_inputs.proofs.ShelfLemmas.{stood_stood}
use Rattle.spin_inputs.proofs.Stages.{whole_behind}

-- ---- stops before the run

pub not_loaded : (natives : NativeData) (before after : Outside) (name packets : List ℕ) (end : End)
    → NoScriptBy natives before.shelf after.shelf name end → OnlyStops before after end → JoinHasCause natives before after name packets end
not_loaded natives before after name packets end by only = inl (inl by, only)

pub not_joined : (natives : NativeData) (before after : Outside) (mid : ShelfSeen) (name packets : List ℕ) (script : ScriptData) (end : End) → ShelfStood before.shelf mid
    → IsLoaded natives before.shelf.files name script → NoWholeBy mid after.shelf (Some packets) end → OnlyStops before after end → JoinHasCause natives before after name packets end
not_joined natives before after mid name packets script end stood loaded by only =
    inl (inr ((script, loaded), whole_behind before.shelf mid after.shelf (Some packets) end stood by), only)

file_joined : (files : Option (List File)) (name : List ℕ) (left : Option (List ℕ)) (bytes : List ℕ) → IsWholeFile files name left
    → IfSome left (λ file. IsJoined file (Ok bytes)) → IfSome files (λ held. IsJoinedFile held name bytes)
file_joined None name left bytes whole joined = tt
file_joined (Some held) name left bytes whole joined =
    let P : Option (List ℕ) → Type 0 = λ o. IfSome o (λ file. IsJoined file (Ok bytes)) in
    let is = subst P whole.2 joined in
    record {
      frames = is.1;
      last = is.2;
      file = record { bytes = whole.0; found = whole.1; order = is.0; capture = is.3 };
      bytes_are = is.4;
    }

-- a file that was found, and read whole
pub joined_by : (before mid after : ShelfSeen) (file : ℕ) (name bytes : List ℕ) → ShelfStood before mid
    → IsWholeFile before.files name (mid.left file) → IfSome (mid.left file) (λ text. IsJoined text (Ok bytes))
    → after.files ≡ mid.files → after.absences ≡ mid.absences → after.faults ≡ mid.faults → IsJoinedBy before after name bytes
joined_by before mid after file name bytes stood whole joined files absences faults =
    (record { files = files ∙ stood.files; faults = faults ∙ stood.faults; absences = absences ∙ stood.absences }, file_joined before.files name (mid.left file) bytes whole joined)

-- a joined capture is a good capture
pub joined_good : (bytes : List ℕ) (is : IsJoinedCapture bytes) → IsCapture bytes order.Little (joined_frames [] is.1.1) (Ok is.1.2)
joined_good bytes is =
    subst (λ b. IsCapture b order.Little (joined_frames [] is.1.1) (Ok is.1.2)) (sym is.1.4) (joined_is_capture is.0 is.1.0 is.1.1 is.1.2 is.1.3)

joined_at : (mid shelf : ShelfSeen) (files : Option (List File)) (packets bytes : List ℕ) → mid.files ≡ files
    → IsJoinedBy mid shelf packets bytes → IfSome files (λ held. IsJoinedFile held packets bytes)
joined_at mid shelf files packets bytes same by = subst (λ f. IfSome f (λ held. IsJoinedFile held packets bytes)) same by.1

pub not_behind : (natives : NativeData) (before after : Outside) (mid : ShelfSeen) (name packets bytes : List ℕ) (script : ScriptData) (end : End)
    → ShelfStood before.shelf mid → IsLoaded natives before.shelf.files name script → IsJoinedBy mid after.shelf packets bytes
    → IsJoinedCapture bytes → HeaderRefuses bytes end → OnlyStops before after end → JoinHasCause natives before after name packets end
not_behind natives before after mid name packets bytes script (Capture number fault) stood loaded joined good refused only =
    absurd (good_not_bad order.Little refused.1 (header_of bytes) (joined_good bytes good).header refused.3)
not_behind natives before after mid name packets bytes script NoMemory stood loaded joined good refused only =
    inl (inr ((script, loaded), stood_stood before.shelf mid after.shelf stood joined.0), only)
not_behind natives before after mid name packets bytes script other stood loaded joined good refused only = absurd refused

-- ---- the run

ok_not_err : (last : Next) (wrong : PcapFault) (r : Option (Result Next PcapFault)) → r ≡ Some (Ok last) → r ≡ Some (Err wrong) → ⊥
ok_not_err last wrong r a b = cc

-- over the records of a joined capture no run ends at a bad record
pub not_bad : (natives : NativeData) (before after : Outside) (name packets : List ℕ) (number fault : ℕ) (ended : RunEnd)
    → ended ≡ run.Capture number fault → RanJoined natives before after name packets ended → ⊥
not_bad natives before after name packets number fault ended is ran =
    let frames : List (List ℕ) = joined_frames [] ran.good.1.1 in
    let last : Next = ran.good.1.2 in
    let by : EndsBy ran.over.script (24 + MAX_HELD) frames (Some (Ok last)) (seen (held_seen ran.left) before.sink before.ends)
    (seen (held_seen ran.left') ran.over.sink after.ends) (run.Capture number fault) =
    subst (λ e. EndsBy ran.over.script (24 + MAX_HELD) frames (Some (Ok last)) (seen (held_seen ran.left) before.sink before.ends) (seen (held_seen ran.left') ran.over.sink after.ends) e) is
    (ran.over.ended_so frames (Some (Ok last)) (Ok last, refl, order.Little, joined_good ran.bytes ran.good)) in
    ok_not_err last by.0 (Some (Ok last)) refl by.1

pub was_joined : (natives : NativeData) (before after : Outside) (mid : ShelfSeen) (sink : SinkSeen) (name packets bytes left : List ℕ) (script : ScriptData) (reader : ReaderState) (ended : RunEnd)
    → ShelfStood before.shelf mid → IsLoaded natives before.shelf.files name script → IsJoinedBy mid after.shelf packets bytes → IsJoinedCapture bytes → IsBehind bytes left reader
    → RunsJoined script left reader before.sink before.ends sink after.ends ended → Tells sink after.sink (stop_line (end_of ended)) → JoinHasCause natives before after name packets (end_of ended)
was_joined natives before after mid sink name packets bytes left script reader ended stood loaded joined good behind over line =
    let from = held_seen left in
    let to = held_seen over.left' in
    inr (
      ended,
      refl,
      record {
        stood = stood_stood before.shelf mid after.shelf stood joined.0;
        bytes = bytes;
        joined = joined_at mid after.shelf before.shelf.files packets bytes stood.files joined;
        good = good;
        left = left;
        left' = over.left';
        over = record {
          script = script;
          loaded = loaded;
          sink = sink;
          ended_so = λ frames rest are.
              let by = over.ended_so frames rest (records_left bytes left reader frames rest behind are) in
              ends_moved script (room_of (Some reader)) (24 + MAX_HELD) frames rest (seen from before.sink before.ends) (seen to sink after.ends) from to ended
              (λ fs taken. none_taken (24 + MAX_HELD) None None from to fs refl refl refl) by;
          counts = over.counts;
          line = line;
        };
      },
    )

pub over_known : (script : ScriptData) (left left' : List ℕ) (reader : ReaderState) (sink sink' : SinkSeen) (ends ends' : List NamedEnd) (ended : RunEnd)
    → ((frames : List (List ℕ)) (rest : Option (Result Next PcapFault)) → AreRecords (Some reader) (held_seen left) frames rest
    → EndsBy script (room_of (Some reader)) frames rest (seen (held_seen left) sink ends) (seen (held_seen left') sink' ends') ended)
    → CountsBy script.endpoints (seen (held_seen left) sink ends) (seen (held_seen left') sink' ends') ended
    → RunsJoined script left reader sink ends sink' ends' ended
over_known script left left' reader sink sink' ends ends' ended by counts = record { left' = left'; ended_so = by; counts = counts }
