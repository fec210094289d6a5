-- What the end of a run rests on: what was done before it.
use Rattle.std.proofs.Common.{◌≡◌, ◌+◌, ℕ, Option, Some, None, List, [], length, drop, refl, sym, ap, subst, ◌∙◌, arith, inl, inr, IfSome}
use Rattle.std.specs.Prelude.{Result, Ok, ◌≢◌}
use Rattle.spin_outside.specs.Counts.{Rose}
use Rattle.spin_outside.specs.Files.{File, content, OthersKeep}
use Rattle.spin_outside.specs.Seen.{ShelfSeen, SinkSeen}
use Rattle.spin_outside.specs.Sources.{SourceSeen, file_seen, taken_more, told_reads}
use Rattle.spin_endpoint.specs.Named.{NamedEnd}
use Rattle.spin_pcap.specs.Captures.{IsBody, header_of}
use Rattle.spin_pcap.specs.Passing.{IsFresh, ReaderState, left_for}
use Rattle.spin_pcap.specs.declared.fault.PcapFault.{PcapFault}
use Rattle.spin_pcap.specs.declared.limits.TheConstants.{MAX_HELD}
use Rattle.spin_pcap.specs.declared.next.Next.{Next}
use Rattle.spin_pcap.specs.declared.order.Order.{Order}
use Rattle.spin_script.specs.States.{NativeData, ScriptData}
use Rattle.spin_run.specs.declared.end.RunEnd.{RunEnd}
use Rattle.spin_run.specs.declared.end.RunEnd.TheVariants as run
use Rattle.spin_run.specs.Ends.{RunSeen, seen, EndsBy, CountsBy}
use Rattle.spin_run.specs.Records.{AreBytesLeft, AreLeftBy, AreRecords, HasRecords, IsTakenPast, room_of}
use Rattle.spin_inputs.specs.declared.end.End.{End}
use Rattle.spin_inputs.specs.Captures.{AreBytesOf, AreOpened, AreRecordsOf, IsBehindHeader, IsOpened, IsTakenUnder, NoCaptureBy}
use Rattle.spin_inputs.specs.Ends.{Tells, stop_line}
use Rattle.spin_cli.specs.Inner.Running.{RunsOver}
use Rattle.spin_inputs.specs.Loading.{IsLoaded, NoScriptBy}
use Rattle.spin_inputs.specs.Shelves.{ReadsOnly, ShelfStood}
use Rattle.spin_inputs.specs.Outside.{OnlyStops, Outside, outside}
use Rattle.spin_cli.specs.Run.{RunHasCause, ShelfBy, end_of}
use Rattle.spin_pcap.proofs.Making.{some_file}
use Rattle.spin_pcap.proofs.SourceBytes.{more_none, more_twice}
use Rattle.spin_pcap.proofs.CaptureUniqueness.{one_reading}
use Rattle.spin_cli.proofs.ScriptBytes.{script_no_capture}
use Rattle.spin_inputs.proofs.OpenedCaptures.{still_named}
use Rattle.spin_inputs.proofs.ShelfLemmas.{stood_failed, stood_stood}
use Rattle.spin_inputs.proofs.Stages.{opened_behind}

-- ---- stops before the run

pub not_loaded : (natives : NativeData) (before after : Outside) (name : List ℕ) (packets : Option (List ℕ)) (end : End)
    → NoScriptBy natives before.shelf after.shelf name end → OnlyStops before after end → RunHasCause natives before after name packets end
not_loaded natives before after name packets end by only = inl (inl by, only)

pub not_opened : (natives : NativeData) (before after : Outside) (mid : ShelfSeen) (name : List ℕ) (packets : Option (List ℕ)) (script : ScriptData) (end : End) → ShelfStood before.shelf mid
    → IsLoaded natives before.shelf.files name script → NoCaptureBy mid after.shelf packets end → OnlyStops before after end → RunHasCause natives before after name packets end
not_opened natives before after mid name packets script end stood loaded by only =
    inl (inr ((script, loaded), opened_behind before.shelf mid after.shelf packets end stood by), only)

-- ---- the run

some_is : {X : Type 0} (x y : X) → Some x ≡ Some y → x ≡ y
some_is x y same = cc

-- the bytes of a file whose header was read are those that the shelf tells, or else some
abbrev HasRead : Option (List File) → List ℕ → Order → List ℕ → Type 0
HasRead files name order behind =
    (bytes : List ℕ) × (drop 24 bytes ≡ behind) × (header_of bytes ≡ Ok order) × IfSome files (λ held. content held name ≡ Some bytes)

file_read : (before after : ShelfSeen) (name : List ℕ) (file : ℕ) (reader : ReaderState) (files : Option (List File)) (behind : List ℕ) → before.files ≡ files
    → IsOpened before after name file reader → IfSome (left_for reader.held (after.left file)) (λ told. told ≡ behind) → HasRead files name reader.order behind
file_read before after name file reader None behind told opened left =
    let made = some_file reader.order behind in
    (made.0, made.2, made.1, tt)
file_read before after name file reader (Some held) behind told opened left =
    let is : IsBehindHeader held before after name file reader = subst (λ f. IfSome f (λ held. IsBehindHeader held before after name file reader)) told opened.behind in
    (is.bytes, subst (λ o. IfSome o (λ told. told ≡ behind)) is.left left, is.header, is.found)

-- the bytes of the capture, if one is named, and its records
abbrev HasBytes : Option (List File) → Option (List ℕ) → List (List ℕ) → Option (Result Next PcapFault) → Type 0
HasBytes files packets frames rest = (bytes : List ℕ) × AreBytesOf files packets bytes × AreRecordsOf packets bytes frames rest

opened_bytes : (before after : ShelfSeen) (packets : Option (List ℕ)) (file : ℕ) (reader : Option ReaderState) (ref : ℕ) (frames : List (List ℕ)) (rest : Option (Result Next PcapFault))
    → AreOpened before after packets file reader → AreRecords reader (file_seen after file ref) frames rest → HasBytes before.files packets frames rest
opened_bytes before after None file None ref frames rest opened are = ([], tt, are)
opened_bytes before after None file (Some reader) ref frames rest opened are = absurd opened
opened_bytes before after (Some name) file None ref frames rest opened are = absurd opened
opened_bytes before after (Some name) file (Some reader) ref frames rest opened are =
    let left : AreBytesLeft reader (after.left file) frames are.0 = subst (λ s. AreLeftBy s reader (after.left file) frames are.0) opened.fresh.1 are.2 in
    let read = file_read before after name file reader before.files left.bytes refl opened left.told in
    let body : IsBody reader.order 0 (drop 24 read.0) frames are.0 = subst (λ (n : ℕ × List ℕ). IsBody reader.order n.0 n.1 frames are.0) (λ i. (opened.fresh.0 i, sym read.1 i)) left.body in
    (read.0, record { order = reader.order; header = read.2; found = read.3 }, (are.0, are.1, reader.order, record { header = read.2; body = body }))

-- bytes have just these records
one_records : (packets : Option (List ℕ)) (bytes : List ℕ) (frames frames' : List (List ℕ)) (rest rest' : Option (Result Next PcapFault))
    → AreRecordsOf packets bytes frames rest → AreRecordsOf packets bytes frames' rest' → (frames ≡ frames') × (rest ≡ rest')
one_records None bytes frames frames' rest rest' are are' = (are.0 ∙ sym are'.0, are.1 ∙ sym are'.1)
one_records (Some name) bytes frames frames' rest rest' are are' =
    let one = one_reading bytes are.2 are'.2 frames frames' are.0 are'.0 are.3 are'.3 in
    (one.1, are.1 ∙ ap Some one.2 ∙ sym are'.1)

opened_stood : (before after : ShelfSeen) (packets : Option (List ℕ)) (file : ℕ) (reader : Option ReaderState) → AreOpened before after packets file reader → ShelfStood before after
opened_stood before after None file None opened = opened
opened_stood before after None file (Some reader) opened = absurd opened
opened_stood before after (Some name) file None opened = absurd opened
opened_stood before after (Some name) file (Some reader) opened = opened.stood

pub fresh_known : (before after : ShelfSeen) (packets : Option (List ℕ)) (file : ℕ) (reader : Option ReaderState) → AreOpened before after packets file reader → IfSome reader IsFresh
fresh_known before after None file None opened = tt
fresh_known before after None file (Some reader) opened = absurd opened
fresh_known before after (Some name) file None opened = absurd opened
fresh_known before after (Some name) file (Some reader) opened = opened.fresh

shelf_stood : (mid after : ShelfSeen) (file file' ref ref' : ℕ) → (file_seen after file' ref').keep ≡ (file_seen mid file ref).keep → after.faults ≡ mid.faults → ShelfStood mid after
shelf_stood mid after file file' ref ref' kept faults = record { files = ap (λ k. k.files) kept; faults = faults; absences = ap (λ k. k.absences) kept }

-- what a run that ended so did to the shelf
shelf_by : (names : List (List ℕ)) (before after : Outside) (mid : ShelfSeen) (sink : SinkSeen) (file file' ref ref' : ℕ) (ended : RunEnd)
    → ShelfStood before.shelf mid → (file_seen after.shelf file' ref').keep ≡ (file_seen mid file ref).keep
    → CountsBy names (seen (file_seen mid file ref) before.sink before.ends) (seen (file_seen after.shelf file' ref') sink after.ends) ended → ShelfBy before.shelf after.shelf ended
shelf_by names before after mid sink file file' ref ref' run.ReadFault stood kept counts =
    stood_failed before.shelf mid after.shelf stood (record { files = ap (λ k. k.files) kept; faults = counts.0; absences = ap (λ k. k.absences) kept })
shelf_by names before after mid sink file file' ref ref' other stood kept counts =
    stood_stood before.shelf mid after.shelf stood (shelf_stood mid after.shelf file file' ref ref' kept counts.0)

-- ---- what was read of the capture

-- the source, where so much was taken of it as was read under the name of the capture
abbrev from_of : ShelfSeen → SourceSeen → Option (List ℕ) → SourceSeen
from_of shelf source packets = record source { taken = told_reads shelf.files packets shelf.reads }

told_in : (files : Option (List File)) (name : List ℕ) (reads : List ℕ → ℕ) (n : ℕ) → reads name ≡ n → IfSome files (λ _. told_reads files (Some name) reads ≡ Some n)
told_in None name reads n is = tt
told_in (Some held) name reads n is = ap Some is

taken_to : (after : ShelfSeen) (source : SourceSeen) (packets : Option (List ℕ)) → IsTakenUnder packets after (from_of after source packets)
taken_to after source None = tt
taken_to after source (Some name) = told_in after.files name after.reads (after.reads name) refl

kept_reads_of : (before loaded : ShelfSeen) (name capture : List ℕ) (files : Option (List File)) → loaded.files ≡ files → ((held : List File) → files ≡ Some held → Some capture ≢ Some name)
    → IfSome files (λ _. OthersKeep before.reads loaded.reads name) → IfSome files (λ _. told_reads loaded.files (Some capture) loaded.reads ≡ Some (before.reads capture))
kept_reads_of before loaded name capture None told other reads = tt
kept_reads_of before loaded name capture (Some held) told other reads =
    ap (λ f. told_reads f (Some capture) loaded.reads) told ∙ ap Some (reads capture (λ same. other held refl (ap Some same)))

taken_from : (before loaded : ShelfSeen) (source : SourceSeen) (name : List ℕ) (packets : Option (List ℕ)) → loaded.files ≡ before.files
    → ((held : List File) → before.files ≡ Some held → packets ≢ Some name) → ReadsOnly before loaded name → IsTakenUnder packets before (from_of loaded source packets)
taken_from before loaded source name None files other reads = tt
taken_from before loaded source name (Some capture) files other reads = kept_reads_of before loaded name capture before.files files other reads

-- where the shelf tells its files, the script and the capture aren't one file
apart : (natives : NativeData) (files : Option (List File)) (held : List File) (name : List ℕ) (packets : Option (List ℕ)) (script : ScriptData)
    → files ≡ Some held → IsLoaded natives files name script → (bytes : List ℕ) → AreBytesOf files packets bytes → packets ≢ Some name
apart natives files held name None script told loaded bytes is same = cc
apart natives files held name (Some capture) script told loaded bytes is same =
    let read : content held name ≡ Some loaded.text = subst (λ f. IfSome f (λ held. content held name ≡ Some loaded.text)) told loaded.read in
    let found : content held capture ≡ Some bytes = subst (λ f. IfSome f (λ held. content held capture ≡ Some bytes)) told is.found in
    let text : bytes ≡ loaded.text = some_is _ _ (sym found ∙ ap (content held) (some_is capture name same) ∙ read) in
    script_no_capture natives loaded.text script is.order loaded.reads (subst (λ b. header_of b ≡ Ok is.order) text is.header)

pub none_taken : (past : ℕ) (a b : Option ℕ) (from to : SourceSeen) (frames : List (List ℕ)) → from.taken ≡ a → to.taken ≡ b → b ≡ taken_more a 0 → IsTakenPast past from to frames
none_taken past a b from to frames is is' same = record {
  count = 0;
  few = omega arith;
  taken = is' ∙ same ∙ ap (λ t. taken_more t 0) (sym is);
}

-- the header was read before the run, with what the reader held then
past_told : (loaded found after : ShelfSeen) (held : List File) (name : List ℕ) (file file' ref ref' : ℕ) (reader : ReaderState) → loaded.files ≡ Some held
    → found.files ≡ Some held → IsBehindHeader held loaded found name file reader → IsFresh reader → (file_seen after file' ref').keep ≡ (file_seen found file ref).keep
    → (frames : List (List ℕ)) → IsTakenPast (room_of (Some reader)) (file_seen found file ref) (file_seen after file' ref') frames
    → IsTakenPast (24 + MAX_HELD) (from_of loaded (file_seen found file ref) (Some name)) (from_of after (file_seen after file' ref') (Some name)) frames
past_told loaded found after held name file file' ref ref' reader told told' behind fresh kept frames p =
    let same : file' ≡ file = ap (λ k. k.file) kept in
    let files : after.files ≡ Some held = ap (λ k. k.files) kept ∙ told' in
    let named : after.found_as file ≡ Some name =
    still_named found after held name file ref ref' told' behind.named (subst (λ f. (file_seen after f ref').keep ≡ (file_seen found file ref).keep) same kept) in
    let to_is : (file_seen after file' ref').taken ≡ Some (after.reads name) =
    ap (λ f. told_reads after.files (after.found_as f) after.reads) same ∙ ap (λ f. told_reads f (after.found_as file) after.reads) files ∙ ap (λ o. told_reads (Some held) o after.reads) named in
    let from_is : (file_seen found file ref).taken ≡ Some (found.reads name) =
    ap (λ f. told_reads f (found.found_as file) found.reads) told' ∙ ap (λ o. told_reads (Some held) o found.reads) behind.named in
    let now_is : told_reads after.files (Some name) after.reads ≡ Some (after.reads name) = ap (λ f. told_reads f (Some name) after.reads) files in
    let before_is : told_reads loaded.files (Some name) loaded.reads ≡ Some (loaded.reads name) = ap (λ f. told_reads f (Some name) loaded.reads) told in
    record {
      count = 24 + length reader.held + p.count;
      few = omega (arith, p.few, fresh.2);
      taken = now_is ∙ sym to_is ∙ p.taken ∙ ap (λ t. taken_more t p.count) (from_is ∙ ap Some behind.under)
          ∙ more_twice (Some (loaded.reads name)) (24 + length reader.held) p.count ∙ ap (λ t. taken_more t (24 + length reader.held + p.count)) (sym before_is);
    }

past_opened : (loaded found after : ShelfSeen) (name : List ℕ) (file file' ref ref' : ℕ) (reader : ReaderState) (files : Option (List File))
    → loaded.files ≡ files → IsOpened loaded found name file reader → (file_seen after file' ref').keep ≡ (file_seen found file ref).keep
    → (frames : List (List ℕ)) → IsTakenPast (room_of (Some reader)) (file_seen found file ref) (file_seen after file' ref') frames
    → IsTakenPast (24 + MAX_HELD) (from_of loaded (file_seen found file ref) (Some name)) (from_of after (file_seen after file' ref') (Some name)) frames
past_opened loaded found after name file file' ref ref' reader None told opened kept frames p =
    none_taken (24 + MAX_HELD) None None (from_of loaded (file_seen found file ref) (Some name)) (from_of after (file_seen after file' ref') (Some name)) frames
    (ap (λ f. told_reads f (Some name) loaded.reads) told) (ap (λ f. told_reads f (Some name) after.reads) (ap (λ k. k.files) kept ∙ opened.stood.files ∙ told)) refl
past_opened loaded found after name file file' ref ref' reader (Some held) told opened kept frames p =
    let behind : IsBehindHeader held loaded found name file reader = subst (λ f. IfSome f (λ held. IsBehindHeader held loaded found name file reader)) told opened.behind in
    past_told loaded found after held name file file' ref ref' reader told (opened.stood.files ∙ told) behind opened.fresh kept frames p

none_read : (files : Option (List File)) (reads reads' : List ℕ → ℕ) → told_reads files None reads' ≡ taken_more (told_reads files None reads) 0
none_read None reads reads' = refl
none_read (Some held) reads reads' = more_none (Some 0)

past_header : (loaded found after : ShelfSeen) (packets : Option (List ℕ)) (file file' ref ref' : ℕ) (reader : Option ReaderState) → AreOpened loaded found packets file reader
    → (file_seen after file' ref').keep ≡ (file_seen found file ref).keep → (frames : List (List ℕ)) → IsTakenPast (room_of reader) (file_seen found file ref) (file_seen after file' ref') frames
    → IsTakenPast (24 + MAX_HELD) (from_of loaded (file_seen found file ref) packets) (from_of after (file_seen after file' ref') packets) frames
past_header loaded found after None file file' ref ref' None opened kept frames p =
    let files : after.files ≡ loaded.files = ap (λ k. k.files) kept ∙ opened.files in
    none_taken (24 + MAX_HELD) (told_reads loaded.files None loaded.reads) (told_reads loaded.files None after.reads) (from_of loaded (file_seen found file ref) None)
    (from_of after (file_seen after file' ref') None) frames refl (ap (λ f. told_reads f None after.reads) files) (none_read loaded.files loaded.reads after.reads)
past_header loaded found after None file file' ref ref' (Some reader) opened kept frames p = absurd opened
past_header loaded found after (Some name) file file' ref ref' None opened kept frames p = absurd opened
past_header loaded found after (Some name) file file' ref ref' (Some reader) opened kept frames p =
    past_opened loaded found after name file file' ref ref' reader loaded.files refl opened kept frames p

-- the end of a run, as other sources tell what was taken
pub ends_moved : (script : ScriptData) (past past' : ℕ) (frames : List (List ℕ)) (rest : Option (Result Next PcapFault)) (a b : RunSeen) (from to : SourceSeen) (ended : RunEnd)
    → ((fs : List (List ℕ)) → IsTakenPast past a.source b.source fs → IsTakenPast past' from to fs)
    → EndsBy script past frames rest a b ended → EndsBy script past' frames rest (seen from a.sink a.ends) (seen to b.sink b.ends) ended
ends_moved script past past' frames rest a b from to run.Whole move h = h
ends_moved script past past' frames rest a b from to (run.Capture n fault) move h = h
ends_moved script past past' frames rest a b from to run.ReadFault move h =
    (h.0, h.1, h.2, h.3, h.4, h.5, h.6, λ there le. move _ (h.7 there le))
ends_moved script past past' frames rest a b from to run.WriteFault move (inl h) = inl (h.0, h.1, move [] h.2)
ends_moved script past past' frames rest a b from to run.WriteFault move (inr (inl h)) =
    inr (inl (h.0, h.1, h.2, h.3, h.4, h.5, h.6, h.7, h.8, λ there le. move _ (h.9 there le)))
ends_moved script past past' frames rest a b from to run.WriteFault move (inr (inr h)) = inr (inr h)
ends_moved script past past' frames rest a b from to run.NoMemory move h =
    (h.0, h.1, h.2, h.3, h.4, h.5, λ there le. move _ (h.6 there le))
ends_moved script past past' frames rest a b from to (run.Endpoint p) move h =
    (h.0, h.1, h.2, h.3, h.4, h.5, h.6, h.7, h.8, λ there le. move _ (h.9 there le))

pub counts_moved : (names : List (List ℕ)) (a b : RunSeen) (from to : SourceSeen) (ended : RunEnd) → from.faults ≡ a.source.faults
    → to.faults ≡ b.source.faults → CountsBy names a b ended → CountsBy names (seen from a.sink a.ends) (seen to b.sink b.ends) ended
counts_moved names a b from to run.Whole is is' h = (is' ∙ h.0 ∙ sym is, h.1, h.2)
counts_moved names a b from to (run.Capture n fault) is is' h = (is' ∙ h.0 ∙ sym is, h.1, h.2)
counts_moved names a b from to run.ReadFault is is' h = (subst (λ (n : ℕ × ℕ). Rose n.0 n.1) (λ i. (sym is i, sym is' i)) h.0, h.1, h.2)
counts_moved names a b from to run.WriteFault is is' h = (is' ∙ h.0 ∙ sym is, h.1, h.2)
counts_moved names a b from to run.NoMemory is is' h = (is' ∙ h.0 ∙ sym is, h.1, h.2)
counts_moved names a b from to (run.Endpoint p) is is' h = (is' ∙ h.0 ∙ sym is, h.1, h.2)

pub was_run : (natives : NativeData) (before after : Outside) (loaded_shelf opened_shelf : ShelfSeen) (sink : SinkSeen) (name : List ℕ) (packets : Option (List ℕ)) (script : ScriptData) (file : ℕ)
    (reader : Option ReaderState) (ended : RunEnd) → ShelfStood before.shelf loaded_shelf → IsLoaded natives before.shelf.files name script → AreOpened loaded_shelf opened_shelf packets file reader
    → ReadsOnly before.shelf loaded_shelf name → RunsOver script file reader (outside opened_shelf before.sink before.ends) (outside after.shelf sink after.ends) ended
    → Tells sink after.sink (stop_line (end_of ended)) → RunHasCause natives before after name packets (end_of ended)
was_run natives before after loaded_shelf opened_shelf sink name packets script file reader ended stood loaded opened reads over line =
    let some = over.ended_so in
    let has : HasBytes before.shelf.files packets some.0 some.1 =
    subst (λ files. HasBytes files packets some.0 some.1) stood.files (opened_bytes loaded_shelf opened_shelf packets file reader over.reference some.0 some.1 opened some.2) in
    inr (
      ended,
      refl,
      record {
        shelf = shelf_by script.endpoints before after opened_shelf sink file over.file' over.reference over.reference' ended
            (stood_stood before.shelf loaded_shelf opened_shelf stood (opened_stood loaded_shelf opened_shelf packets file reader opened)) over.keep over.counts;
        bytes = has.0;
        capture = has.1;
        from = from_of loaded_shelf (file_seen opened_shelf file over.reference) packets;
        to = from_of after.shelf (file_seen after.shelf over.file' over.reference') packets;
        taken = (
          taken_from before.shelf loaded_shelf (file_seen opened_shelf file over.reference) name packets stood.files
              (λ held told. apart natives before.shelf.files held name packets script told loaded has.0 has.1) reads,
          taken_to after.shelf (file_seen after.shelf over.file' over.reference') packets,
        );
        over = record {
          script = script;
          loaded = loaded;
          sink = sink;
          ended_so = λ frames rest are.
              let one = one_records packets has.0 some.0 frames some.1 rest has.2 are in
              subst (λ (x : List (List ℕ) × Option (Result Next PcapFault)). EndsBy script (24 + MAX_HELD) x.0 x.1 (seen (from_of loaded_shelf (file_seen opened_shelf file over.reference) packets)
              before.sink before.ends) (seen (from_of after.shelf (file_seen after.shelf over.file' over.reference') packets) sink after.ends) ended) (λ i. (one.0 i, one.1 i))
              (ends_moved script (room_of reader) (24 + MAX_HELD) some.0 some.1 (seen (file_seen opened_shelf file over.reference) before.sink before.ends)
              (seen (file_seen after.shelf over.file' over.reference') sink after.ends) (from_of loaded_shelf (file_seen opened_shelf file over.reference) packets)
              (from_of after.shelf (file_seen after.shelf over.file' over.reference') packets) ended
              (past_header loaded_shelf opened_shelf after.shelf packets file over.file' over.reference over.reference' reader opened over.keep) some.3);
          counts = counts_moved script.endpoints (seen (file_seen opened_shelf file over.reference) before.sink before.ends) (seen (file_seen after.shelf over.file' over.reference') sink after.ends)
              (from_of loaded_shelf (file_seen opened_shelf file over.reference) packets) (from_of after.shelf (file_seen after.shelf over.file' over.reference') packets) ended refl refl over.counts;
          line = line;
        };
      },
    )

pub over_known : (script : ScriptData) (file file' ref ref' : ℕ) (reader : Option ReaderState) (shelf shelf' : ShelfSeen) (sink sink' : SinkSeen) (ends ends' : List NamedEnd) (ended : RunEnd)
    → (file_seen shelf' file' ref').keep ≡ (file_seen shelf file ref).keep
    → HasRecords reader (file_seen shelf file ref)
    (λ frames rest. EndsBy script (room_of reader) frames rest (seen (file_seen shelf file ref) sink ends) (seen (file_seen shelf' file' ref') sink' ends') ended)
    → CountsBy script.endpoints (seen (file_seen shelf file ref) sink ends) (seen (file_seen shelf' file' ref') sink' ends') ended
    → RunsOver script file reader (outside shelf sink ends) (outside shelf' sink' ends') ended
over_known script file file' ref ref' reader shelf shelf' sink sink' ends ends' ended keep by counts =
    record { reference = ref; file' = file'; reference' = ref'; keep = keep; ended_so = by; counts = counts }
