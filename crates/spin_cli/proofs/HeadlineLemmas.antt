-- The headline, of `run` and of `join`, from the cause of status 0.
use Rattle.std.proofs.Common.{◌≡◌, ℕ, Option, Some, None, List, [], ◌∷◌, IfSome, drop, codes, refl, sym, ap, subst, arith, inl, inr}
use Rattle.std.specs.Option.{option_to_list}
use Rattle.std.specs.Prelude.{Result, Ok, Err}
use Rattle.spin_outside.specs.Files.{File}
use Rattle.spin_outside.specs.Seen.{ShelfSeen}
use Rattle.spin_pcap.specs.declared.fault.PcapFault.{PcapFault}
use Rattle.spin_pcap.specs.declared.next.Next.{Next}
use Rattle.spin_pcap.specs.declared.next.Next.TheVariants as next
use Rattle.spin_pcap.specs.declared.order.Order.TheVariants as order
use Rattle.spin_pcap.proofs.CaptureTotality.{each_is_capture}
use Rattle.spin_report.specs.Histories.{report_text}
use Rattle.spin_report.specs.Runs.{CaptureSeen}
use Rattle.spin_run.specs.Ends.{IsReadWhole}
use Rattle.spin_run.specs.declared.end.RunEnd.{RunEnd}
use Rattle.spin_run.specs.declared.end.RunEnd.TheVariants as run
use Rattle.spin_script.specs.States.{NativeData}
use Rattle.spin_inputs.specs.declared.end.End.TheVariants.{Whole}
use Rattle.spin_args.specs.declared.words.Asked.TheVariants.{Run, Join}
use Rattle.spin_outside.specs.Sources.{SourceSeen}
use Rattle.spin_pcap.specs.Captures.{IsCapture}
use Rattle.spin_pcap.specs.Whole.{cut_of}
use Rattle.spin_reass.proofs.CaptureLemmas.{joined_is_capture}
use Rattle.spin_reass.specs.Joining.{joined_frames}
use Rattle.spin_inputs.specs.Captures.{AreBytesOf, AreRecordsIn, AreRecordsOf, IsCaptureFile, NotBothBy}
use Rattle.spin_inputs.specs.Ends.{exit_status}
use Rattle.spin_inputs.specs.Held.{held_seen}
use Rattle.spin_cli.specs.Headline.{Headline, HeadlineJoined, IsJoinedWhole, WasRunWhole}
use Rattle.spin_cli.specs.Join.{IsJoinedFile, JoinHasCause, RanJoined}
use Rattle.spin_inputs.specs.Outside.{Outside}
use Rattle.spin_cli.specs.Run.{end_of, NotRunBy, RunCameTo, RanOver, RunHasCause}
use Rattle.spin_cli.specs.Statuses.{Call, CommandHasCause, Row}
use Rattle.spin_inputs.specs.WholeCaptures.{HasCapture, IsNamedCapture}
use Rattle.spin_args.specs.Words.{IsSpelled}
use Rattle.spin_commands.proofs.CheckCauses.{appends_nothing, told_nothing}
use Rattle.spin_args.proofs.CommandForms.{one_asked}
use Rattle.spin_inputs.proofs.ReadingUniqueness.{bytes_at, content_at}
use Rattle.spin_inputs.proofs.SaidTexts.{says_script}
use Rattle.spin_inputs.proofs.WholeCaptureLemmas.{has_header, has_records}

-- some records that the capture has, and its rest
some_records : (files : Option (List File)) (packets : Option (List ℕ)) (bytes : List ℕ) → AreBytesOf files packets bytes
    → (frames : List (List ℕ)) × (rest : Option (Result Next PcapFault)) × AreRecordsOf packets bytes frames rest
some_records files None bytes capture = ([], None, (refl, refl))
some_records files (Some name) bytes capture =
    let body = each_is_capture bytes capture.order capture.header in
    (body.0, Some body.1, (body.1, refl, capture.order, body.2))

has_capture : (held : List File) (name : List ℕ) (frames : List (List ℕ)) (last : Next) → IsCaptureFile held name frames (Ok last)
    → HasCapture held name (record { frames = frames; cut = cut_of last })
has_capture held name frames last file = record {
  bytes = file.bytes;
  found = file.found;
  order = file.order;
  header = has_header file.bytes file.order file.capture.header;
  records = has_records file.order 0 (drop 24 file.bytes) frames last file.capture.body;
}

-- a capture that was read whole is that of its file
whole_file : (held : List File) (name : List ℕ) (frames : List (List ℕ)) (ending : Result Next PcapFault) (captured : Option CaptureSeen)
    → IsCaptureFile held name frames ending → IsReadWhole frames (Some ending) captured → IsNamedCapture held (Some name) captured
whole_file held name frames (Ok next.Packet) captured file is = absurd is
whole_file held name frames (Ok next.End) captured file is = subst (λ c. IsNamedCapture held (Some name) c) (sym is) (has_capture held name frames next.End file)
whole_file held name frames (Ok (next.Cut count)) captured file is =
    subst (λ c. IsNamedCapture held (Some name) c) (sym is) (has_capture held name frames (next.Cut count) file)
whole_file held name frames (Err wrong) captured file is = absurd is

captured_from : (files : Option (List File)) (held : List File) (packets : Option (List ℕ)) (bytes : List ℕ) (frames : List (List ℕ))
    (rest : Option (Result Next PcapFault)) (captured : Option CaptureSeen) → files ≡ Some held → AreBytesOf files packets bytes
    → AreRecordsOf packets bytes frames rest → IsReadWhole frames rest captured → IsNamedCapture held packets captured
captured_from files held None bytes frames rest captured told capture are whole =
    let none : captured ≡ None = subst (λ r. IsReadWhole frames r captured) are.1 whole in
    subst (λ c. IsNamedCapture held None c) (sym none) tt
captured_from files held (Some name) bytes frames rest captured told capture are whole =
    let file : IsCaptureFile held name frames are.0 = record { bytes = bytes; found = bytes_at files held name bytes told capture; order = are.2; capture = are.3 } in
    whole_file held name frames are.0 captured file (subst (λ r. IsReadWhole frames r captured) are.1 whole)

-- only a whole run ends so
ran_whole : (ended : RunEnd) → Whole ≡ end_of ended → ended ≡ run.Whole
ran_whole run.Whole same = refl
ran_whole (run.Capture at fault) same = let no : 0 ≡ 3 = ap exit_status same in absurd (omega (arith, no))
ran_whole run.ReadFault same = let no : 0 ≡ 4 = ap exit_status same in absurd (omega (arith, no))
ran_whole run.WriteFault same = let no : 0 ≡ 5 = ap exit_status same in absurd (omega (arith, no))
ran_whole run.NoMemory same = let no : 0 ≡ 7 = ap exit_status same in absurd (omega (arith, no))
ran_whole (run.Endpoint at) same = let no : 0 ≡ 8 = ap exit_status same in absurd (omega (arith, no))

stop_not_whole : (natives : NativeData) (before after : ShelfSeen) (name : List ℕ) (packets : Option (List ℕ)) → NotRunBy natives before after name packets Whole → ⊥
stop_not_whole natives before after name packets (inl by) = by.0
stop_not_whole natives before after name packets (inr by) = by.1

not_joined_whole : (natives : NativeData) (before after : ShelfSeen) (name packets : List ℕ) → NotBothBy natives before after name (Some packets) Whole → ⊥
not_joined_whole natives before after name packets (inl by) = by.0
not_joined_whole natives before after name packets (inr by) = by.1

whole_of : (natives : NativeData) (before after : Outside) (name : List ℕ) (packets : Option (List ℕ))
    → RunHasCause natives before after name packets Whole → RunCameTo natives before after name packets run.Whole
whole_of natives before after name packets (inl stop) = absurd (stop_not_whole natives before.shelf after.shelf name packets stop.0)
whole_of natives before after name packets (inr ran) = subst (λ e. RunCameTo natives before after name packets e) (ran_whole ran.0 ran.1) ran.2

joined_of : (natives : NativeData) (before after : Outside) (name packets : List ℕ)
    → JoinHasCause natives before after name packets Whole → RanJoined natives before after name packets run.Whole
joined_of natives before after name packets (inl stop) = absurd (not_joined_whole natives before.shelf after.shelf name packets stop.0)
joined_of natives before after name packets (inr ran) = subst (λ e. RanJoined natives before after name packets e) (ran_whole ran.0 ran.1) ran.2

-- ---- what a whole run leaves

-- over these records, of which it is known what capture has them
ran_to_end : (natives : NativeData) (held : List File) (before after : Outside) (name : List ℕ) (Has : List (List ℕ) → Option (Result Next PcapFault) → Type 0) (from to : SourceSeen)
    (IsItsCapture : Option CaptureSeen → Type 0) (frames : List (List ℕ)) (rest : Option (Result Next PcapFault)) → before.shelf.files ≡ Some held
    → RanOver natives before after name Has from to run.Whole → Has frames rest
    → ((captured : Option CaptureSeen) → IsReadWhole frames rest captured → IsItsCapture captured) → WasRunWhole natives held name IsItsCapture before after
ran_to_end natives held before after name Has from to IsItsCapture frames rest told over has is_its =
    let ended = over.ended_so frames rest has in
    record {
      text = over.loaded.text;
      found = content_at before.shelf.files held name over.loaded.text told over.loaded.read;
      script = over.script;
      said = says_script natives over.loaded.text over.script over.loaded.reads;
      accepted = over.loaded.reads;
      captured = ended.1.captured;
      capture = is_its ended.1.captured ended.1.capture_is;
      history = ended.0;
      last = ended.1.last;
      run = ended.1.run;
      written = appends_nothing before.sink.told over.sink.told after.sink.told (report_text ended.0) ended.2 (told_nothing over.sink after.sink over.line);
      received = ended.1.ends_are;
    }

run_whole : (natives : NativeData) (held : List File) (before after : Outside) (name : List ℕ) (packets : Option (List ℕ)) → before.shelf.files ≡ Some held
    → RunHasCause natives before after name packets Whole → WasRunWhole natives held name (IsNamedCapture held packets) before after
run_whole natives held before after name packets told cause =
    let ran = whole_of natives before after name packets cause in
    let records = some_records before.shelf.files packets ran.bytes ran.capture in
    ran_to_end natives held before after name (AreRecordsOf packets ran.bytes) ran.from ran.to (IsNamedCapture held packets) records.0 records.1 told ran.over records.2
    (λ captured whole. captured_from before.shelf.files held packets ran.bytes records.0 records.1 captured told ran.capture records.2 whole)

-- what was read of a joined capture is that of its file, joined
joined_whole : (held : List File) (packets : List ℕ) (frames : List (List ℕ)) (last : Next) (captured : Option CaptureSeen) → IsCaptureFile held packets frames (Ok last)
    → IsReadWhole (joined_frames [] frames) (Some (Ok last)) captured → IsJoinedWhole held packets captured
joined_whole held packets frames next.Packet captured file is = absurd is
joined_whole held packets frames next.End captured file is = record { file = _; capture = has_capture held packets frames next.End file; joined = is }
joined_whole held packets frames (next.Cut count) captured file is = record { file = _; capture = has_capture held packets frames (next.Cut count) file; joined = is }

join_whole : (natives : NativeData) (held : List File) (before after : Outside) (name packets : List ℕ) → before.shelf.files ≡ Some held
    → JoinHasCause natives before after name packets Whole → WasRunWhole natives held name (IsJoinedWhole held packets) before after
join_whole natives held before after name packets told cause =
    let ran = joined_of natives before after name packets cause in
    let file : IsJoinedFile held packets ran.bytes = subst (λ f. IfSome f (λ its. IsJoinedFile its packets ran.bytes)) told ran.joined in
    let frames : List (List ℕ) = joined_frames [] file.frames in
    let good : IsCapture ran.bytes order.Little frames (Ok file.last) =
    subst (λ b. IsCapture b order.Little frames (Ok file.last)) (sym file.bytes_are) (joined_is_capture file.file.bytes file.file.order file.frames file.last file.file.capture) in
    let records : AreRecordsIn ran.bytes frames (Some (Ok file.last)) = (Ok file.last, refl, order.Little, good) in
    ran_to_end natives held before after name (AreRecordsIn ran.bytes) (held_seen ran.left) (held_seen ran.left') (IsJoinedWhole held packets) frames (Some (Ok file.last)) told ran.over records
    (λ captured whole. joined_whole held packets file.frames file.last captured file.file whole)

-- ---- the clauses

-- the words of a run ask for it
run_spelled : (words : List (List ℕ)) (name : List ℕ) (packets : Option (List ℕ)) → words ≡ codes "run" ∷ name ∷ option_to_list packets → IsSpelled words (Run name packets)
run_spelled words name None are = are
run_spelled words name (Some packets) are = are

pub headline_holds : (call : Call) → Row call Whole → Headline call
headline_holds call row held name packets told words zero =
    let by = row zero in
    let same : by.0 ≡ Run name packets = one_asked call.words by.0 (Run name packets) by.1.words_are (run_spelled call.words name packets words) in
    run_whole call.natives held call.before call.after name packets told (subst (λ a. CommandHasCause call.natives call.before call.after a Whole) same by.2)

pub headline_joined_holds : (call : Call) → Row call Whole → HeadlineJoined call
headline_joined_holds call row held name packets told words zero =
    let by = row zero in
    let same : by.0 ≡ Join name packets = one_asked call.words by.0 (Join name packets) by.1.words_are words in
    join_whole call.natives held call.before call.after name packets told (subst (λ a. CommandHasCause call.natives call.before call.after a Whole) same by.2)
