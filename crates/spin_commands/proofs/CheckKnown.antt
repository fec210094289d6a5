-- Which status a judgement always comes to, from the causes of all its ends.
use Rattle.std.proofs.Common.{◌≡◌, ◌<◌, ◌≤◌, ◌⊎◌, ℕ, Bool, true, false, Option, Some, None, List, length, refl, sym, ap, subst, ◌∙◌, arith, inl, inr}
use Rattle.std.specs.Prelude.{Decides, Result, Ok}
use Rattle.std.proofs.lemmas.Bool.{false≢true}
use Rattle.spin_outside.specs.Counts.{Rose}
use Rattle.spin_outside.specs.Files.{File, content}
use Rattle.spin_outside.specs.Seen.{ShelfSeen}
use Rattle.spin_pcap.proofs.CaptureUniqueness.{one_reading}
use Rattle.spin_pcap.specs.Captures.{IsCapture}
use Rattle.spin_pcap.specs.declared.fault.PcapFault.{PcapFault}
use Rattle.spin_pcap.specs.declared.next.Next.{Next}
use Rattle.spin_script.specs.Language.{IsScript}
use Rattle.spin_endpoint.specs.Named.{NamedEnd}
use Rattle.spin_script.specs.States.{NativeData, ScriptData}
use Rattle.spin_report.specs.Runs.{CaptureSeen}
use Rattle.spin_check.specs.RunTexts.{IsRunText}
use Rattle.spin_inputs.specs.declared.end.End.{End}
use Rattle.spin_inputs.specs.declared.end.End.TheVariants.{Unread, WriteFault, Absent, NoMemory, LongReport}
use Rattle.spin_inputs.specs.declared.end.Input.TheVariants.{Report}
use Rattle.spin_pcap.specs.Whole.{cut_of}
use Rattle.spin_inputs.specs.Captures.{IsBadCapture, IsCaptured, IsGoodCapture, IsWholeCapture, KnowsNoCapture, NotBothBy}
use Rattle.spin_commands.specs.Check.{Answered, CheckHasCause, CheckKnows, HoldsBoth, KnowsBadRecord, KnowsLongReport, KnowsNoReport}
use Rattle.spin_commands.specs.Check.{KnowsReport, NoReportBy, NotJudgedBy, ReadBoth, SaysWhether, answer_end, max_report}
use Rattle.spin_inputs.specs.Ends.{exit_status}
use Rattle.spin_inputs.specs.Loading.{IsContent, IsOver}
use Rattle.spin_inputs.specs.Outside.{Outside}
use Rattle.spin_inputs.proofs.BadCaptures.{good_bad}
use Rattle.spin_inputs.proofs.ReadingUniqueness.{content_at, lacking_at, some_is, some_not_none}
use Rattle.spin_inputs.proofs.Stages.{ScriptFirst, both_bad, both_first, both_lost, both_memory, knows_no_script, knows_refused}

-- ---- the capture

ok_is : (a b : Next) (r : Result Next PcapFault) → r ≡ Ok a → r ≡ Ok b → a ≡ b
ok_is a b r is_a is_b = cc

one_whole : (held : List File) (name : List ℕ) (a b : CaptureSeen) → IsWholeCapture held name a → IsWholeCapture held name b → a ≡ b
one_whole held name a b is_a is_b =
    let file = is_a.1 in
    let same : file.bytes ≡ is_b.1.bytes = some_is _ _ (sym file.found ∙ is_b.1.found) in
    let one =
    one_reading is_b.1.bytes file.order is_b.1.order a.frames b.frames (Ok is_a.0) (Ok is_b.0) (subst (λ bytes. IsCapture bytes file.order a.frames (Ok is_a.0)) same file.capture) is_b.1.capture in
    let cut : a.cut ≡ b.cut = is_a.2 ∙ ap cut_of (ok_is is_a.0 is_b.0 (Ok is_a.0) refl one.2) ∙ sym is_b.2 in
    λ i. record { frames = one.1 i; cut = cut i }

one_captured : (held : List File) (packets : Option (List ℕ)) (a b : Option CaptureSeen) → IsCaptured (Some held) packets a → IsCaptured (Some held) packets b → a ≡ b
one_captured held None None None is_a is_b = refl
one_captured held None None (Some b) is_a is_b = absurd is_b
one_captured held None (Some a) b is_a is_b = absurd is_a
one_captured held (Some name) None b is_a is_b = absurd is_a
one_captured held (Some name) (Some a) None is_a is_b = absurd is_b
one_captured held (Some name) (Some a) (Some b) is_a is_b = ap Some (one_whole held name a b is_a is_b)

-- what is known of it where the shelf tells its files
captured_at : (files : Option (List File)) (held : List File) (packets : Option (List ℕ)) (capture : Option CaptureSeen)
    → files ≡ Some held → IsCaptured files packets capture → IsCaptured (Some held) packets capture
captured_at files held packets capture told is = subst (λ f. IsCaptured f packets capture) told is

-- the capture that is named was read whole
file_of : (held : List File) (name : List ℕ) (capture : Option CaptureSeen) → IsCaptured (Some held) (Some name) capture → (whole : CaptureSeen) × IsWholeCapture held name whole
file_of held name None is = absurd is
file_of held name (Some whole) is = (whole, is)

named_file : (held : List File) (packets : Option (List ℕ)) (name : List ℕ) (capture : Option CaptureSeen)
    → packets ≡ Some name → IsCaptured (Some held) packets capture → (whole : CaptureSeen) × IsWholeCapture held name whole
named_file held packets name capture named is = file_of held name capture (subst (λ p. IsCaptured (Some held) p capture) named is)

captured_there : (held : List File) (packets : Option (List ℕ)) (name : List ℕ) (capture : Option CaptureSeen)
    → packets ≡ Some name → content held name ≡ None → IsCaptured (Some held) packets capture → ⊥
captured_there held packets name capture named lacking is =
    let file = named_file held packets name capture named is in
    some_not_none _ (sym file.1.1.found ∙ lacking)

captured_good : (held : List File) (packets : Option (List ℕ)) (name : List ℕ) (capture : Option CaptureSeen) → packets ≡ Some name → IsBadCapture held name → IsCaptured (Some held) packets capture → ⊥
captured_good held packets name capture named bad is =
    let file = named_file held packets name capture named is in
    good_bad held name file.0.frames file.1.0 file.1.1 bad

-- what was read whole is a good capture
is_good : (held : List File) (packets : Option (List ℕ)) (capture : Option CaptureSeen) → IsCaptured (Some held) packets capture → IsGoodCapture held packets
is_good held None capture is = tt
is_good held (Some name) None is = absurd is
is_good held (Some name) (Some whole) is = (whole.frames, is.0, is.1)

-- ---- the report

same_report : (files : Option (List File)) (held : List File) (report told text : List ℕ) → files ≡ Some held → content held report ≡ Some told → IsContent files report text → text ≡ told
same_report files held report told text is found read = some_is text told (sym (content_at files held report text is read) ∙ found)

lacks_report : (files : Option (List File)) (held : List File) (report text : List ℕ) → files ≡ Some held → content held report ≡ None → IsContent files report text → ⊥
lacks_report files held report text is lacking read = some_not_none text (sym (content_at files held report text is read) ∙ lacking)

-- one that is over the length isn't within it
not_within : (files : Option (List File)) (held : List File) (report told text : List ℕ) → files ≡ Some held
    → content held report ≡ Some told → IsContent files report text → max_report < length told → length text ≤ max_report → ⊥
not_within files held report told text is found read long few = omega (arith, long, few, ap length (same_report files held report told text is found read))

not_over : (files : Option (List File)) (held : List File) (report told : List ℕ) → files ≡ Some held → content held report ≡ Some told → length told ≤ max_report → IsOver max_report files report → ⊥
not_over files held report told is found few over = omega (arith, few, over.2, ap length (same_report files held report told over.0 is found over.1))

-- one that isn't there
report_lost : (before after : ShelfSeen) (held : List File) (report : List ℕ) (status : ℕ) (end : End) → status ≡ exit_status end → before.files ≡ Some held
    → content held report ≡ None → (Rose before.faults after.faults → ⊥) → NoReportBy before after report end → (status ≡ 6) ⊎ (status ≡ 7)
report_lost before after held report status LongReport is told lacking calm by = absurd (lacks_report before.files held report by.1.0 told lacking by.1.1)
report_lost before after held report status (Unread Report) is told lacking calm by = absurd (calm by.faults)
report_lost before after held report status (Absent Report) is told lacking calm by = inl is
report_lost before after held report status NoMemory is told lacking calm by = inr is
report_lost before after held report status other is told lacking calm by = absurd by

-- one that is
report_long : (before after : ShelfSeen) (held : List File) (report told : List ℕ) (status : ℕ) (end : End) → status ≡ exit_status end → before.files ≡ Some held
    → content held report ≡ Some told → (Rose before.faults after.faults → ⊥) → NoReportBy before after report end → (status ≡ 10) ⊎ (status ≡ 7)
report_long before after held report told status LongReport is files found calm by = inl is
report_long before after held report told status (Unread Report) is files found calm by = absurd (calm by.faults)
report_long before after held report told status (Absent Report) is files found calm by = absurd (some_not_none told (sym found ∙ lacking_at before.files held report files by.1))
report_long before after held report told status NoMemory is files found calm by = inr is
report_long before after held report told status other is files found calm by = absurd by

report_memory : (before after : ShelfSeen) (held : List File) (report told : List ℕ) (status : ℕ) (end : End) → status ≡ exit_status end → before.files ≡ Some held
    → content held report ≡ Some told → length told ≤ max_report → (Rose before.faults after.faults → ⊥) → NoReportBy before after report end → status ≡ 7
report_memory before after held report told status LongReport is files found few calm by = absurd (not_over before.files held report told files found few by.1)
report_memory before after held report told status (Unread Report) is files found few calm by = absurd (calm by.faults)
report_memory before after held report told status (Absent Report) is files found few calm by = absurd (some_not_none told (sym found ∙ lacking_at before.files held report files by.1))
report_memory before after held report told status NoMemory is files found few calm by = is
report_memory before after held report told status other is files found few calm by = absurd by

-- ---- the script

stop_first : (natives : NativeData) (before after : Outside) (name report : List ℕ) (packets : Option (List ℕ)) (end : End)
    → NotJudgedBy natives before.shelf after.shelf name report packets end → ScriptFirst natives before.shelf after.shelf name end
stop_first natives before after name report packets end (inl by) = both_first natives before.shelf after.shelf name packets end by
stop_first natives before after name report packets end (inr by) = inr (by.0.script, by.0.loaded)

check_first : (natives : NativeData) (before after : Outside) (name report : List ℕ) (packets : Option (List ℕ)) (end : End)
    → CheckHasCause natives before after name report packets end → ScriptFirst natives before.shelf after.shelf name end
check_first natives before after name report packets end (inl stop) = stop_first natives before after name report packets end stop.0
check_first natives before after name report packets end (inr answered) = inr (answered.both.script, answered.both.loaded)

-- ---- a capture that isn't there

no_capture : (natives : NativeData) (shelf : ShelfSeen) (held : List File) (name capture : List ℕ) (packets : Option (List ℕ))
    → shelf.files ≡ Some held → packets ≡ Some capture → content held capture ≡ None → ReadBoth natives shelf.files name packets → ⊥
no_capture natives shelf held name capture packets told named lacking both =
    captured_there held packets capture both.capture named lacking (captured_at shelf.files held packets both.capture told both.captured)

stop_lost : (natives : NativeData) (before after : Outside) (name report : List ℕ) (packets : Option (List ℕ)) (status : ℕ) (end : End)
    → status ≡ exit_status end → NotJudgedBy natives before.shelf after.shelf name report packets end → KnowsNoCapture natives before after name packets status
stop_lost natives before after name report packets status end is (inl by) held text capture holds script named lacking calm =
    both_lost natives before.shelf after.shelf held name text packets capture status end is holds script named lacking calm by
stop_lost natives before after name report packets status end is (inr by) held text capture holds script named lacking calm =
    absurd (no_capture natives before.shelf held name capture packets holds.told named lacking by.0)

lost_at : (natives : NativeData) (before after : Outside) (name report : List ℕ) (packets : Option (List ℕ)) (status : ℕ) (end : End)
    → status ≡ exit_status end → CheckHasCause natives before after name report packets end → KnowsNoCapture natives before after name packets status
lost_at natives before after name report packets status end is (inl stop) = stop_lost natives before after name report packets status end is stop.0
lost_at natives before after name report packets status end is (inr answered) =
    λ held text capture holds script named lacking calm. absurd (no_capture natives before.shelf held name capture packets holds.told named lacking answered.both)

-- ---- a bad capture

bad_read : (natives : NativeData) (shelf : ShelfSeen) (held : List File) (name capture : List ℕ) (packets : Option (List ℕ))
    → shelf.files ≡ Some held → packets ≡ Some capture → IsBadCapture held capture → ReadBoth natives shelf.files name packets → ⊥
bad_read natives shelf held name capture packets told named bad both =
    captured_good held packets capture both.capture named bad (captured_at shelf.files held packets both.capture told both.captured)

stop_bad : (natives : NativeData) (before after : Outside) (name report : List ℕ) (packets : Option (List ℕ)) (status : ℕ) (end : End)
    → status ≡ exit_status end → NotJudgedBy natives before.shelf after.shelf name report packets end → KnowsBadRecord natives before after name packets status
stop_bad natives before after name report packets status end is (inl by) capture named held text holds script bad calm =
    both_bad natives before.shelf after.shelf held name text packets capture status end is holds script named bad calm by
stop_bad natives before after name report packets status end is (inr by) capture named held text holds script bad calm =
    absurd (bad_read natives before.shelf held name capture packets holds.told named bad by.0)

capture_at : (natives : NativeData) (before after : Outside) (name report : List ℕ) (packets : Option (List ℕ)) (status : ℕ) (end : End)
    → status ≡ exit_status end → CheckHasCause natives before after name report packets end → KnowsBadRecord natives before after name packets status
capture_at natives before after name report packets status end is (inl stop) = stop_bad natives before after name report packets status end is stop.0
capture_at natives before after name report packets status end is (inr answered) =
    λ capture named held text holds script bad calm. absurd (bad_read natives before.shelf held name capture packets holds.told named bad answered.both)

-- ---- beside a script and a good capture, or none

memory_at : (natives : NativeData) (before after : Outside) (held : List File) (name text : List ℕ) (packets : Option (List ℕ)) (capture : Option CaptureSeen) (status : ℕ) (end : End)
    → status ≡ exit_status end → HoldsBoth natives before.shelf held name text packets capture
    → (Rose before.shelf.faults after.shelf.faults → ⊥) → NotBothBy natives before.shelf after.shelf name packets end → status ≡ 7
memory_at natives before after held name text packets capture status end is both calm by =
    both_memory natives before.shelf after.shelf held name text packets status end is both.holds both.script (is_good held packets capture both.captured) calm by

stop_unreported : (natives : NativeData) (before after : Outside) (name report : List ℕ) (packets : Option (List ℕ)) (status : ℕ) (end : End)
    → status ≡ exit_status end → NotJudgedBy natives before.shelf after.shelf name report packets end → KnowsNoReport natives before after name report packets status
stop_unreported natives before after name report packets status end is (inl by) held text capture both lacking calm =
    inr (memory_at natives before after held name text packets capture status end is both calm by)
stop_unreported natives before after name report packets status end is (inr by) held text capture both lacking calm =
    report_lost before.shelf after.shelf held report status end is both.holds.told lacking calm by.1

unreported_at : (natives : NativeData) (before after : Outside) (name report : List ℕ) (packets : Option (List ℕ)) (status : ℕ) (end : End)
    → status ≡ exit_status end → CheckHasCause natives before after name report packets end → KnowsNoReport natives before after name report packets status
unreported_at natives before after name report packets status end is (inl stop) = stop_unreported natives before after name report packets status end is stop.0
unreported_at natives before after name report packets status end is (inr answered) =
    λ held text capture both lacking calm. absurd (lacks_report before.shelf.files held report answered.text both.holds.told lacking answered.read)

stop_long : (natives : NativeData) (before after : Outside) (name report : List ℕ) (packets : Option (List ℕ)) (status : ℕ) (end : End) → status ≡ exit_status end
    → NotJudgedBy natives before.shelf after.shelf name report packets end → KnowsLongReport natives before after name report packets status
stop_long natives before after name report packets status end is (inl by) held text told capture both found long calm =
    inr (memory_at natives before after held name text packets capture status end is both calm by)
stop_long natives before after name report packets status end is (inr by) held text told capture both found long calm =
    report_long before.shelf after.shelf held report told status end is both.holds.told found calm by.1

long_at : (natives : NativeData) (before after : Outside) (name report : List ℕ) (packets : Option (List ℕ)) (status : ℕ) (end : End)
    → status ≡ exit_status end → CheckHasCause natives before after name report packets end → KnowsLongReport natives before after name report packets status
long_at natives before after name report packets status end is (inl stop) = stop_long natives before after name report packets status end is stop.0
long_at natives before after name report packets status end is (inr answered) =
    λ held text told capture both found long calm. absurd (not_within before.shelf.files held report told answered.text both.holds.told found answered.read long answered.few)

-- ---- the judgement

-- the status that an answer comes to
says_so : (P : Type 0) (whether : Bool) (status : ℕ) → status ≡ exit_status (answer_end whether) → (P → whether ≡ true) → (whether ≡ true → P) → ((status ≡ 0) × P) ⊎ ((status ≡ 9) × (P → ⊥))
says_so P true status is to from = inl (is, from refl)
says_so P false status is to from = inr (is, λ p. false≢true (to p))

-- the same capture and the same text are judged alike
judged_as : (script : ScriptData) (capture capture' : Option CaptureSeen) (ends : List NamedEnd) (text text' : List ℕ) (whether : Bool) → capture ≡ capture' → text ≡ text'
    → Decides whether (IsRunText script capture ends text) → Decides whether (IsRunText script capture' ends text')
judged_as script capture capture' ends text text' whether same_capture same_text judged =
    subst (λ c. Decides whether (IsRunText script c ends text')) same_capture (subst (λ t. Decides whether (IsRunText script capture ends t)) same_text judged)

-- what was judged is what lies under these names
says : (natives : NativeData) (before after : Outside) (held : List File) (name report text told : List ℕ) (packets : Option (List ℕ)) (capture : Option CaptureSeen) (status : ℕ) (end : End)
    → HoldsBoth natives before.shelf held name text packets capture → content held report ≡ Some told → (answered : Answered natives before after name report packets end)
    → status ≡ exit_status (answer_end answered.whether) → SaysWhether natives text capture before.ends told status
says natives before after held name report text told packets capture status end both found answered is =
    let loaded = answered.both.loaded in
    let same_text : loaded.text ≡ text = some_is _ _ (sym (content_at before.shelf.files held name loaded.text both.holds.told loaded.read) ∙ both.holds.found) in
    let same_told : answered.text ≡ told = same_report before.shelf.files held report told answered.text both.holds.told found answered.read in
    let same_capture : answered.both.capture ≡ capture =
    one_captured held packets answered.both.capture capture (captured_at before.shelf.files held packets answered.both.capture both.holds.told answered.both.captured) both.captured in
    let judged = judged_as answered.both.script answered.both.capture capture before.ends answered.text told answered.whether same_capture same_told answered.judged in (
      answered.both.script,
      subst (λ t. IsScript natives t (Ok answered.both.script)) same_text loaded.reads,
      says_so (IsRunText answered.both.script capture before.ends told) answered.whether status is judged.1 judged.0,
    )

stop_judged : (natives : NativeData) (before after : Outside) (name report : List ℕ) (packets : Option (List ℕ)) (status : ℕ) (end : End)
    → status ≡ exit_status end → NotJudgedBy natives before.shelf after.shelf name report packets end → KnowsReport natives before after name report packets status
stop_judged natives before after name report packets status end is (inl by) held text told capture both found few calm still =
    inr (memory_at natives before after held name text packets capture status end is both calm by)
stop_judged natives before after name report packets status end is (inr by) held text told capture both found few calm still =
    inr (report_memory before.shelf after.shelf held report told status end is both.holds.told found few calm by.1)

-- the answer was written, or the sink failed
answered_known : (natives : NativeData) (before after : Outside) (name report : List ℕ) (packets : Option (List ℕ)) (status : ℕ) (end : End) → status ≡ exit_status end
    → (answered : Answered natives before after name report packets end) → ((end ≡ answer_end answered.whether) × (after.sink.faults ≡ before.sink.faults))
    ⊎ ((end ≡ WriteFault) × Rose before.sink.faults after.sink.faults) → KnowsReport natives before after name report packets status
answered_known natives before after name report packets status end is answered (inl told_all) held text told capture both found few calm still =
    inl (says natives before after held name report text told packets capture status end both found answered (is ∙ ap exit_status told_all.0))
answered_known natives before after name report packets status end is answered (inr failed) held text told capture both found few calm still = absurd (still failed.1)

judged_at : (natives : NativeData) (before after : Outside) (name report : List ℕ) (packets : Option (List ℕ)) (status : ℕ) (end : End)
    → status ≡ exit_status end → CheckHasCause natives before after name report packets end → KnowsReport natives before after name report packets status
judged_at natives before after name report packets status end is (inl stop) = stop_judged natives before after name report packets status end is stop.0
judged_at natives before after name report packets status end is (inr answered) = answered_known natives before after name report packets status end is answered answered.tells.1

pub check_known : (natives : NativeData) (before after : Outside) (name report : List ℕ) (packets : Option (List ℕ)) (status : ℕ) (end : End)
    → status ≡ exit_status end → CheckHasCause natives before after name report packets end → CheckKnows natives before after name report packets status
check_known natives before after name report packets status end is cause =
    let first = check_first natives before after name report packets end cause in
    record {
      refused = knows_refused natives before after name status end is first;
      script_absent = knows_no_script natives before after name status end is first;
      capture_absent = lost_at natives before after name report packets status end is cause;
      bad_capture = capture_at natives before after name report packets status end is cause;
      report_absent = unreported_at natives before after name report packets status end is cause;
      long_report = long_at natives before after name report packets status end is cause;
      judged = judged_at natives before after name report packets status end is cause;
    }
