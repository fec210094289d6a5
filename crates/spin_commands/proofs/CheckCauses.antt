-- What the end of a judgement rests on: what was done before it.
use Rattle.std.proofs.Common.{◌≡◌, ◌≤◌, ◌⊎◌, ℕ, Bool, true, false, Option, Some, None, List, [], length, take, refl, sym, ap, subst, ◌∙◌, arith, inl, inr}
use Rattle.std.specs.Prelude.{Decides}
use Rattle.std.specs.Io.KnownBytes.{Appends}
use Rattle.std.proofs.lemmas.List.{append-nil}
use Rattle.spin_outside.specs.Counts.{Rose}
use Rattle.spin_outside.specs.Files.{IsLacking}
use Rattle.spin_outside.specs.Seen.{ShelfSeen, SinkSeen}
use Rattle.spin_script.specs.States.{NativeData, ScriptData}
use Rattle.spin_report.specs.Runs.{CaptureSeen}
use Rattle.spin_check.specs.RunTexts.{IsRunText}
use Rattle.spin_inputs.specs.declared.end.End.{End}
use Rattle.spin_inputs.specs.declared.end.End.TheVariants.{Unread, WriteFault, Absent, NoMemory, LongReport}
use Rattle.spin_inputs.specs.declared.end.Input.TheVariants.{Report}
use Rattle.spin_inputs.specs.Captures.{IsCaptured, NoWholeBy}
use Rattle.spin_commands.specs.Check.{CheckHasCause, NoReportBy, ReadBoth, TellsAnswer, answer, answer_end, max_report}
use Rattle.spin_inputs.specs.Ends.{Tells, stop_line}
use Rattle.spin_inputs.specs.Loading.{IsContent, IsLoaded, IsOver, NoScriptBy}
use Rattle.spin_inputs.specs.Outside.{OnlyStops, Outside}
use Rattle.spin_inputs.specs.Shelves.{ShelfStood}
use Rattle.spin_inputs.proofs.ShelfLemmas.{stood_failed, stood_lacked, stood_stood, tells_nothing}
use Rattle.spin_inputs.proofs.Stages.{whole_behind}

-- ---- stops before the report is judged

pub not_loaded : (natives : NativeData) (before after : Outside) (name report : List ℕ) (packets : Option (List ℕ)) (end : End)
    → NoScriptBy natives before.shelf after.shelf name end → OnlyStops before after end → CheckHasCause natives before after name report packets end
not_loaded natives before after name report packets end by only = inl (inl (inl by), only)

pub not_captured : (natives : NativeData) (before after : Outside) (mid : ShelfSeen) (name report : List ℕ) (packets : Option (List ℕ)) (script : ScriptData) (end : End) → ShelfStood before.shelf mid
    → IsLoaded natives before.shelf.files name script → NoWholeBy mid after.shelf packets end → OnlyStops before after end → CheckHasCause natives before after name report packets end
not_captured natives before after mid name report packets script end stood loaded by only =
    inl (inl (inr ((script, loaded), whole_behind before.shelf mid after.shelf packets end stood by)), only)

-- what was read before the report
abbrev both_read : (natives : NativeData) (first mid : ShelfSeen) (name : List ℕ) (packets : Option (List ℕ)) (script : ScriptData) (capture : Option CaptureSeen)
    → ShelfStood first mid → IsLoaded natives first.files name script → IsCaptured mid.files packets capture → ReadBoth natives first.files name packets
both_read natives first mid name packets script capture stood loaded captured =
    record { script = script; loaded = loaded; capture = capture; captured = subst (λ files. IsCaptured files packets capture) stood.files captured }

-- the report behind a shelf that stood
reported_behind : (a b c : ShelfSeen) (report : List ℕ) (end : End) → ShelfStood a b → NoReportBy b c report end → NoReportBy a c report end
reported_behind a b c report LongReport stood by = (stood_stood a b c stood by.0, subst (λ files. IsOver max_report files report) stood.files by.1)
reported_behind a b c report (Unread Report) stood by = stood_failed a b c stood by
reported_behind a b c report (Absent Report) stood by = (stood_lacked a b c stood by.0, subst (λ files. IsLacking files report) stood.files by.1)
reported_behind a b c report NoMemory stood by = stood_stood a b c stood by
reported_behind a b c report other stood by = absurd by

pub not_reported : (natives : NativeData) (before after : Outside) (mid end_shelf : ShelfSeen) (name report : List ℕ) (packets : Option (List ℕ)) (script : ScriptData)
    (capture : Option CaptureSeen) (end : End) → ShelfStood before.shelf mid → IsLoaded natives before.shelf.files name script → ShelfStood mid end_shelf
    → IsCaptured mid.files packets capture → NoReportBy end_shelf after.shelf report end → OnlyStops before after end → CheckHasCause natives before after name report packets end
not_reported natives before after mid end_shelf name report packets script capture end stood loaded stood' captured by only =
    let all = stood_stood before.shelf mid end_shelf stood stood' in
    inl (inr (both_read natives before.shelf mid name packets script capture stood loaded captured, reported_behind before.shelf end_shelf after.shelf report end all by), only)

-- ---- the answer

-- nothing more was written
pub appends_nothing : (a b c : Option (List ℕ)) (bytes : List ℕ) → Appends a b bytes → Appends b c [] → Appends a c bytes
appends_nothing None b c bytes first next = tt
appends_nothing (Some xs) None c bytes first next = absurd first
appends_nothing (Some xs) (Some ys) None bytes first next = absurd next
appends_nothing (Some xs) (Some ys) (Some zs) bytes first next = next ∙ append-nil ys ∙ first

pub told_nothing : (a b : SinkSeen) → Tells a b [] → Appends a.told b.told []
told_nothing a b (inl w) = w.1
told_nothing a b (inr w) = absurd (omega (arith, w.1))

pub tells_only : (a b c : SinkSeen) (bytes : List ℕ) → Tells a b bytes → Tells b c [] → Tells a c bytes
tells_only a b c bytes (inl w) none = inl (tells_nothing b c none ∙ w.0, appends_nothing a.told b.told c.told bytes w.1 (told_nothing b c none))
tells_only a b c bytes (inr w) none =
    inr (w.0, w.1, subst (λ n. Rose a.faults n) (sym (tells_nothing b c none)) w.2, appends_nothing a.told b.told c.told (take w.0 bytes) w.3 (told_nothing b c none))

-- the ends behind the answer write no line
whole_end : (whether : Bool) → stop_line (answer_end whether) ≡ []
whole_end true = refl
whole_end false = refl

ends_silent : (before after : SinkSeen) (whether : Bool) (end : End) → TellsAnswer before after whether end → stop_line end ≡ []
ends_silent before after whether end tells = go tells.1
  where
    go : ((end ≡ answer_end whether) × (after.faults ≡ before.faults)) ⊎ ((end ≡ WriteFault) × Rose before.faults after.faults) → stop_line end ≡ []
    go (inl w) = ap stop_line w.0 ∙ whole_end whether
    go (inr w) = ap stop_line w.0

-- the counts are as the answer left them
still_ends : (before sink after : SinkSeen) (whether : Bool) (end : End) → after.faults ≡ sink.faults → ((end ≡ answer_end whether) × (sink.faults ≡ before.faults))
    ⊎ ((end ≡ WriteFault) × Rose before.faults sink.faults) → ((end ≡ answer_end whether) × (after.faults ≡ before.faults)) ⊎ ((end ≡ WriteFault) × Rose before.faults after.faults)
still_ends before sink after whether end same (inl w) = inl (w.0, same ∙ w.1)
still_ends before sink after whether end same (inr w) = inr (w.0, subst (λ n. Rose before.faults n) (sym same) w.1)

-- the script, the capture and the report were read, one behind the other, from a shelf that stood
pub record HasReadAll (natives : NativeData) (before after : ShelfSeen) (name report : List ℕ) (packets : Option (List ℕ)) : Type 0 where
  pub mid : ShelfSeen
  pub behind : ShelfSeen
  pub script : ScriptData
  pub capture : Option CaptureSeen
  pub text : List ℕ
  pub stood : ShelfStood before mid
  pub loaded : IsLoaded natives before.files name script
  pub stood_on : ShelfStood mid behind
  pub captured : IsCaptured mid.files packets capture
  pub stood_last : ShelfStood behind after
  pub read : IsContent behind.files report text
  pub few : length text ≤ max_report

-- the answer was written, and then the line of how the command ends
pub record HasAnswered (before after : SinkSeen) (whether : Bool) (end : End) : Type 0 where
  pub sink : SinkSeen
  pub tells : TellsAnswer before sink whether end
  pub line : Tells sink after (stop_line end)

pub was_answered : (natives : NativeData) (before after : Outside) (name report : List ℕ) (packets : Option (List ℕ)) (whether : Bool) (end : End)
    (all : HasReadAll natives before.shelf after.shelf name report packets) → Decides whether (IsRunText all.script all.capture before.ends all.text)
    → HasAnswered before.sink after.sink whether end → after.ends ≡ before.ends → CheckHasCause natives before after name report packets end
was_answered natives before after name report packets whether end all judged told ends =
    let stood = stood_stood before.shelf all.mid all.behind all.stood all.stood_on in
    let none : Tells told.sink after.sink [] = subst (λ bytes. Tells told.sink after.sink bytes) (ends_silent before.sink told.sink whether end told.tells) told.line in
    inr (record {
      stood = stood_stood before.shelf all.behind after.shelf stood all.stood_last;
      both = both_read natives before.shelf all.mid name packets all.script all.capture all.stood all.loaded all.captured;
      text = all.text;
      read = subst (λ files. IsContent files report all.text) stood.files all.read;
      few = all.few;
      whether = whether;
      judged = judged;
      tells = (
        tells_only before.sink told.sink after.sink (answer whether) told.tells.0 none,
        still_ends before.sink told.sink after.sink whether end (tells_nothing told.sink after.sink none) told.tells.1,
      );
      ends = ends;
    })
