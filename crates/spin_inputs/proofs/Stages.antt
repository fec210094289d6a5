-- The stages of a call: one behind others that left the shelf as it was; and, where the shelf tells its files, which
-- status it is at which the script or the capture ended the call.
use Rattle.std.proofs.Common.{◌≡◌, ◌⊎◌, ℕ, Option, Some, None, List, sym, subst, ◌∙◌, inl, inr}
use Rattle.spin_outside.specs.Counts.{Rose}
use Rattle.spin_outside.specs.Files.{File, content}
use Rattle.spin_outside.specs.Seen.{ShelfSeen}
use Rattle.spin_script.specs.States.{NativeData}
use Rattle.spin_inputs.specs.declared.end.End.{End}
use Rattle.spin_inputs.specs.declared.end.End.TheVariants.{Refused, Capture, Unread, Absent, NoMemory}
use Rattle.spin_inputs.specs.declared.end.Input.TheVariants.{Script, Packets}
use Rattle.spin_inputs.specs.Captures.{HasBadHeader, HasBadRecord, IsBadAt, IsBadCapture, IsGoodCapture, IsLackingCapture, NoCaptureBy, NotBothBy, NoWholeBy}
use Rattle.spin_inputs.specs.Ends.{exit_status}
use Rattle.spin_inputs.specs.Loading.{HoldsText, IsScriptText, KnowsNoScript, KnowsRefused, LacksText, Loads, NoScriptBy}
use Rattle.spin_inputs.specs.Outside.{Outside}
use Rattle.spin_inputs.specs.Shelves.{ShelfStood}
use Rattle.spin_inputs.proofs.BadCaptures.{bad_lacks, good_bad_at}
use Rattle.spin_inputs.proofs.ReadingUniqueness.{bad_header_at, bad_header_lacks, loaded_nothing, loaded_text, not_bad_header, refused_nothing, script_good, script_there, some_not_none}
use Rattle.spin_inputs.proofs.ShelfLemmas.{stood_failed, stood_lacked, stood_stood}

-- ---- behind a shelf that stood

pub opened_behind : (a b c : ShelfSeen) (packets : Option (List ℕ)) (end : End) → ShelfStood a b → NoCaptureBy b c packets end → NoCaptureBy a c packets end
opened_behind a b c packets (Capture at fault) stood by = (stood_stood a b c stood by.0, by.1, subst (λ files. HasBadHeader files packets fault) stood.files by.2)
opened_behind a b c packets (Unread Packets) stood by = (stood_failed a b c stood by.0, by.1)
opened_behind a b c packets (Absent Packets) stood by = (stood_lacked a b c stood by.0, subst (λ files. IsLackingCapture files packets) stood.files by.1)
opened_behind a b c packets NoMemory stood by = stood_stood a b c stood by
opened_behind a b c packets other stood by = absurd by

pub whole_behind : (a b c : ShelfSeen) (packets : Option (List ℕ)) (end : End) → ShelfStood a b → NoWholeBy b c packets end → NoWholeBy a c packets end
whole_behind a b c packets (Capture at fault) stood by = (stood_stood a b c stood by.0, subst (λ files. HasBadRecord files packets at fault) stood.files by.1)
whole_behind a b c packets (Unread Packets) stood by = (stood_failed a b c stood by.0, by.1)
whole_behind a b c packets (Absent Packets) stood by = (stood_lacked a b c stood by.0, subst (λ files. IsLackingCapture files packets) stood.files by.1)
whole_behind a b c packets NoMemory stood by = stood_stood a b c stood by
whole_behind a b c packets other stood by = absurd by

-- ---- the script

-- a text that is no script is refused
script_refused : (natives : NativeData) (before after : ShelfSeen) (held : List File) (name text : List ℕ) (status : ℕ) (end : End) → status ≡ exit_status end
    → HoldsText before held name text → (Rose before.faults after.faults → ⊥) → NoScriptBy natives before after name end → (status ≡ 2) ⊎ (status ≡ 7)
script_refused natives before after held name text status (Refused line cause) is holds calm by = inl is
script_refused natives before after held name text status (Unread Script) is holds calm by = absurd (calm by.0.faults)
script_refused natives before after held name text status (Absent Script) is holds calm by = absurd (script_there before held name text holds by.0.1)
script_refused natives before after held name text status NoMemory is holds calm by = inr is
script_refused natives before after held name text status other is holds calm by = absurd by.0

-- one that isn't there is absent
script_lost : (natives : NativeData) (before after : ShelfSeen) (held : List File) (name : List ℕ) (status : ℕ) (end : End) → status ≡ exit_status end
    → LacksText before held name → (Rose before.faults after.faults → ⊥) → NoScriptBy natives before after name end → (status ≡ 6) ⊎ (status ≡ 7)
script_lost natives before after held name status (Refused line cause) is lacks calm by = absurd (refused_nothing natives before held name line cause lacks by.0.1)
script_lost natives before after held name status (Unread Script) is lacks calm by = absurd (calm by.0.faults)
script_lost natives before after held name status (Absent Script) is lacks calm by = inl is
script_lost natives before after held name status NoMemory is lacks calm by = inr is
script_lost natives before after held name status other is lacks calm by = absurd by.0

-- and only for want of memory a good one isn't read
pub script_memory : (natives : NativeData) (before after : ShelfSeen) (held : List File) (name text : List ℕ) (status : ℕ) (end : End) → status ≡ exit_status end
    → HoldsText before held name text → IsScriptText natives text → (Rose before.faults after.faults → ⊥) → NoScriptBy natives before after name end → status ≡ 7
script_memory natives before after held name text status (Refused line cause) is holds script calm by = absurd (script_good natives before held name text line cause holds script by.0.1)
script_memory natives before after held name text status (Unread Script) is holds script calm by = absurd (calm by.0.faults)
script_memory natives before after held name text status (Absent Script) is holds script calm by = absurd (script_there before held name text holds by.0.1)
script_memory natives before after held name text status NoMemory is holds script calm by = is
script_memory natives before after held name text status other is holds script calm by = absurd by.0

-- The script comes first: it wasn't read, or it was.
abbrev pub ScriptFirst : NativeData → ShelfSeen → ShelfSeen → List ℕ → End → Type 0
ScriptFirst natives before after name end = NoScriptBy natives before after name end ⊎ Loads natives before.files name

pub knows_refused : (natives : NativeData) (before after : Outside) (name : List ℕ) (status : ℕ) (end : End)
    → status ≡ exit_status end → ScriptFirst natives before.shelf after.shelf name end → KnowsRefused natives before after name status
knows_refused natives before after name status end is (inl by) held text holds none calm = script_refused natives before.shelf after.shelf held name text status end is holds calm by
knows_refused natives before after name status end is (inr loads) held text holds none calm = absurd (none (loaded_text natives before.shelf held name text loads.0 holds loads.1))

pub knows_no_script : (natives : NativeData) (before after : Outside) (name : List ℕ) (status : ℕ) (end : End)
    → status ≡ exit_status end → ScriptFirst natives before.shelf after.shelf name end → KnowsNoScript before after name status
knows_no_script natives before after name status end is (inl by) held lacks calm = script_lost natives before.shelf after.shelf held name status end is lacks calm by
knows_no_script natives before after name status end is (inr loads) held lacks calm = absurd (loaded_nothing natives before.shelf held name loads.0 lacks loads.1)

-- ---- a capture that is opened

pub opened_lost : (before after : ShelfSeen) (held : List File) (packets : Option (List ℕ)) (capture : List ℕ) (status : ℕ) (end : End) → status ≡ exit_status end → before.files ≡ Some held
    → packets ≡ Some capture → content held capture ≡ None → (Rose before.faults after.faults → ⊥) → NoCaptureBy before after packets end → (status ≡ 6) ⊎ (status ≡ 7)
opened_lost before after held packets capture status (Capture at fault) is told named lacking calm by =
    absurd (bad_header_lacks held capture fault (bad_header_at before.files held capture fault told (subst (λ p. HasBadHeader before.files p fault) named by.2)) lacking)
opened_lost before after held packets capture status (Unread Packets) is told named lacking calm by = absurd (calm by.0.faults)
opened_lost before after held packets capture status (Absent Packets) is told named lacking calm by = inl is
opened_lost before after held packets capture status NoMemory is told named lacking calm by = inr is
opened_lost before after held packets capture status other is told named lacking calm by = absurd by

-- one that is there
pub opened_bad : (before after : ShelfSeen) (packets : Option (List ℕ)) (status : ℕ) (end : End) → status ≡ exit_status end
    → (Rose before.faults after.faults → ⊥) → (Rose before.absences after.absences → ⊥) → NoCaptureBy before after packets end → (status ≡ 3) ⊎ (status ≡ 7)
opened_bad before after packets status (Capture at fault) is calm there by = inl is
opened_bad before after packets status (Unread Packets) is calm there by = absurd (calm by.0.faults)
opened_bad before after packets status (Absent Packets) is calm there by = absurd (there by.0.absences)
opened_bad before after packets status NoMemory is calm there by = inr is
opened_bad before after packets status other is calm there by = absurd by

pub opened_memory : (before after : ShelfSeen) (held : List File) (packets : Option (List ℕ)) (status : ℕ) (end : End) → status ≡ exit_status end → before.files ≡ Some held
    → IsGoodCapture held packets → (Rose before.faults after.faults → ⊥) → (Rose before.absences after.absences → ⊥) → NoCaptureBy before after packets end → status ≡ 7
opened_memory before after held packets status (Capture at fault) is told good calm there by = absurd (not_bad_header before.files held packets fault told good by.2)
opened_memory before after held packets status (Unread Packets) is told good calm there by = absurd (calm by.0.faults)
opened_memory before after held packets status (Absent Packets) is told good calm there by = absurd (there by.0.absences)
opened_memory before after held packets status NoMemory is told good calm there by = is
opened_memory before after held packets status other is told good calm there by = absurd by

-- ---- a capture that is read whole

bad_at : (files : Option (List File)) (held : List File) (packets : Option (List ℕ)) (at fault : ℕ)
    → files ≡ Some held → HasBadRecord files packets at fault → HasBadRecord (Some held) packets at fault
bad_at files held packets at fault told bad = subst (λ f. HasBadRecord f packets at fault) told bad

bad_there : (held : List File) (packets : Option (List ℕ)) (name : List ℕ) (at fault : ℕ) → packets ≡ Some name → content held name ≡ None → HasBadRecord (Some held) packets at fault → ⊥
bad_there held packets name at fault named lacking bad =
    let is : IsBadAt held name at fault = subst (λ p. HasBadRecord (Some held) p at fault) named bad in
    some_not_none _ (sym is.found ∙ lacking)

-- a good capture isn't refused, and is there
not_bad : (held : List File) (packets : Option (List ℕ)) (at fault : ℕ) → IsGoodCapture held packets → HasBadRecord (Some held) packets at fault → ⊥
not_bad held None at fault good bad = bad
not_bad held (Some name) at fault good bad = good_bad_at held name good.0 good.1 at fault good.2 bad

not_lacking : (held : List File) (packets : Option (List ℕ)) → IsGoodCapture held packets → IsLackingCapture (Some held) packets → ⊥
not_lacking held None good lacking = lacking
not_lacking held (Some name) good lacking = some_not_none _ (sym good.2.found ∙ lacking)

lacking_at : (files : Option (List File)) (held : List File) (packets : Option (List ℕ)) → files ≡ Some held → IsLackingCapture files packets → IsLackingCapture (Some held) packets
lacking_at files held packets told lacking = subst (λ f. IsLackingCapture f packets) told lacking

-- a bad capture that is named is there
bad_named : (held : List File) (packets : Option (List ℕ)) (name : List ℕ) → packets ≡ Some name → IsBadCapture held name → IsLackingCapture (Some held) packets → ⊥
bad_named held packets name named bad lacking = bad_lacks held name (subst (λ p. IsLackingCapture (Some held) p) named lacking) bad

whole_lost : (before after : ShelfSeen) (held : List File) (packets : Option (List ℕ)) (capture : List ℕ) (status : ℕ) (end : End) → status ≡ exit_status end → before.files ≡ Some held
    → packets ≡ Some capture → content held capture ≡ None → (Rose before.faults after.faults → ⊥) → NoWholeBy before after packets end → (status ≡ 6) ⊎ (status ≡ 7)
whole_lost before after held packets capture status (Capture at fault) is told named lacking calm by =
    absurd (bad_there held packets capture at fault named lacking (bad_at before.files held packets at fault told by.1))
whole_lost before after held packets capture status (Unread Packets) is told named lacking calm by = absurd (calm by.0.faults)
whole_lost before after held packets capture status (Absent Packets) is told named lacking calm by = inl is
whole_lost before after held packets capture status NoMemory is told named lacking calm by = inr is
whole_lost before after held packets capture status other is told named lacking calm by = absurd by

whole_bad : (before after : ShelfSeen) (held : List File) (packets : Option (List ℕ)) (capture : List ℕ) (status : ℕ) (end : End) → status ≡ exit_status end → before.files ≡ Some held
    → packets ≡ Some capture → IsBadCapture held capture → (Rose before.faults after.faults → ⊥) → NoWholeBy before after packets end → (status ≡ 3) ⊎ (status ≡ 7)
whole_bad before after held packets capture status (Capture at fault) is told named bad calm by = inl is
whole_bad before after held packets capture status (Unread Packets) is told named bad calm by = absurd (calm by.0.faults)
whole_bad before after held packets capture status (Absent Packets) is told named bad calm by = absurd (bad_named held packets capture named bad (lacking_at before.files held packets told by.1))
whole_bad before after held packets capture status NoMemory is told named bad calm by = inr is
whole_bad before after held packets capture status other is told named bad calm by = absurd by

whole_memory : (before after : ShelfSeen) (held : List File) (packets : Option (List ℕ)) (status : ℕ) (end : End) → status ≡ exit_status end
    → before.files ≡ Some held → IsGoodCapture held packets → (Rose before.faults after.faults → ⊥) → NoWholeBy before after packets end → status ≡ 7
whole_memory before after held packets status (Capture at fault) is told good calm by = absurd (not_bad held packets at fault good (bad_at before.files held packets at fault told by.1))
whole_memory before after held packets status (Unread Packets) is told good calm by = absurd (calm by.0.faults)
whole_memory before after held packets status (Absent Packets) is told good calm by = absurd (not_lacking held packets good (lacking_at before.files held packets told by.1))
whole_memory before after held packets status NoMemory is told good calm by = is
whole_memory before after held packets status other is told good calm by = absurd by

-- ---- script and capture

pub both_first : (natives : NativeData) (before after : ShelfSeen) (name : List ℕ) (packets : Option (List ℕ)) (end : End)
    → NotBothBy natives before after name packets end → ScriptFirst natives before after name end
both_first natives before after name packets end (inl by) = inl by
both_first natives before after name packets end (inr by) = inr by.0

pub both_lost : (natives : NativeData) (before after : ShelfSeen) (held : List File) (name text : List ℕ) (packets : Option (List ℕ)) (capture : List ℕ) (status : ℕ) (end : End)
    → status ≡ exit_status end → HoldsText before held name text → IsScriptText natives text → packets ≡ Some capture → content held capture ≡ None
    → (Rose before.faults after.faults → ⊥) → NotBothBy natives before after name packets end → (status ≡ 6) ⊎ (status ≡ 7)
both_lost natives before after held name text packets capture status end is holds script named lacking calm (inl by) =
    inr (script_memory natives before after held name text status end is holds script calm by)
both_lost natives before after held name text packets capture status end is holds script named lacking calm (inr by) =
    whole_lost before after held packets capture status end is holds.told named lacking calm by.1

pub both_bad : (natives : NativeData) (before after : ShelfSeen) (held : List File) (name text : List ℕ) (packets : Option (List ℕ)) (capture : List ℕ) (status : ℕ) (end : End)
    → status ≡ exit_status end → HoldsText before held name text → IsScriptText natives text → packets ≡ Some capture → IsBadCapture held capture
    → (Rose before.faults after.faults → ⊥) → NotBothBy natives before after name packets end → (status ≡ 3) ⊎ (status ≡ 7)
both_bad natives before after held name text packets capture status end is holds script named bad calm (inl by) =
    inr (script_memory natives before after held name text status end is holds script calm by)
both_bad natives before after held name text packets capture status end is holds script named bad calm (inr by) =
    whole_bad before after held packets capture status end is holds.told named bad calm by.1

pub both_memory : (natives : NativeData) (before after : ShelfSeen) (held : List File) (name text : List ℕ) (packets : Option (List ℕ)) (status : ℕ) (end : End) → status ≡ exit_status end
    → HoldsText before held name text → IsScriptText natives text → IsGoodCapture held packets → (Rose before.faults after.faults → ⊥) → NotBothBy natives before after name packets end → status ≡ 7
both_memory natives before after held name text packets status end is holds script good calm (inl by) = script_memory natives before after held name text status end is holds script calm by
both_memory natives before after held name text packets status end is holds script good calm (inr by) = whole_memory before after held packets status end is holds.told good calm by.1
