-- Files on the shelf that are read whole, the script among them, and what reading one comes to.
use Rattle.std.specs.Prelude.{◌≡◌, ◌<◌, ◌+◌, ◌⊎◌, ℕ, Option, Some, None, List, length, IfSome, MatchResult, Result, Ok}
use Rattle.spin_outside.specs.Counts.{Rose}
use Rattle.spin_outside.specs.Files.{File, content, IsLacking}
use Rattle.spin_outside.specs.declared.shelf.TheConstants.{READ_SIZE}
use Rattle.spin_outside.specs.Seen.{ShelfSeen}
use Rattle.spin_script.specs.declared.script.ScriptFault.{ScriptFault}
use Rattle.spin_script.specs.declared.script.ScriptFault.TheVariants as fault
use Rattle.spin_script.specs.Language.{IsScript}
use Rattle.spin_script.specs.Scripts.{IsBad}
use Rattle.spin_script.specs.States.{NativeData, ScriptData}
use Rattle.spin_inputs.specs.declared.end.End.{End}
use Rattle.spin_inputs.specs.declared.end.End.TheVariants.{Refused, Unread, Absent, NoMemory}
use Rattle.spin_inputs.specs.declared.end.Input.TheVariants.{Script}
use Rattle.spin_inputs.specs.declared.files.TheConstants.{TEXT_LIMIT}
use Rattle.spin_inputs.specs.declared.files.LoadFault.{LoadFault}
use Rattle.spin_inputs.specs.declared.files.LoadFault.TheVariants as load
use Rattle.spin_inputs.specs.Outside.{Outside, NoReadFailed}
use Rattle.spin_inputs.specs.Shelves.{ReadsFew, ShelfStood, ShelfFailed, ShelfLacked}

-- The text was read under the name: where the shelf tells its files, it is that file's content.
abbrev pub IsContent : Option (List File) → List ℕ → List ℕ → Type 0
IsContent files name text = IfSome files (λ held. content held name ≡ Some text)

-- The text under the name has more bytes than this.
abbrev pub IsOver : ℕ → Option (List File) → List ℕ → Type 0
IsOver limit files name = (text : List ℕ) × IsContent files name text × (limit < length text)

-- which counts a refusal to load raises
abbrev pub LoadRaises : ShelfSeen → ShelfSeen → LoadFault → Type 0
LoadRaises before after load.Absent =
    (after.faults ≡ before.faults) × Rose before.absences after.absences
LoadRaises before after load.Failed =
    Rose before.faults after.faults × (after.absences ≡ before.absences)
LoadRaises before after load.TooLarge =
    (after.faults ≡ before.faults) × (after.absences ≡ before.absences)
LoadRaises before after load.NoMemory =
    (after.faults ≡ before.faults) × (after.absences ≡ before.absences)

abbrev pub LoadsByCount : {T : Type 0} → ShelfSeen → ShelfSeen → Result T LoadFault → Type 0
LoadsByCount before after result =
    MatchResult result
    (λ _. (after.faults ≡ before.faults) × (after.absences ≡ before.absences))
    (LoadRaises before after)

-- ---- the script

-- The script was read under the name.
pub record IsLoaded (natives : NativeData) (files : Option (List File)) (name : List ℕ)
    (script : ScriptData) : Type 0 where
  pub text : List ℕ
  pub read : IsContent files name text
  pub reads : IsScript natives text (Ok script)

-- Some script was read under the name.
abbrev pub Loads : NativeData → Option (List File) → List ℕ → Type 0
Loads natives files name = (script : ScriptData) × IsLoaded natives files name script

-- The text under the name is refused at that line for that cause.
abbrev pub IsScriptRefused : NativeData → Option (List File) → List ℕ → ℕ → ℕ → Type 0
IsScriptRefused natives files name line cause =
    (text : List ℕ) × IsContent files name text × IsBad natives text (fault.Bad line cause)

-- the end of a script that isn't read
abbrev pub end_by : ScriptFault → End
end_by (fault.Bad line cause) = Refused line cause
end_by fault.NoMemory = NoMemory

-- Why there is no script of that name.
abbrev pub LacksScriptBy : NativeData → ShelfSeen → ShelfSeen → List ℕ → End → Type 0
LacksScriptBy natives before after name (Refused line cause) =
    ShelfStood before after × IsScriptRefused natives before.files name line cause
LacksScriptBy natives before after name (Unread Script) = ShelfFailed before after
LacksScriptBy natives before after name (Absent Script) =
    ShelfLacked before after × IsLacking before.files name
LacksScriptBy natives before after name NoMemory = ShelfStood before after
LacksScriptBy natives before after name other = ⊥

-- There is no script of that name, and why; its file was read no further than the limit and one piece more.
abbrev pub NoScriptBy : NativeData → ShelfSeen → ShelfSeen → List ℕ → End → Type 0
NoScriptBy natives before after name end =
    LacksScriptBy natives before after name end × ReadsFew before after name (TEXT_LIMIT + READ_SIZE)

-- ---- what is known of a script where the shelf tells its files

-- The shelf tells its files, and this is the text under that name.
pub record HoldsText (shelf : ShelfSeen) (held : List File) (name text : List ℕ) : Type 0 where
  pub told : shelf.files ≡ Some held
  pub found : content held name ≡ Some text

-- The shelf tells its files, and none has that name.
pub record LacksText (shelf : ShelfSeen) (held : List File) (name : List ℕ) : Type 0 where
  pub told : shelf.files ≡ Some held
  pub lacking : content held name ≡ None

abbrev pub IsScriptText : NativeData → List ℕ → Type 0
IsScriptText natives text = (script : ScriptData) × IsScript natives text (Ok script)

-- A text that is no script is refused, unless a read failed or memory ran out.
abbrev pub KnowsRefused : NativeData → Outside → Outside → List ℕ → ℕ → Type 0
KnowsRefused natives before after name status =
    (held : List File) (text : List ℕ) → HoldsText before.shelf held name text
    → (IsScriptText natives text → ⊥) → NoReadFailed before after
    → (status ≡ 2) ⊎ (status ≡ 7)

-- A script that isn't there is told to be absent, unless a read failed or memory ran out.
abbrev pub KnowsNoScript : Outside → Outside → List ℕ → ℕ → Type 0
KnowsNoScript before after name status =
    (held : List File) → LacksText before.shelf held name → NoReadFailed before after
    → (status ≡ 6) ⊎ (status ≡ 7)
