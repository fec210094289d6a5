-- What a report is judged by, and a run begins with, as it is handed in; why it isn't read, and how that is told.
use Rattle.std.specs.Prelude.{ℕ, List, Option, Ok, ⊤}
use Rattle.spin_script.specs.Language.{IsScript}
use Rattle.spin_script.specs.Scripts.{IsBad}
use Rattle.spin_script.specs.States.{NativeData, ScriptData}
use Rattle.spin_script.specs.declared.script.ScriptFault.TheVariants as fault
use Rattle.spin_c.specs.Packets.{AreRefused}
use Rattle.spin_c.specs.declared.reading.Unread.{Unread}
use Rattle.spin_c.specs.declared.reading.Unread.TheVariants as unread
use Rattle.spin_c.specs.declared.told.SpinFault.{SpinFault}

-- The text is that of a script, and the capture is refused at that record by that fault.
pub record IsNoCapture (natives : NativeData) (text : List ℕ) (packets : Option (List ℕ)) (at fault : ℕ) : Type 0 where
  pub script : ScriptData
  pub read : IsScript natives text (Ok script)
  pub refused : AreRefused packets at fault

-- Why a text and a capture aren't read; want of memory comes at any time.
abbrev pub IsUnread : NativeData → List ℕ → Option (List ℕ) → Unread → Type 0
IsUnread natives text packets (unread.Bad line cause) = IsBad natives text (fault.Bad line cause)
IsUnread natives text packets (unread.BadCapture at fault) = IsNoCapture natives text packets at fault
IsUnread natives text packets unread.NoMemory = ⊤

-- the number that this is told by
abbrev pub unread_number : Unread → ℕ
unread_number unread.NoMemory = 1
unread_number (unread.Bad line cause) = 2
unread_number (unread.BadCapture at fault) = 16

-- where the script is bad, or the capture, and why
abbrev pub unread_fault : Unread → SpinFault
unread_fault (unread.Bad line cause) = record { line = line; cause = cause }
unread_fault (unread.BadCapture at fault) = record { line = at; cause = fault }
unread_fault unread.NoMemory = record { line = 0; cause = 0 }
