-- What a text says is one script.
use Rattle.std.specs.Prelude.{◌≡◌, ℕ, List}
use Rattle.spin_script.specs.Laws.{bare_script}
use Rattle.spin_script.specs.States.{NativeData, ScriptData}
use Rattle.spin_report.specs.Laws.{OneHistoryAs, OneRunAs}
use Rattle.spin_inputs.specs.Loading.{IsScriptText}
use Rattle.spin_inputs.specs.Texts.{SaysScript}

-- A text says one script, but for where its boxes lie.
abbrev pub OneScript : Type 0
OneScript =
    (n : NativeData) (text : List ℕ) (script other : ScriptData) → SaysScript n text script → SaysScript n text other
    → bare_script script ≡ bare_script other

-- the text says the script, and no line of it is refused
abbrev pub IsSaidAccepted : NativeData → List ℕ → ScriptData → Type 0
IsSaidAccepted n text script = SaysScript n text script × IsScriptText n text

-- Two runs of what such a text says, over one capture, have one history where their reports are one text.
abbrev pub OneHistorySaid : Type 0
OneHistorySaid = OneHistoryAs IsSaidAccepted

-- And over the same endpoints they are one in all.
abbrev pub OneRunSaid : Type 0
OneRunSaid = OneRunAs IsSaidAccepted
