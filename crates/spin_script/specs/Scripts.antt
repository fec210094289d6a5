-- Scripts as they are answered.
use Rattle.std.specs.Prelude.{◌≡◌, ℕ, List, Result, Ok, Err}
use Rattle.spin_table.specs.SetupOf.{data_of}
use Rattle.spin_grammar.specs.declared.cause.Cause.{Cause}
use Rattle.spin_grammar.specs.declared.cause.Cause.TheVariants as cause
use Rattle.spin_script.specs.declared.script.Script.{Script}
use Rattle.spin_script.specs.declared.script.ScriptFault.{ScriptFault}
use Rattle.spin_script.specs.declared.script.ScriptFault.TheVariants as fault
use Rattle.spin_script.specs.States.{NativeData, ScriptData}
use Rattle.spin_script.specs.Language.{IsScript}

-- the causes are numbered from 1
abbrev pub cause_number : Cause → ℕ
cause_number cause.TooLarge = 1
cause_number cause.NotAscii = 2
cause_number cause.Version = 3
cause_number cause.Keyword = 4
cause_number cause.Order = 5
cause_number cause.Number = 6
cause_number cause.Signature = 7
cause_number cause.Name = 8
cause_number cause.Word = 9
cause_number cause.Bytes = 10
cause_number cause.End = 11
cause_number cause.Next = 12
cause_number cause.Limit = 13
cause_number cause.TooDeep = 14
cause_number cause.TooLong = 15
cause_number cause.BadArg = 16
cause_number cause.BadKind = 17
cause_number cause.NotVar = 18
cause_number cause.NoResult = 19
cause_number cause.Undeclared = 20
cause_number cause.Mismatch = 21
cause_number cause.Native = 22
cause_number cause.Repeated = 23
cause_number cause.Lane = 24

abbrev pub script_seen : {A C E : Type 0} {B : A → Type 0} {D : C → Type 0} {F : E → Type 0}
    → Script A C E B D F → ScriptData
script_seen s = record {
  setup = data_of s.setup;
  version = s.version;
  endpoints = s.endpoints;
  lanes = s.lanes;
  segments = s.segments;
}

-- the text is bad at that line for the cause of that number
abbrev pub IsBad : NativeData → List ℕ → ScriptFault → Type 0
IsBad n text (fault.Bad line number) =
    (c : Cause) × IsScript n text (Err (line, c)) × (number ≡ cause_number c)
IsBad n text fault.NoMemory = Unit {0}

-- the answer to a text is what it comes to; want of memory comes at any time
abbrev pub GivesScript : {A C E : Type 0} {B : A → Type 0} {D : C → Type 0} {F : E → Type 0}
    → NativeData → List ℕ → Result (Script A C E B D F) ScriptFault → Type 0
GivesScript n text (Ok script) = IsScript n text (Ok (script_seen script))
GivesScript n text (Err f) = IsBad n text f
