-- How the top call ends, and why.
use Rattle.std.specs.Prelude.{◌≡◌, ◌⊎◌, ℕ, List}
use Rattle.spin_script.specs.States.{NativeData}
use Rattle.spin_inputs.specs.declared.end.End.{End}
use Rattle.spin_inputs.specs.declared.end.End.TheVariants.{Usage, Refused, Capture, Unread, WriteFault, Absent}
use Rattle.spin_inputs.specs.declared.end.End.TheVariants.{NoMemory, Endpoint, NoHistory, LongReport, Trace, Unsuited}
use Rattle.spin_inputs.specs.declared.end.Input.{Input}
use Rattle.spin_args.specs.declared.words.Asked.{Asked}
use Rattle.spin_args.specs.declared.words.Asked.TheVariants.{Run, Gen, Check, Join, Vm}
use Rattle.spin_commands.specs.Check.{CheckHasCause, CheckKnows}
use Rattle.spin_inputs.specs.Ends.{exit_status}
use Rattle.spin_cli.specs.Gen.{GenHasCause, GenKnows}
use Rattle.spin_inputs.specs.Outside.{Outside, OnlyStops}
use Rattle.spin_cli.specs.Join.{JoinHasCause, JoinKnows}
use Rattle.spin_cli.specs.Run.{RunHasCause, RunKnows}
use Rattle.spin_commands.specs.Vm.{VmHasCause, VmKnows}
use Rattle.spin_args.specs.Words.{IsAsked}

-- a call: the natives and the words that are handed in, what is seen before and after it, and the status
pub record Call : Type 0 where
  pub natives : NativeData
  pub words : List (List ℕ)
  pub before : Outside
  pub after : Outside
  pub status : ℕ

-- ---- each command

-- Why a command ended so.
abbrev pub CommandHasCause : NativeData → Outside → Outside → Asked → End → Type 0
CommandHasCause natives before after (Run name packets) end =
    RunHasCause natives before after name packets end
CommandHasCause natives before after (Gen number) end =
    GenHasCause natives before after number end
CommandHasCause natives before after (Check name report packets) end =
    CheckHasCause natives before after name report packets end
CommandHasCause natives before after (Join name packets) end =
    JoinHasCause natives before after name packets end
CommandHasCause natives before after (Vm name trace) end =
    VmHasCause natives before after name trace end

-- Which status a command always comes to.
abbrev pub CommandKnows : NativeData → Outside → Outside → Asked → ℕ → Type 0
CommandKnows natives before after (Run name packets) status =
    RunKnows natives before after name packets status
CommandKnows natives before after (Gen number) status = GenKnows before after status
CommandKnows natives before after (Check name report packets) status =
    CheckKnows natives before after name report packets status
CommandKnows natives before after (Join name packets) status =
    JoinKnows natives before after name packets status
CommandKnows natives before after (Vm name trace) status =
    VmKnows natives before after name trace status

-- ---- causes

-- The status of a command is the number of an end that has its cause.
abbrev pub IsCommandStatus : NativeData → Outside → Outside → Asked → ℕ → Type 0
IsCommandStatus natives before after asked status =
    (end : End) × (status ≡ exit_status end) × CommandHasCause natives before after asked end

-- The words ask for a command, and that ended so.
abbrev pub ByCommand : Call → End → Type 0
ByCommand call end =
    (asked : Asked) × IsAsked call.words asked
    × CommandHasCause call.natives call.before call.after asked end

-- The words ask for nothing.
abbrev pub AsksNothing : Call → Type 0
AsksNothing call = (asked : Asked) → IsAsked call.words asked → ⊥

-- Why the call ended so. Memory may be lacking before the words are known.
abbrev pub HasCause : Call → End → Type 0
HasCause call Usage =
    AsksNothing call × (call.after.shelf ≡ call.before.shelf)
    × OnlyStops call.before call.after Usage
HasCause call NoMemory =
    ((call.after.shelf ≡ call.before.shelf) × OnlyStops call.before call.after NoMemory)
    ⊎ ByCommand call NoMemory
HasCause call other = ByCommand call other

-- The status is the number of an end that has its cause.
abbrev pub IsStatus : Call → Type 0
IsStatus call = (end : End) × (call.status ≡ exit_status end) × HasCause call end

-- The status is the number of this end only where the end has its cause.
abbrev pub Row : Call → End → Type 0
Row call end = call.status ≡ exit_status end → HasCause call end

-- Words that ask for nothing are usage, unless memory ran out.
abbrev pub KnowsUsage : Call → Type 0
KnowsUsage call = AsksNothing call → (call.status ≡ 1) ⊎ (call.status ≡ 7)

-- The status is what the command that the words ask for always comes to.
abbrev pub KnowsCommand : Call → Type 0
KnowsCommand call =
    (asked : Asked) → IsAsked call.words asked
    → CommandKnows call.natives call.before call.after asked call.status

-- ---- the table of statuses

-- Each status comes with its cause, and some come always where their cause holds.
pub record KeepsTable (call : Call) : Type 0 where
  pub status : IsStatus call
  pub usage : Row call Usage
  pub usage_always : KnowsUsage call
  pub refused : call.status ≡ 2 → (line : ℕ) × (cause : ℕ) × HasCause call (Refused line cause)
  pub capture : call.status ≡ 3 → (at : ℕ) × (fault : ℕ) × HasCause call (Capture at fault)
  pub read_fault : call.status ≡ 4 → (input : Input) × HasCause call (Unread input)
  pub write_fault : Row call WriteFault
  pub absent : call.status ≡ 6 → (input : Input) × HasCause call (Absent input)
  pub memory : Row call NoMemory
  pub endpoint : call.status ≡ 8 → (at : ℕ) × HasCause call (Endpoint at)
  pub no_history : Row call NoHistory
  pub long_report : Row call LongReport
  pub trace : call.status ≡ 11 → (line : ℕ) × (cause : ℕ) × HasCause call (Trace line cause)
  pub unsuited : Row call Unsuited
  pub commands : KnowsCommand call
