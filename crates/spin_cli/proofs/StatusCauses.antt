-- Which status comes, from the causes of all commands.
use Rattle.std.proofs.Common.{◌≡◌, ◌≤◌, ◌+◌, ℕ, zero, suc, List, refl, sym, subst, ◌∙◌, inl, inr, arith}
use Rattle.spin_outside.specs.Seen.{ShelfSeen}
use Rattle.spin_outside.specs.declared.shelf.TheConstants.{READ_SIZE}
use Rattle.spin_script.specs.States.{NativeData}
use Rattle.spin_inputs.specs.declared.end.End.{End}
use Rattle.spin_inputs.specs.declared.end.End.TheVariants.{Whole, Usage, Refused, Capture, Unread, WriteFault, Absent, NoMemory, Endpoint, NoHistory, LongReport, Trace, Unsuited}
use Rattle.spin_inputs.specs.declared.end.Input.{Input}
use Rattle.spin_inputs.specs.declared.files.TheConstants.{TEXT_LIMIT}
use Rattle.spin_args.specs.declared.words.Asked.{Asked}
use Rattle.spin_args.specs.declared.words.Asked.TheVariants.{Run, Gen, Check, Join, Vm}
use Rattle.spin_args.specs.Words.{IsAsked}
use Rattle.spin_inputs.specs.Ends.{exit_status}
use Rattle.spin_inputs.specs.Loading.{NoScriptBy}
use Rattle.spin_inputs.specs.Outside.{OnlyStops, Outside}
use Rattle.spin_inputs.specs.Shelves.{ReadsFew}
use Rattle.spin_cli.specs.Statuses.{AsksNothing, ByCommand, Call, CommandHasCause, CommandKnows, HasCause, IsCommandStatus, IsStatus, KeepsTable, KnowsCommand, KnowsUsage, Row}
use Rattle.spin_commands.specs.Vm.{IsVmStatus}
use Rattle.spin_commands.proofs.CheckKnown.{check_known}
use Rattle.spin_args.proofs.CommandForms.{one_asked}
use Rattle.spin_cli.proofs.GenCauses.{gen_known}
use Rattle.spin_cli.proofs.JoinKnown.{join_known}
use Rattle.spin_cli.proofs.NotUsage.{check_cause_not_usage, gen_cause_not_usage, join_cause_not_usage, run_cause_not_usage, vm_cause_not_usage}
use Rattle.spin_cli.proofs.RunKnown.{run_known}
use Rattle.spin_inputs.proofs.ShelfLemmas.{if_some, same_stood}
use Rattle.spin_commands.proofs.VmKnown.{vm_known}

-- ---- each command

-- nothing was read
reads_none : (shelf : ShelfSeen) (name : List ℕ) (most : ℕ) → ReadsFew shelf shelf name most
reads_none shelf name most = if_some shelf.files (λ _. shelf.reads name ≤ shelf.reads name + most) (λ held told. omega arith)

-- nor was the script, for want of memory
nothing_read : (natives : NativeData) (before after : ShelfSeen) (name : List ℕ) → after ≡ before → NoScriptBy natives before after name NoMemory
nothing_read natives before after name same =
    (same_stood before after same, subst (λ shelf. ReadsFew before shelf name (TEXT_LIMIT + READ_SIZE)) (sym same) (reads_none before name (TEXT_LIMIT + READ_SIZE)))

-- nothing was done for want of memory, which is a cause of every command
only_memory : (natives : NativeData) (before after : Outside) (asked : Asked) → after.shelf ≡ before.shelf → OnlyStops before after NoMemory → CommandHasCause natives before after asked NoMemory
only_memory natives before after (Run name packets) same only = inl (inl (nothing_read natives before.shelf after.shelf name same), only)
only_memory natives before after (Gen number) same only = (same, inl (refl, only))
only_memory natives before after (Check name report packets) same only = inl (inl (inl (nothing_read natives before.shelf after.shelf name same)), only)
only_memory natives before after (Join name packets) same only = inl (inl (nothing_read natives before.shelf after.shelf name same), only)
only_memory natives before after (Vm name trace) same only = inl (inl (nothing_read natives before.shelf after.shelf name same), only)

-- words that ask for a command aren't usage
not_usage : (natives : NativeData) (before after : Outside) (asked : Asked) → CommandHasCause natives before after asked Usage → ⊥
not_usage natives before after (Run name packets) cause = run_cause_not_usage natives before after name packets cause
not_usage natives before after (Gen number) cause = gen_cause_not_usage natives before after number cause
not_usage natives before after (Check name report packets) cause = check_cause_not_usage natives before after name report packets cause
not_usage natives before after (Join name packets) cause = join_cause_not_usage natives before after name packets cause
not_usage natives before after (Vm name trace) cause = vm_cause_not_usage natives before after name trace cause

-- which status a command always comes to
command_known : (natives : NativeData) (before after : Outside) (asked : Asked) (status : ℕ) → IsCommandStatus natives before after asked status → CommandKnows natives before after asked status
command_known natives before after (Run name packets) status is = run_known natives before after name packets status is.0 is.1 is.2
command_known natives before after (Gen number) status is = gen_known natives before after number status is.0 is.1 is.2
command_known natives before after (Check name report packets) status is = check_known natives before after name report packets status is.0 is.1 is.2
command_known natives before after (Join name packets) status is = join_known natives before after name packets status is.0 is.1 is.2
command_known natives before after (Vm name trace) status is = vm_known natives before after name trace status is.0 is.1 is.2

-- ---- one end for a status

-- The status is that of these ends alone.
abbrev ByStatus : Call → ℕ → Type 0
ByStatus call zero = HasCause call Whole
ByStatus call (suc zero) = HasCause call Usage
ByStatus call (suc (suc zero)) = (line : ℕ) × (cause : ℕ) × HasCause call (Refused line cause)
ByStatus call (suc (suc (suc zero))) = (at : ℕ) × (fault : ℕ) × HasCause call (Capture at fault)
ByStatus call (suc (suc (suc (suc zero)))) = (input : Input) × HasCause call (Unread input)
ByStatus call (suc (suc (suc (suc (suc zero))))) = HasCause call WriteFault
ByStatus call (suc (suc (suc (suc (suc (suc zero)))))) = (input : Input) × HasCause call (Absent input)
ByStatus call (suc (suc (suc (suc (suc (suc (suc zero))))))) = HasCause call NoMemory
ByStatus call (suc (suc (suc (suc (suc (suc (suc (suc zero)))))))) = (at : ℕ) × HasCause call (Endpoint at)
ByStatus call (suc (suc (suc (suc (suc (suc (suc (suc (suc zero))))))))) = HasCause call NoHistory
ByStatus call (suc (suc (suc (suc (suc (suc (suc (suc (suc (suc zero)))))))))) = HasCause call LongReport
ByStatus call (suc (suc (suc (suc (suc (suc (suc (suc (suc (suc (suc zero))))))))))) = (line : ℕ) × (cause : ℕ) × HasCause call (Trace line cause)
ByStatus call (suc (suc (suc (suc (suc (suc (suc (suc (suc (suc (suc (suc zero)))))))))))) = HasCause call Unsuited
ByStatus call other = ⊥

by_end : (call : Call) (end : End) → HasCause call end → ByStatus call (exit_status end)
by_end call Whole cause = cause
by_end call Usage cause = cause
by_end call (Refused line number) cause = (line, number, cause)
by_end call (Capture record_number fault) cause = (record_number, fault, cause)
by_end call (Unread input) cause = (input, cause)
by_end call WriteFault cause = cause
by_end call (Absent input) cause = (input, cause)
by_end call NoMemory cause = cause
by_end call (Endpoint number) cause = (number, cause)
by_end call NoHistory cause = cause
by_end call LongReport cause = cause
by_end call (Trace line number) cause = (line, number, cause)
by_end call Unsuited cause = cause

by_status : (call : Call) (status : ℕ) → IsStatus call → call.status ≡ status → ByStatus call status
by_status call status is same = subst (λ n. ByStatus call n) (sym is.1 ∙ same) (by_end call is.0 is.2)

-- ---- one command for the words

by_asked : (call : Call) (asked : Asked) (end : End) → IsAsked call.words asked → ByCommand call end → CommandHasCause call.natives call.before call.after asked end
by_asked call asked end is by =
    subst (λ a. CommandHasCause call.natives call.before call.after a end) (one_asked call.words by.0 asked by.1.words_are is.words_are) by.2

as_command : (call : Call) (asked : Asked) (end : End) → IsAsked call.words asked → HasCause call end → CommandHasCause call.natives call.before call.after asked end
as_command call asked Usage is cause = absurd (cause.0 asked is)
as_command call asked NoMemory is (inl cause) = only_memory call.natives call.before call.after asked cause.0 cause.1
as_command call asked NoMemory is (inr cause) = by_asked call asked NoMemory is cause
as_command call asked other is cause = by_asked call asked other is cause

commands_known : (call : Call) → IsStatus call → KnowsCommand call
commands_known call status asked is =
    command_known call.natives call.before call.after asked call.status (status.0, status.1, as_command call asked status.0 is status.2)

-- ---- words of no command

usage_at : (call : Call) (end : End) → call.status ≡ exit_status end → HasCause call end → KnowsUsage call
usage_at call Usage is cause none = inl is
usage_at call NoMemory is cause none = inr is
usage_at call other is cause none = absurd (none cause.0 cause.1)

-- ---- the table

pub whole_known : (call : Call) → IsStatus call → Row call Whole
whole_known call is = λ same. by_status call 0 is same

pub table_known : (call : Call) → IsStatus call → KeepsTable call
table_known call is = record {
  status = is;
  usage = λ same. by_status call 1 is same;
  usage_always = usage_at call is.0 is.1 is.2;
  refused = λ same. by_status call 2 is same;
  capture = λ same. by_status call 3 is same;
  read_fault = λ same. by_status call 4 is same;
  write_fault = λ same. by_status call 5 is same;
  absent = λ same. by_status call 6 is same;
  memory = λ same. by_status call 7 is same;
  endpoint = λ same. by_status call 8 is same;
  no_history = λ same. by_status call 9 is same;
  long_report = λ same. by_status call 10 is same;
  trace = λ same. by_status call 11 is same;
  unsuited = λ same. by_status call 12 is same;
  commands = commands_known call is;
}

-- ---- the status of each call

by_command : (call : Call) (asked : Asked) (end : End) → IsAsked call.words asked → CommandHasCause call.natives call.before call.after asked end → HasCause call end
by_command call asked Usage is cause = absurd (not_usage call.natives call.before call.after asked cause)
by_command call asked NoMemory is cause = inr (asked, is, cause)
by_command call asked other is cause = (asked, is, cause)

pub command_status : (call : Call) (asked : Asked) → IsAsked call.words asked → IsCommandStatus call.natives call.before call.after asked call.status → IsStatus call
command_status call asked is status = (status.0, status.1, by_command call asked status.0 is status.2)

-- nothing was done
pub usage_status : (call : Call) → AsksNothing call → call.after.shelf ≡ call.before.shelf → OnlyStops call.before call.after Usage → call.status ≡ 1 → IsStatus call
usage_status call none same only is = (Usage, is, (none, same, only))

pub memory_status : (call : Call) → call.after.shelf ≡ call.before.shelf → OnlyStops call.before call.after NoMemory → call.status ≡ 7 → IsStatus call
memory_status call same only is = (NoMemory, is, inl (same, only))

-- this is what was asked for
pub asked_status : (natives : NativeData) (before after : Outside) (asked other : Asked) (status : ℕ) → asked ≡ other
    → IsCommandStatus natives before after other status → IsCommandStatus natives before after asked status
asked_status natives before after asked other status is by = subst (λ a. IsCommandStatus natives before after a status) (sym is) by

-- a trace is what was asked for
pub vm_status : (natives : NativeData) (before after : Outside) (name trace : List ℕ) (asked : Asked) (status : ℕ)
    → asked ≡ Vm name trace → IsVmStatus natives before after name trace status → IsCommandStatus natives before after asked status
vm_status natives before after name trace asked status is by = subst (λ a. IsCommandStatus natives before after a status) (sym is) by

-- the same of natives that are these
pub with_natives : (natives : NativeData) (call : Call) → call.natives ≡ natives → IsStatus call → IsStatus (record call { natives = natives })
with_natives natives call same is = subst (λ n. IsStatus (record call { natives = n })) same is
