-- No command ends as a call does whose words ask for nothing.
use Rattle.std.proofs.Common.{◌≡◌, ◌⊎◌, ℕ, Bool, true, false, Option, Some, List, ap, arith, inl, inr}
use Rattle.spin_outside.specs.Counts.{Rose}
use Rattle.spin_outside.specs.Seen.{ShelfSeen, SinkSeen}
use Rattle.spin_script.specs.States.{NativeData}
use Rattle.spin_run.specs.declared.end.RunEnd.{RunEnd}
use Rattle.spin_run.specs.declared.end.RunEnd.TheVariants as run
use Rattle.spin_vm.specs.declared.end.VmEnd.{VmEnd}
use Rattle.spin_vm.specs.declared.end.VmEnd.TheVariants as vm
use Rattle.spin_inputs.specs.declared.end.End.TheVariants.{Usage, WriteFault, NoMemory}
use Rattle.spin_commands.specs.Check.{CheckHasCause, NotJudgedBy, answer_end}
use Rattle.spin_inputs.specs.Ends.{exit_status}
use Rattle.spin_cli.specs.Gen.{GenHasCause, RanMade}
use Rattle.spin_inputs.specs.Captures.{NotBothBy}
use Rattle.spin_cli.specs.Join.{JoinHasCause}
use Rattle.spin_inputs.specs.Outside.{OnlyStops, Outside}
use Rattle.spin_cli.specs.Run.{NotRunBy, RunHasCause, end_of}
use Rattle.spin_commands.specs.Vm.{NoSuitedTraceBy, NotTracedBy, VmHasCause, vm_end}

-- no run, and no trace, ends as a call does whose words ask for nothing
run_not_usage : (ended : RunEnd) → Usage ≡ end_of ended → ⊥
run_not_usage run.Whole is = let no : 1 ≡ 0 = ap exit_status is in omega (arith, no)
run_not_usage (run.Capture at fault) is = let no : 1 ≡ 3 = ap exit_status is in omega (arith, no)
run_not_usage run.ReadFault is = let no : 1 ≡ 4 = ap exit_status is in omega (arith, no)
run_not_usage run.WriteFault is = let no : 1 ≡ 5 = ap exit_status is in omega (arith, no)
run_not_usage run.NoMemory is = let no : 1 ≡ 7 = ap exit_status is in omega (arith, no)
run_not_usage (run.Endpoint at) is = let no : 1 ≡ 8 = ap exit_status is in omega (arith, no)

vm_not_usage : (ended : VmEnd) → Usage ≡ vm_end ended → ⊥
vm_not_usage vm.Whole is = let no : 1 ≡ 0 = ap exit_status is in omega (arith, no)
vm_not_usage (vm.Trace line cause) is = let no : 1 ≡ 11 = ap exit_status is in omega (arith, no)
vm_not_usage vm.WriteFault is = let no : 1 ≡ 5 = ap exit_status is in omega (arith, no)
vm_not_usage vm.NoMemory is = let no : 1 ≡ 7 = ap exit_status is in omega (arith, no)

both_not_usage : (natives : NativeData) (before after : ShelfSeen) (name : List ℕ) (packets : Option (List ℕ)) → NotBothBy natives before after name packets Usage → ⊥
both_not_usage natives before after name packets (inl by) = by.0
both_not_usage natives before after name packets (inr by) = by.1

-- nor does any stage before
no_run_usage : (natives : NativeData) (before after : ShelfSeen) (name : List ℕ) (packets : Option (List ℕ)) → NotRunBy natives before after name packets Usage → ⊥
no_run_usage natives before after name packets (inl by) = by.0
no_run_usage natives before after name packets (inr by) = by.1

no_check_usage : (natives : NativeData) (before after : ShelfSeen) (name report : List ℕ) (packets : Option (List ℕ)) → NotJudgedBy natives before after name report packets Usage → ⊥
no_check_usage natives before after name report packets (inl by) = both_not_usage natives before after name packets by
no_check_usage natives before after name report packets (inr by) = by.1

suited_not_usage : (suited : Bool) (before after : ShelfSeen) (trace : List ℕ) → NoSuitedTraceBy suited before after trace Usage → ⊥
suited_not_usage false before after trace by = let no : 1 ≡ 12 = ap exit_status by.0 in omega (arith, no)
suited_not_usage true before after trace by = by

no_trace_usage : (natives : NativeData) (before after : ShelfSeen) (name trace : List ℕ) → NotTracedBy natives before after name trace Usage → ⊥
no_trace_usage natives before after name trace (inl by) = by.0
no_trace_usage natives before after name trace (inr by) = suited_not_usage by.0 before after trace by.2

answer_not_usage : (whether : Bool) → Usage ≡ answer_end whether → ⊥
answer_not_usage true is = let no : 1 ≡ 0 = ap exit_status is in omega (arith, no)
answer_not_usage false is = let no : 1 ≡ 9 = ap exit_status is in omega (arith, no)

told_not_usage : (before after : SinkSeen) (whether : Bool) → ((Usage ≡ answer_end whether) × (after.faults ≡ before.faults)) ⊎ ((Usage ≡ WriteFault) × Rose before.faults after.faults) → ⊥
told_not_usage before after whether (inl w) = answer_not_usage whether w.0
told_not_usage before after whether (inr w) = let no : 1 ≡ 5 = ap exit_status w.0 in omega (arith, no)

gen_not_usage : (natives : NativeData) (before after : Outside) (it : ℕ)
    → ((Usage ≡ NoMemory) × OnlyStops before after NoMemory) ⊎ ((ended : RunEnd) × (Usage ≡ end_of ended) × RanMade natives before after it ended) → ⊥
gen_not_usage natives before after it (inl none) = let no : 1 ≡ 7 = ap exit_status none.0 in omega (arith, no)
gen_not_usage natives before after it (inr ran) = run_not_usage ran.0 ran.1

pub run_cause_not_usage : (natives : NativeData) (before after : Outside) (name : List ℕ) (packets : Option (List ℕ)) → RunHasCause natives before after name packets Usage → ⊥
run_cause_not_usage natives before after name packets (inl stop) = no_run_usage natives before.shelf after.shelf name packets stop.0
run_cause_not_usage natives before after name packets (inr ran) = run_not_usage ran.0 ran.1

pub check_cause_not_usage : (natives : NativeData) (before after : Outside) (name report : List ℕ) (packets : Option (List ℕ)) → CheckHasCause natives before after name report packets Usage → ⊥
check_cause_not_usage natives before after name report packets (inl stop) = no_check_usage natives before.shelf after.shelf name report packets stop.0
check_cause_not_usage natives before after name report packets (inr answered) = told_not_usage before.sink after.sink answered.whether answered.tells.1

pub join_cause_not_usage : (natives : NativeData) (before after : Outside) (name packets : List ℕ) → JoinHasCause natives before after name packets Usage → ⊥
join_cause_not_usage natives before after name packets (inl stop) = both_not_usage natives before.shelf after.shelf name (Some packets) stop.0
join_cause_not_usage natives before after name packets (inr ran) = run_not_usage ran.0 ran.1

pub vm_cause_not_usage : (natives : NativeData) (before after : Outside) (name trace : List ℕ) → VmHasCause natives before after name trace Usage → ⊥
vm_cause_not_usage natives before after name trace (inl stop) = no_trace_usage natives before.shelf after.shelf name trace stop.0
vm_cause_not_usage natives before after name trace (inr ran) = vm_not_usage ran.0 ran.1

pub gen_cause_not_usage : (natives : NativeData) (before after : Outside) (it : ℕ) → GenHasCause natives before after it Usage → ⊥
gen_cause_not_usage natives before after it cause = gen_not_usage natives before after it cause.1
