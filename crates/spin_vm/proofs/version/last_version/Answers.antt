use Rattle.std.proofs.Common.{◌≡◌, ◌∙◌, true, List, length, All, IfOk, count_by, sym, ap, subst, arith}
use Rattle.spin_script.specs.declared.script.Line.{Line}
use Rattle.spin_script.specs.Scripts.{script_seen}
use Rattle.spin_script.specs.Soundness.{IsValidWork, is_command_work, command_lines}
use Rattle.spin_table.specs.SetupOf.{data_of}
use Rattle.spin_table.specs.States.{VersionValue, start_of}
use Rattle.spin_vm.specs.Scripts.{AllLead, are_commands}
use Rattle.spin_vm.proofs.Commands.{one_segment, all_commands, lines_are, count_is}
use Rattle.spin_vm.proofs.version.last_version.Goals as goal

pub after_lines-requires-clause-commands : goal.after_lines-requires-clause-commands
after_lines-requires-clause-commands g c =
    let all = all_commands (script_seen c.args.script.now) c.get.result.now c.requires.suited c.get.ensures in
    subst (λ (lines : List Line). are_commands lines ≡ true) (sym c.deref.ensures) all

pub after_lines-requires-clause-valid : goal.after_lines-requires-clause-valid
after_lines-requires-clause-valid g c =
    let one = one_segment (script_seen c.args.script.now) c.requires.suited in
    subst (λ (lines : List Line). All (λ (line : Line). IsValidWork line.work) lines) (lines_are c.args.script.now.segments c.get.result.now one c.get.ensures ∙ sym c.deref.ensures) c.requires.valid

pub after_lines-requires-clause-few : goal.after_lines-requires-clause-few
after_lines-requires-clause-few g c =
    let one = one_segment (script_seen c.args.script.now) c.requires.suited in
    let lines = c.deref.result.now in
    let counted = ap (count_by (λ (line : Line). is_command_work line.work)) (lines_are c.args.script.now.segments c.get.result.now one c.get.ensures ∙ sym c.deref.ensures) in
    let e : command_lines c.args.script.now.segments ≡ length lines = counted ∙ count_is lines (after_lines-requires-clause-commands g c) in
    omega (arith, e, c.requires.few)

pub returns-clause-last : goal.returns-clause-last
returns-clause-last g c =
    let one = one_segment (script_seen c.args.script.now) c.requires.suited in
    let d = data_of c.args.script.now.setup in
    subst (λ (lines : List Line). IfOk c.after_lines.result (λ (v : VersionValue). AllLead d (start_of d) lines v.state))
    (c.deref.ensures ∙ sym (lines_are c.args.script.now.segments c.get.result.now one c.get.ensures)) c.after_lines.ensures.last
