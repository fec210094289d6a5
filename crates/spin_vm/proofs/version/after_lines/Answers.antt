use Rattle.std.proofs.Common.{◌<◌, ◌≤◌, List, length, refl, sym, subst, arith}
use Rattle.spin_script.specs.declared.script.Line.{Line}
use Rattle.spin_table.specs.SetupOf.{data_of}
use Rattle.spin_vm.specs.Scripts.{AllLead}
use Rattle.spin_vm.proofs.WrittenTexts.{next_line, no_more}
use Rattle.spin_vm.proofs.Commands.{leads_place}
use Rattle.spin_vm.proofs.version.after_lines.Goals as goal

pub loop-line-preserved : goal.loop-line-preserved
loop-line-preserved g c =
    let d = data_of c.args.setup.now in
    let i = c.loop-line.line-index in
    let lt : i < length c.args.lines.now = omega arith in
    let at = next_line c.args.lines.now i c.line-item.result lt c.line-item.is in
    let next = c.in_ok-version-2.version.state in
    let leads = c.in_ok-version-2.ensures.leads in
    let place = leads_place d c.loop-line.version.state c.line-item.result.work next leads in
    record {
      rest = λ last more. c.loop-line.invariant.rest last (subst (λ (lines : List Line). AllLead d c.loop-line.version.state lines last) (sym at) (next, leads, more));
      sound = c.in_ok-version-2.ensures.sound;
      place = omega (arith, place, c.loop-line.invariant.place);
    }

pub returns-clause-last : goal.returns-clause-last
returns-clause-last g c =
    let d = data_of c.args.setup.now in
    let i = c.loop-line.line-index in
    let le : length c.args.lines.now ≤ i = omega arith in
    c.loop-line.invariant.rest c.loop-line.version.state (subst (λ (lines : List Line). AllLead d c.loop-line.version.state lines c.loop-line.version.state) (sym (no_more c.args.lines.now i le)) refl)
