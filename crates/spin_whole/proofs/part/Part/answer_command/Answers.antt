use Rattle.std.proofs.Common.{◌≡◌, refl, sym, ap, subst, ◌∙◌}
use Rattle.std.specs.Arc.{arc_value}
use Rattle.std.proofs.lemmas.Result.{on_ok_weaker}
use Rattle.spin_table.specs.SetupOf.{data_of}
use Rattle.spin_table.specs.Soundness.{IsSoundVersion}
use Rattle.spin_table.specs.States.{VersionValue}
use Rattle.spin_report.specs.declared.entry.What.TheVariants as what
use Rattle.spin_report.specs.declared.entry.Entry.{Entry}
use Rattle.spin_whole.specs.Inner.Parts.{AddsEntry, state_of}
use Rattle.spin_whole.specs.declared.part.Part.{Part}
use Rattle.spin_whole.proofs.AnswerSteps.{one_answered}
use Rattle.spin_whole.proofs.part.Part.answer_command.Goals as goal

pub returns-clause-answers : goal.returns-clause-answers
returns-clause-answers g c =
    let d = data_of c.args.setup.now in
    let line = c.args.line.now in
    let old = c.args.self.now in
    let version = c.in_ok-verdict.field-0.version in
    let verdict = c.in_ok-verdict.field-0.verdict in
    let mid : Part = record old { version = version } in
    let entry : Entry = record { place = c.place.result; lane = line.lane; line = line.number; part = 0; what = what.Command c.args.command.now verdict } in
    let place : entry.place ≡ (state_of mid).place = c.place.ensures ∙ ap (λ (t : VersionValue). t.state.place) c.deref.ensures in
    on_ok_weaker c.add.result
    (λ (adds : AddsEntry d entry mid c.add.new.self). one_answered d old mid c.add.new.self entry (c.in_ok-verdict.ensures.step, place) refl refl refl refl adds)
    c.add.ensures

pub returns-clause-sound : goal.returns-clause-sound
returns-clause-sound g c =
    let d = data_of c.args.setup.now in
    let line = c.args.line.now in
    let mid : Part = record c.args.self.now { version = c.in_ok-verdict.field-0.version } in
    let entry : Entry = record { place = c.place.result; lane = line.lane; line = line.number; part = 0; what = what.Command c.args.command.now c.in_ok-verdict.field-0.verdict } in
    on_ok_weaker c.add.result
    (λ (adds : AddsEntry d entry mid c.add.new.self). subst (λ v. IsSoundVersion d (arc_value v)) (sym adds.version) c.in_ok-verdict.ensures.sound)
    c.add.ensures
