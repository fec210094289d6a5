use Rattle.std.proofs.Common.{◌≡◌, refl, sym, subst, ◌∷◌, []}
use Rattle.spin_table.specs.SetupOf.{data_of}
use Rattle.spin_seat.specs.declared.answer.SeatFault.TheVariants as fault
use Rattle.spin_report.specs.declared.entry.What.TheVariants as what
use Rattle.spin_report.specs.declared.entry.Entry.{Entry}
use Rattle.spin_run.specs.Lanes.{kept_with}
use Rattle.spin_run.specs.declared.lane.Lane.{Lane}
use Rattle.spin_run.specs.Trails.{AddsTo}
use Rattle.spin_run.specs.Inner.Answering.{Comes, asked_alone}
use Rattle.spin_run.proofs.LaneAnswers.{verdict_more, verdict_lost, command_ends, err_is}
use Rattle.spin_word.specs.declared.work.Work.TheVariants as work
use Rattle.spin_run.proofs.lane.Lane.answer_command.Goals as goal

pub returns-in_err-place-clause-comes : goal.returns-in_err-place-clause-comes
returns-in_err-place-clause-comes g c =
    let d = data_of c.args.by.now.hub.now.setup in
    let old = c.args.self.now in
    let new : Lane = record { seat = c.command.new.self; trail = old.trail; jobs = old.jobs; stop = old.stop; entries = old.entries } in
    let asked = asked_alone old.seat.pen.lane c.args.line 0 (work.Command c.args.command.now) in
    let f = c.in_err-place.field-0.0 in
    let is = err_is c.from_residual.result f c.from_residual.ensures.1 in
    subst (λ r. Comes d asked old r new) (sym is) (command_ends d old new c.args.line c.args.command.now f refl refl c.in_err-place.ensures.read
    c.in_err-place.ensures.first refl c.in_err-place.ensures.fault c.in_err-place.ensures.unrefused)

pub returns-in_err-keep-clause-comes : goal.returns-in_err-keep-clause-comes
returns-in_err-keep-clause-comes g c =
    let d = data_of c.args.by.now.hub.now.setup in
    let old = c.args.self.now in
    let new : Lane = record { seat = c.command.new.self; trail = old.trail; jobs = old.jobs; stop = old.stop; entries = c.keep.new.entries } in
    let asked = asked_alone old.seat.pen.lane c.args.line 0 (work.Command c.args.command.now) in
    let judged = c.in_ok-place.field-0 in
    let is = err_is c.from_residual-in_err-keep.result fault.NoMemory c.from_residual-in_err-keep.ensures.1 in
    subst (λ r. Comes d asked old r new) (sym is) (verdict_lost d old new c.args.line c.args.command.now judged.place judged.verdict c.in_ok-place.ensures.answer)

pub returns-in_err-add-clause-comes : goal.returns-in_err-add-clause-comes
returns-in_err-add-clause-comes g c =
    let d = data_of c.args.by.now.hub.now.setup in
    let old = c.args.self.now in
    let new : Lane = record { seat = c.command.new.self; trail = c.add.new.self; jobs = old.jobs; stop = old.stop; entries = c.keep.new.entries } in
    let asked = asked_alone old.seat.pen.lane c.args.line 0 (work.Command c.args.command.now) in
    let judged = c.in_ok-place.field-0 in
    let is = err_is c.from_residual-in_err-add.result fault.NoMemory c.from_residual-in_err-add.ensures.1 in
    subst (λ r. Comes d asked old r new) (sym is) (verdict_lost d old new c.args.line c.args.command.now judged.place judged.verdict c.in_ok-place.ensures.answer)

pub returns-clause-comes : goal.returns-clause-comes
returns-clause-comes g c =
    let old = c.args.self.now in
    let new : Lane = record { seat = c.command.new.self; trail = c.add.new.self; jobs = old.jobs; stop = old.stop; entries = c.keep.new.entries } in
    let entry : Entry = record { place = c.in_ok-place.field-0.place; lane = old.seat.pen.lane; line = c.args.line; part = 0; what = what.Command c.args.command.now c.in_ok-place.field-0.verdict } in
    let added = subst (λ n. AddsTo old.trail (record entry { lane = n }) new.trail) c.lane-lane.ensures.lane c.in_ok-add.ensures in
    let kept = subst (λ n. new.entries ≡ kept_with old.entries (record entry { lane = n } ∷ [])) c.lane-lane.ensures.lane c.in_ok-keep.ensures in
    let d = data_of c.args.by.now.hub.now.setup in
    verdict_more d old new entry refl added refl c.in_ok-place.ensures.answer (c.command.ensures.seat, c.command.ensures.first) c.in_ok-place.ensures.whole kept
