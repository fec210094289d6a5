use Rattle.std.proofs.Common.{refl}
use Rattle.spin_table.specs.SetupOf.{data_of}
use Rattle.spin_report.specs.Segments.{asked_in}
use Rattle.spin_run.specs.declared.lane.Lane.{Lane}
use Rattle.spin_run.proofs.LaneProgress.{has_run}
use Rattle.spin_run.proofs.lane.Lane.run.Goals as goal

pub returns : goal.returns
returns g c =
    let mid = c.answer_lines.new.self in
    let new : Lane = record mid { stop = c.err-self.result } in
    has_run (data_of c.args.hub.now.setup) (asked_in c.args.segment.now.lines c.args.frames.now) c.args.self.now mid new c.answer_lines.result
    c.requires.ready.trail c.requires.ready.jobs_are c.answer_lines.ensures.stays c.answer_lines.ensures.comes refl refl refl c.err-self.ensures.value refl
