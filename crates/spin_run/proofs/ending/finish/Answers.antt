use Rattle.std.proofs.Common.{[], refl}
use Rattle.spin_text.specs.Words.{ended}
use Rattle.spin_report.specs.Histories.{end_line}
use Rattle.spin_run.specs.Ends.{seen}
use Rattle.spin_run.proofs.RunEnds.{finishes}
use Rattle.spin_run.proofs.FaultCounts.{results_telling}
use Rattle.spin_run.proofs.ending.finish.Goals as goal

pub returns-clause-answer : goal.returns-clause-answer
returns-clause-answer g c =
    let h = c.in_ok-counts.ensures.answer in
    (h.0, h.1, h.2, finishes c.args.length c.args.capture.now (g.T.Telling.seen c.args.out.now) (g.T.Telling.seen c.end.new.self) c.in_ok-counts.counts h.0 h.1 c.end.result h.3 c.end.ensures.told)

pub returns-clause-counts : goal.returns-clause-counts
returns-clause-counts g c =
    let before = seen (g.S.Source.seen c.args.source.now) (g.T.Telling.seen c.args.out.now) [] in
    let after = seen (g.S.Source.seen c.rest_counts.new.source) (g.T.Telling.seen c.end.new.self) [] in
    results_telling [] (ended (end_line c.args.length c.in_ok-counts.counts)) c.end.result before after c.in_ok-counts.ensures.cause refl c.end.ensures.told c.end.ensures.cause
