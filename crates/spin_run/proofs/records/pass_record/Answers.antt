use Rattle.std.proofs.Common.{None, Ok, ap}
use Rattle.spin_pcap.specs.Passing.{left_for}
use Rattle.spin_run.proofs.Left.{next_gives, stop_gives, stop_is}
use Rattle.spin_run.proofs.records.pass_record.Goals as goal

pub returns-in-Ok-clause-answer : goal.returns-in-Ok-clause-answer
returns-in-Ok-clause-answer g c =
    let r = c.in-Ok.ensures.record in (
      r.0,
      next_gives _ _ _ _ (g.S.Source.seen c.pass.new.source) r.0 r.2 _ _ c.in-Some.is c.in-Ok.ensures.repeats r.1 c.in-Ok.ensures.reader
          (λ e. c.in-Ok.ensures.few (ap Ok e)) c.in-Ok.ensures.cut r.4,
    )

pub returns-in-Err-clause-answer : goal.returns-in-Err-clause-answer
returns-in-Err-clause-answer g c =
    let r = c.in-Err.ensures.record in
    let now = g.S.Source.seen c.pass.new.source in (
      r.0,
      stop_gives _ _ None c.pass.new.self _ now r.0 _ _ _ c.in-Some.is (stop_is _ _ _ _ c.taken.ensures.taken c.stop_at.ensures)
          (record {
            gone = r.2;
            left = left_for c.pass.new.self.held now.left;
            again = c.in-Err.ensures.repeats;
            answer = r.1;
            reader_is = c.in-Err.ensures.reader;
            refusal = c.in-Err.ensures.refused;
            passed = r.3;
            within = r.4;
            fits = c.in-Err.ensures.bound.0;
            fits' = c.in-Err.ensures.bound.1;
          }),
    )
