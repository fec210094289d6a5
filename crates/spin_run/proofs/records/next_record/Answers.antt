use Rattle.std.proofs.Common.{None, Ok, ap}
use Rattle.spin_pcap.specs.Passing.{left_for}
use Rattle.spin_run.proofs.Left.{next_gives, stop_gives, stop_is, took_one}
use Rattle.spin_run.proofs.records.next_record.Goals as goal

pub returns-in-Ok-clause-answer : goal.returns-in-Ok-clause-answer
returns-in-Ok-clause-answer g c =
    let p = c.in-Ok.ensures.passed in
    next_gives _ _ _ _ (g.S.Source.seen c.next.new.source) _ p.0 _ _ c.in-Some.is c.in-Ok.ensures.repeats c.in-Ok.ensures.answer c.in-Ok.ensures.reader
    (λ e. c.in-Ok.ensures.few (ap Ok e)) c.in-Ok.ensures.cut p.2

pub returns-in-Err-clause-answer : goal.returns-in-Err-clause-answer
returns-in-Err-clause-answer g c =
    let p = c.in-Err.ensures.passed in
    let now = g.S.Source.seen c.next.new.source in
    stop_gives _ _ None c.next.new.self _ now c.next.new.frame _ _ _ c.in-Some.is (stop_is _ _ _ _ c.taken.ensures.taken c.stop_at.ensures)
    (record {
      gone = p.0;
      left = left_for c.next.new.self.held now.left;
      again = c.in-Err.ensures.repeats;
      answer = c.in-Err.ensures.answer;
      reader_is = c.in-Err.ensures.reader;
      refusal = c.in-Err.ensures.refused;
      passed = p.1;
      within = p.2;
      fits = c.in-Err.ensures.bound.0;
      fits' = c.in-Err.ensures.bound.1;
    })

pub returns-in-Ok-clause-took : goal.returns-in-Ok-clause-took
returns-in-Ok-clause-took g c is =
    let p = c.in-Ok.ensures.passed in
    took_one _ _ _ _ _ _ p.0 _ c.in-Some.is p.1 p.2 c.in-Ok.ensures.bound.0 c.in-Ok.ensures.bound.1 is
