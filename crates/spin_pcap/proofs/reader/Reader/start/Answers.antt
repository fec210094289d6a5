use Rattle.std.proofs.Common.{ap, sym, ◌∙◌}
use Rattle.spin_pcap.specs.Captures.{header_of}
use Rattle.spin_pcap.proofs.FileHeaders.{starts, starts-refused, took-header}
use Rattle.spin_pcap.proofs.reader.Reader.start.Goals as goal

pub returns-in-Err-clause-answer : goal.returns-in-Err-clause-answer
returns-in-Err-clause-answer g c =
    starts-refused c.in_ok-window.window c.need.new.self _ _ c.in-Err.fault c.in_ok-window.ensures c.need.ensures.passed c.in_ok-need.ensures.end
    (ap (λ ys. header_of ys) (sym c.held.ensures.same) ∙ sym c.read_header.ensures ∙ c.in-Err.is)

pub returns-clause-answer : goal.returns-clause-answer
returns-clause-answer g c =
    starts c.in_ok-window.window c.need.new.self c.skip.new.self _ _ c.in-Ok.order c.in_ok-window.ensures c.need.ensures.passed
    (ap (λ ys. header_of ys) (sym c.held.ensures.same) ∙ sym c.read_header.ensures ∙ c.in-Ok.is) c.skip.ensures.skipped

pub returns-clause-taken : goal.returns-clause-taken
returns-clause-taken g c =
    took-header c.in_ok-window.window c.need.new.self c.skip.new.self _ _ c.in-Ok.order c.in_ok-window.ensures c.need.ensures.passed
    (ap (λ ys. header_of ys) (sym c.held.ensures.same) ∙ sym c.read_header.ensures ∙ c.in-Ok.is) c.skip.ensures.skipped
