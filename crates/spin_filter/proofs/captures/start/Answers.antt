use Rattle.std.proofs.Common.{ℕ, List, [], subst, ap, sym, ◌∙◌}
use Rattle.spin_pcap.specs.Captures.{header_of}
use Rattle.spin_pcap.specs.Passing.{Passes}
use Rattle.spin_pcap.proofs.FileHeaders.{starts-refused}
use Rattle.spin_frames.specs.Heads.{IsHead}
use Rattle.spin_filter.proofs.HeadsRead.{head-read}
use Rattle.spin_filter.specs.declared.stop.Stop.{Stop}
use Rattle.spin_filter.specs.Inner.Stopping.{StopsHeader}
use Rattle.spin_filter.proofs.Stopped.{stop-header}
use Rattle.spin_filter.proofs.captures.start.Goals as goal

pub returns-in-Ok-clause-head : goal.returns-in-Ok-clause-head
returns-in-Ok-clause-head g c =
    let seen = g.S.Source.seen in
    let passes = subst (λ (ys : List ℕ). Passes [] ys (seen c.args.source.now) c.need.new.self (seen c.need.new.source)) c.clear.ensures c.need.ensures.passed in
    head-read c.need.new.self c.skip.new.self (seen c.args.source.now) (seen c.need.new.source) c.in-Ok.head passes
    (subst (λ (ys : List ℕ). IsHead ys c.in-Ok.head) c.held.ensures.same c.in-Ok.ensures) c.skip.ensures.skipped

pub returns-in-Err-read_head-clause-stop : goal.returns-in-Err-read_head-clause-stop
returns-in-Err-read_head-clause-stop g c =
    let seen = g.S.Source.seen in
    let is = ap (λ ys. header_of ys) (sym c.held.ensures.same) ∙ c.in-Err-read_head.ensures in
    subst (λ (why : Stop). StopsHeader (seen c.args.source.now).left (seen c.args.source.now).faults (seen c.need.new.source).faults why) (sym c.at.ensures)
    (stop-header (seen c.args.source.now).left c.need.new.self (seen c.args.source.now).faults (seen c.need.new.source).faults c.in-Err-read_head.fault is
    (starts-refused c.clear.new.self c.need.new.self (seen c.args.source.now) (seen c.need.new.source) c.in-Err-read_head.fault c.clear.ensures c.need.ensures.passed c.in_default.ensures.end is))
