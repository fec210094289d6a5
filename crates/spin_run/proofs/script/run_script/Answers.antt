use Rattle.std.proofs.Common.{map, None, sym, ap}
use Rattle.spin_endpoint.specs.Inner.View.{view_of}
use Rattle.spin_script.specs.Scripts.{script_seen}
use Rattle.spin_run.specs.Ends.{seen}
use Rattle.spin_run.specs.Records.{room_of}
use Rattle.spin_run.proofs.SegmentRuns.{walk_ends, ends_seen, counts_seen}
use Rattle.spin_run.proofs.script.run_script.Goals as goal

pub returns-clause-end : goal.returns-clause-end
returns-clause-end g c =
    let all = λ (ends : _). map (view_of (λ e. (goal.Endpoint-dyn g (e.object.vtable, e.object.value)).seen e.object.value)) ends in
    let script = script_seen c.args.script in
    let before = seen (g.S.Source.seen c.args.source.now) (g.K.Sink.seen c.args.out.now) (all c.args.ends.now.ends.items) in
    let source = g.S.Source.seen c.walk.new.source in
    let sink = g.K.Sink.seen c.walk.new.out.out.now in
    let ends = all c.walk.new.ends.ends.items in
    let h = c.walk.ensures.end in (
      h.0,
      h.1,
      h.2,
      ends_seen script (room_of c.args.capture) h.0 h.1 before source sink (g.K.Sink.seen c.out-1.given.0) ends c.walk.result
          (walk_ends script (room_of c.args.capture) h.0 h.1 before (seen source sink ends) None None c.walk.result h.3) (ap g.K.Sink.seen (sym (c.out-1.given.1 (sym c.walk.ensures.same)))),
    )

pub returns-clause-counts : goal.returns-clause-counts
returns-clause-counts g c =
    let all = λ (ends : _). map (view_of (λ e. (goal.Endpoint-dyn g (e.object.vtable, e.object.value)).seen e.object.value)) ends in
    let before = seen (g.S.Source.seen c.args.source.now) (g.K.Sink.seen c.args.out.now) (all c.args.ends.now.ends.items) in
    counts_seen c.args.script.endpoints before (g.S.Source.seen c.walk.new.source) (g.K.Sink.seen c.walk.new.out.out.now) (g.K.Sink.seen c.out-1.given.0)
    (all c.walk.new.ends.ends.items) c.walk.result c.walk.ensures.counts (ap g.K.Sink.seen (sym (c.out-1.given.1 (sym c.walk.ensures.same))))
