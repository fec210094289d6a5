use Rattle.spin_script.specs.Scripts.{script_seen}
use Rattle.spin_vm.proofs.TraceEnds.{trace_ends, trace_counts}
use Rattle.spin_vm.proofs.run.run_trace.Goals as goal

pub returns-clause-end : goal.returns-clause-end
returns-clause-end g c = trace_ends (script_seen c.args.script) c.args.trace.now c.in-Ok.lines (g.K.Sink.seen c.args.out.now)
    (g.K.Sink.seen c.run_lines.new.out) c.run_lines.result c.end_of.result c.end_of.ensures c.in-Ok.ensures.trace c.run_lines.ensures.end

pub returns-clause-counts : goal.returns-clause-counts
returns-clause-counts g c = trace_counts (g.K.Sink.seen c.args.out.now) (g.K.Sink.seen c.run_lines.new.out) c.run_lines.result c.end_of.result c.end_of.ensures c.run_lines.ensures.counts
