use Rattle.spin_script.specs.Scripts.{script_seen}
use Rattle.spin_vm.proofs.TraceEnds.{output_ends, output_counts}
use Rattle.spin_vm.proofs.run.run_lines.Goals as goal

pub returns-clause-end : goal.returns-clause-end
returns-clause-end g c = output_ends (script_seen c.args.script.now) c.args.trace.now c.as_slice.result.now c.as_slice.ensures (g.K.Sink.seen c.args.out.now)
    (g.K.Sink.seen c.write_output.new.out) c.in_ok-version.version.state c.in_ok-version.ensures.last c.in_ok-version.ensures.sound.state _ c.write_output.result c.write_output.ensures.written

pub returns-clause-counts : goal.returns-clause-counts
returns-clause-counts g c =
    output_counts (script_seen c.args.script.now) c.args.trace.now c.as_slice.result.now c.as_slice.ensures (g.K.Sink.seen c.args.out.now) (g.K.Sink.seen c.write_output.new.out)
    c.in_ok-version.version.state c.in_ok-version.ensures.last c.in_ok-version.ensures.sound.state _ c.write_output.result c.write_output.ensures.written c.write_output.ensures.counts
