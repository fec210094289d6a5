use Rattle.std.proofs.Common.{Some, map, refl, rules}
use Rattle.spin_endpoint.specs.Inner.View.{view_of}
use Rattle.spin_script.specs.Scripts.{script_seen}
use Rattle.spin_run.proofs.Told.{told_all}
use Rattle.spin_inputs.specs.Held.{held_seen}
use Rattle.spin_cli.proofs.GenCauses.{over_known}
use Rattle.spin_cli.proofs.commands.generate.run_over.Goals as goal

pub returns : goal.returns
returns g c =
    let all = λ (ends : _). map (view_of (λ e. (goal.Endpoint-dyn g (e.object.vtable, e.object.value)).seen e.object.value)) ends in
    let here = over_known (script_seen c.args.script) c.args.number c.args.capture.source c.run_summary.new.source c.args.capture.reader
    (g.K.Sink.seen c.args.out.now) (g.K.Sink.seen c.run_summary.new.out) (all c.args.ends.now.ends.items) (all c.run_summary.new.ends.ends.items) c.run_summary.result
    (told_all _ (Some c.args.capture.reader) (held_seen c.args.capture.source) c.args.capture.source refl c.run_summary.ensures.end) c.run_summary.ensures.counts in
    search (rules, here)
