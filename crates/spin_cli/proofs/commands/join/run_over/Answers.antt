use Rattle.std.proofs.Common.{Some, map, refl, rules}
use Rattle.spin_endpoint.specs.Inner.View.{view_of}
use Rattle.spin_script.specs.Scripts.{script_seen}
use Rattle.spin_run.proofs.Told.{told_all}
use Rattle.spin_inputs.specs.Held.{held_seen}
use Rattle.spin_cli.proofs.JoinCauses.{over_known}
use Rattle.spin_cli.proofs.commands.join.run_over.Goals as goal

pub returns : goal.returns
returns g c =
    let all = λ (ends : _). map (view_of (λ e. (goal.Endpoint-dyn g (e.object.vtable, e.object.value)).seen e.object.value)) ends in
    let here = over_known (script_seen c.args.script) c.args.joined.source c.run_script.new.source c.args.joined.reader (g.K.Sink.seen c.args.out.now)
    (g.K.Sink.seen c.run_script.new.out) (all c.args.ends.now.ends.items) (all c.run_script.new.ends.ends.items) c.run_script.result
    (told_all _ (Some c.args.joined.reader) (held_seen c.args.joined.source) c.args.joined.source refl c.run_script.ensures.end) c.run_script.ensures.counts in
    search (rules, here)
