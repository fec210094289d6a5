use Rattle.std.proofs.Common.{map, rules}
use Rattle.spin_endpoint.specs.Inner.View.{view_of}
use Rattle.spin_script.specs.Scripts.{script_seen}
use Rattle.spin_cli.proofs.RunCauses.{over_known}
use Rattle.spin_cli.proofs.commands.run.run_over.Goals as goal

pub returns : goal.returns
returns g c =
    let all = λ (ends : _). map (view_of (λ e. (goal.Endpoint-dyn g (e.object.vtable, e.object.value)).seen e.object.value)) ends in
    let here = over_known (script_seen c.args.script) c.args.opened.0 c.run_script.new.source.file _ c.run_script.new.source.shelf.ghost_name c.args.opened.1
    (g.F.Shelf.seen c.args.shelf.now) (g.F.Shelf.seen c.run_script.new.source.shelf.now) (g.K.Sink.seen c.args.out.now) (g.K.Sink.seen c.run_script.new.out)
    (all c.args.ends.now.ends.items) (all c.run_script.new.ends.ends.items) c.run_script.result c.run_script.ensures.keep c.run_script.ensures.end c.run_script.ensures.counts in
    search (rules, here)
