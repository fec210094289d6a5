use Rattle.std.proofs.Common.{map, refl}
use Rattle.spin_endpoint.specs.Inner.View.{view_of}
use Rattle.spin_script.specs.Scripts.{script_seen}
use Rattle.spin_run.specs.Ends.{seen}
use Rattle.spin_run.specs.Inner.Outside.{seen_by, moment_by}
use Rattle.spin_run.proofs.RunEnds.{walks_whole, walks_stopped}
use Rattle.spin_run.proofs.script.run_whole.Goals as goal

pub returns-in-Ok-finish-clause-end : goal.returns-in-Ok-finish-clause-end
returns-in-Ok-finish-clause-end g c =
    let all = λ (ends : _). map (view_of (λ e. (goal.Endpoint-dyn g (e.object.vtable, e.object.value)).seen e.object.value)) ends.ends.items in
    let source = g.S.Source.seen in
    let sink = g.T.Telling.seen in
    let before = seen_by source sink all c.args.outside.now in
    let after = seen (source c.finish.new.source) (sink c.finish.new.out) (all c.run_segments.new.outside.ends.now) in
    let left = c.in-Ok-finish.ensures.answer in
    let a = c.in-Ok.ensures.end left.0 left.1 left.2 in
    let ran = a.2 in
    let now = moment_by source sink all ran.0 c.run_segments.new.outside in
    (a.0, left.1, a.1, walks_whole (script_seen c.args.script) c.args.outside.now.capture.now a.0 left.0 left.1 before now c.in-Ok.length after _ _ _ refl ran.1 a.1 ran.2 left.3 c.in-Ok-finish.ensures.tally)

pub returns-in-Err-finish-clause-end : goal.returns-in-Err-finish-clause-end
returns-in-Err-finish-clause-end g c =
    let all = λ (ends : _). map (view_of (λ e. (goal.Endpoint-dyn g (e.object.vtable, e.object.value)).seen e.object.value)) ends.ends.items in
    let source = g.S.Source.seen in
    let sink = g.T.Telling.seen in
    let before = seen_by source sink all c.args.outside.now in
    let after = seen (source c.finish.new.source) (sink c.finish.new.out) (all c.run_segments.new.outside.ends.now) in
    let left = c.in-Err-finish.ensures.answer in
    let a = c.in-Ok.ensures.end left.0 left.1 left.2 in
    let ran = a.2 in
    let now = moment_by source sink all ran.0 c.run_segments.new.outside in
    (a.0, left.1, a.1, walks_stopped (script_seen c.args.script) c.args.outside.now.capture.now a.0 left.0 left.1 before now c.in-Ok.length after _ _ c.in-Err-finish.end refl ran.1 a.1 left.2 ran.2.stands left.3)
