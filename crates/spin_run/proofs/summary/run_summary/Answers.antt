use Rattle.std.proofs.Common.{◌≡◌, map, rules, Some, [], subst}
use Rattle.spin_endpoint.specs.Inner.View.{view_of}
use Rattle.spin_script.specs.Scripts.{script_seen}
use Rattle.spin_run.specs.declared.end.RunEnd.{RunEnd}
use Rattle.spin_run.specs.declared.end.RunEnd.TheVariants as end
use Rattle.spin_run.specs.Ends.{seen}
use Rattle.spin_run.specs.Records.{room_of}
use Rattle.spin_run.specs.Summaries.{Counts, counts_in, untold}
use Rattle.spin_run.specs.Inner.Steps.{WalksBy}
use Rattle.spin_run.proofs.SummaryEnds.{whole_summed, whole_unwritten}
use Rattle.spin_run.proofs.summary.run_summary.Goals as goal

pub returns-in-Ok-clause-end : goal.returns-in-Ok-clause-end
returns-in-Ok-clause-end g c =
    let all = λ (ends : _). map (view_of (λ e. (goal.Endpoint-dyn g (e.object.vtable, e.object.value)).seen e.object.value)) ends in
    let before = seen (g.S.Source.seen c.args.source.now) (g.K.Sink.seen c.args.out.now) (all c.args.ends.now.ends.items) in
    let after = seen (g.S.Source.seen c.walk-ended.new.source) (g.K.Sink.seen c.write_summary.new.out) (all c.walk-ended.new.ends.ends.items) in
    let script = script_seen c.args.script in
    let tally = c.walk-ended.new.out in
    let whole : c.walk-ended.result ≡ end.Whole = search rules in
    let h = c.walk-ended.ensures.end in
    let walked = subst (λ (t : Counts). WalksBy script (room_of c.args.capture) h.0 h.1 (untold before) (Some t) (untold after) (Some tally) c.walk-ended.result) c.new-tally.ensures h.3 in (
      h.0,
      h.1,
      h.2,
      whole_summed script (room_of c.args.capture) c.args.number h.0 h.1 before after tally
          (subst (λ (e : RunEnd). WalksBy script (room_of c.args.capture) h.0 h.1 (untold before) (Some (counts_in [])) (untold after) (Some tally) e) whole walked) c.in-Ok.ensures.told,
    )

pub returns-clause-end : goal.returns-clause-end
returns-clause-end g c =
    let all = λ (ends : _). map (view_of (λ e. (goal.Endpoint-dyn g (e.object.vtable, e.object.value)).seen e.object.value)) ends in
    let source = g.S.Source.seen c.args.source.now in
    let before = seen source (g.K.Sink.seen c.args.out.now) (all c.args.ends.now.ends.items) in
    let after = seen (g.S.Source.seen c.walk-ended.new.source) (g.K.Sink.seen c.write_summary.new.out) (all c.walk-ended.new.ends.ends.items) in
    let script = script_seen c.args.script in
    let tally = c.walk-ended.new.out in
    let whole : c.walk-ended.result ≡ end.Whole = search rules in
    let h = c.walk-ended.ensures.end in
    let walked = subst (λ (t : Counts). WalksBy script (room_of c.args.capture) h.0 h.1 (untold before) (Some t) (untold after) (Some tally) c.walk-ended.result) c.new-tally.ensures h.3 in (
      h.0,
      h.1,
      h.2,
      whole_unwritten script (room_of c.args.capture) c.args.number c.args.capture source h.0 h.1 before after tally c.in-Err.end h.2
          (subst (λ (e : RunEnd). WalksBy script (room_of c.args.capture) h.0 h.1 (untold before) (Some (counts_in [])) (untold after) (Some tally) e) whole walked) c.in-Err.ensures.told,
    )
