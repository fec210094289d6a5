use Rattle.std.proofs.Common.{◌<◌, ◌≤◌, arith, length}
use Rattle.spin_table.specs.SetupOf.{data_of}
use Rattle.spin_c.proofs.LiveNumbers.{few_there, sum_more, sum_whole}
use Rattle.spin_c.proofs.crowded.live_count.Goals as goal

pub overflow_cast-count : goal.overflow_cast-count
overflow_cast-count g c =
    let s = c.args.version.now.state in
    let inside : c.loop-event.event < length s.events = omega (arith, c.requires.state.events) in
    let few = few_there s c.loop-event.event c.bindings.result.now inside c.bindings.ensures (data_of c.args.setup.now) c.requires.state in
    let most = c.live-few.ensures.few in
    omega (arith, few, most)

pub overflow_add-count : goal.overflow_add-count
overflow_add-count g c =
    let s = c.args.version.now.state in
    let inside : c.loop-event.event < length s.events = omega (arith, c.requires.state.events) in
    let few = few_there s c.loop-event.event c.bindings.result.now inside c.bindings.ensures (data_of c.args.setup.now) c.requires.state in
    let so_far = c.loop-event.invariant in
    omega (arith, few, c.live-few.ensures.few, so_far.1, c.events-event-end.ensures.few)

pub loop-event-preserved : goal.loop-event-preserved
loop-event-preserved g c =
    let s = c.args.version.now.state in
    let inside : c.loop-event.event < length s.events = omega (arith, c.requires.state.events) in
    let few = few_there s c.loop-event.event c.bindings.result.now inside c.bindings.ensures (data_of c.args.setup.now) c.requires.state in
    let so_far = c.loop-event.invariant in (
      sum_more s c.loop-event.event c.bindings.result.now inside c.bindings.ensures c.loop-event.count so_far.0,
      omega (arith, few, c.live-few.ensures.few, so_far.1),
    )

pub returns-clause-count : goal.returns-clause-count
returns-clause-count g c =
    let s = c.args.version.now.state in
    let past : length s.events ≤ c.loop-event.event = omega (arith, c.requires.state.events) in
    sum_whole (data_of c.args.setup.now) s c.loop-event.event c.loop-event.count c.requires.state past c.loop-event.invariant.0

pub returns-clause-few : goal.returns-clause-few
returns-clause-few g c =
    let so_far = c.loop-event.invariant in
    omega (arith, so_far.1, c.loop-event.auto.event-end, c.events-event-end.ensures.few)
