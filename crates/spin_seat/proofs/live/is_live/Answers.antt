use Rattle.std.proofs.Common.{◌<◌, ◌∙◌, sym, arith, length}
use Rattle.spin_seat.proofs.LiveCounts.{live_found, live_further}
use Rattle.spin_seat.proofs.live.is_live.Goals as goal

pub returns-then-has_number : goal.returns-then-has_number
returns-then-has_number g c =
    let s = c.args.version.now.state in
    let inside : c.loop-event.event < length s.events = omega (arith, c.requires.state.events) in
    live_found s c.loop-event.event c.args.number c.bindings.result.now inside c.bindings.ensures (sym c.has_number.ensures ∙ c.if-has_number.true)

pub loop-event-preserved : goal.loop-event-preserved
loop-event-preserved g c =
    let s = c.args.version.now.state in
    let inside : c.loop-event.event < length s.events = omega (arith, c.requires.state.events) in
    live_further s c.loop-event.event c.args.number c.bindings.result.now inside c.bindings.ensures (sym c.has_number.ensures ∙ c.if-has_number.false) c.loop-event.invariant
