use Rattle.spin_inputs.proofs.CaptureStops.{held_stops}
use Rattle.spin_inputs.proofs.held.behind_header.Goals as goal

pub returns-in-Err-clause-refused : goal.returns-in-Err-clause-refused
returns-in-Err-clause-refused c =
    let stop = held_stops c.args.bytes c.in-Err.fault (rw c.new-source.ensures at c.in-Err.ensures.answer) c.in-Err.ensures.cause in
    rw (c.end_at.ensures, c.at.ensures) stop
