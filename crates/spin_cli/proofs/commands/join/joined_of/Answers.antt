use Rattle.spin_inputs.proofs.CaptureStops.{whole_stops}
use Rattle.spin_cli.proofs.JoinCauses.{joined_by}
use Rattle.spin_cli.proofs.commands.join.joined_of.Goals as goal

pub returns-in-Ok-clause-joined : goal.returns-in-Ok-clause-joined
returns-in-Ok-clause-joined g c =
    joined_by _ _ (g.F.Shelf.seen c.join_file.new.shelf) c.in_ok-file.file c.args.name.now c.in-Ok.bytes c.in_ok-file.ensures.stood c.in_ok-file.ensures.found c.in-Ok.ensures.joined
    c.join_file.ensures.files c.join_file.ensures.absences c.in-Ok.ensures.cause

pub returns-in-Err-clause-refused : goal.returns-in-Err-clause-refused
returns-in-Err-clause-refused g c =
    let found = c.in_ok-file.ensures in
    let stop = whole_stops (g.F.Shelf.seen c.args.shelf.now) (g.F.Shelf.seen c.find_packets.new.shelf) (g.F.Shelf.seen c.join_file.new.shelf) c.args.name.now _
    c.in-Err.bad found.stood found.found c.join_file.ensures.files c.join_file.ensures.absences c.in-Err.ensures.joined c.in-Err.ensures.cause in
    rw c.end_at.ensures stop
