use Rattle.std.proofs.Common.{ap, rules}
use Rattle.spin_inputs.specs.Captures.{NoWholeBy}
use Rattle.spin_inputs.specs.Shelves.{ReadsNamed}
use Rattle.spin_inputs.proofs.CaptureStops.{whole_stops}
use Rattle.spin_inputs.proofs.OtherReads.{reads_one}
use Rattle.spin_inputs.proofs.records.captured_of.Goals as goal

pub returns-in-Err-clause-refused : goal.returns-in-Err-clause-refused
returns-in-Err-clause-refused g c =
    let seen = g.F.Shelf.seen in
    let found = c.in_ok-file.ensures in
    let kept = c.in-Err.ensures.keep in
    let stop : NoWholeBy (seen c.args.shelf.now) (seen c.read_capture.new.source.shelf.now) c.args.packets.now c.end_at.result =
    rw (c.in-Some.is, c.end_at.ensures) (whole_stops (seen c.args.shelf.now) (seen c.find_packets.new.shelf) (seen c.read_capture.new.source.shelf.now) c.in-Some.name _
    c.in-Err.bad found.stood found.found (ap (λ k. k.files) kept) (ap (λ k. k.absences) kept) c.in-Err.ensures.read c.in-Err.ensures.cause) in
    search (rules, stop)

pub returns-in-Ok-clause-reads : goal.returns-in-Ok-clause-reads
returns-in-Ok-clause-reads g c =
    let seen = g.F.Shelf.seen in
    let found = c.in_ok-file.ensures in
    let only : ReadsNamed (seen c.args.shelf.now) (seen c.read_capture.new.source.shelf.now) c.args.packets.now =
    rw (c.in-Some.is) (reads_one (seen c.args.shelf.now) (seen c.find_packets.new.shelf) (seen c.read_capture.new.source.shelf.now) c.in-Some.name _ c.read_capture.new.source.file _ _
    found.named found.under found.stood c.in-Ok.ensures.keep) in
    search (rules, only)

pub returns-in-Err-clause-reads : goal.returns-in-Err-clause-reads
returns-in-Err-clause-reads g c =
    let seen = g.F.Shelf.seen in
    let found = c.in_ok-file.ensures in
    let only : ReadsNamed (seen c.args.shelf.now) (seen c.read_capture.new.source.shelf.now) c.args.packets.now =
    rw (c.in-Some.is) (reads_one (seen c.args.shelf.now) (seen c.find_packets.new.shelf) (seen c.read_capture.new.source.shelf.now) c.in-Some.name _ c.read_capture.new.source.file _ _
    found.named found.under found.stood c.in-Err.ensures.keep) in
    search (rules, only)
