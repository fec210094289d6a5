use Rattle.std.proofs.Common.{Some, ap, rules}
use Rattle.spin_inputs.specs.Captures.{IsOpened, NoCaptureBy}
use Rattle.spin_inputs.proofs.CaptureStops.{header_stops}
use Rattle.spin_inputs.specs.Shelves.{ReadsOnly}
use Rattle.spin_inputs.proofs.OpenedCaptures.{opened}
use Rattle.spin_inputs.proofs.OtherReads.{reads_one}
use Rattle.spin_inputs.proofs.capture.open.Goals as goal

pub returns-in-Ok-clause-opened : goal.returns-in-Ok-clause-opened
returns-in-Ok-clause-opened g c =
    let found = c.in_ok-file.ensures in
    let here : IsOpened (g.F.Shelf.seen c.args.shelf.now) (g.F.Shelf.seen c.start.new.source.shelf.now) c.args.name.now c.in_ok-file.file c.in-Ok.reader =
    opened _ (g.F.Shelf.seen c.find_packets.new.shelf) _ _ _ c.start.new.source.file _ _ _ found.found found.named found.under
    found.stood c.in-Ok.ensures.answer c.in-Ok.ensures.fresh c.in-Ok.ensures.taken c.in-Ok.ensures.keep c.in-Ok.ensures.cause in
    search (rules, here)

pub returns-in-Err-clause-refused : goal.returns-in-Err-clause-refused
returns-in-Err-clause-refused g c =
    let found = c.in_ok-file.ensures in
    let kept = c.in-Err.ensures.keep in
    let stop : NoCaptureBy (g.F.Shelf.seen c.args.shelf.now) (g.F.Shelf.seen c.start.new.source.shelf.now) (Some c.args.name.now) c.end_at.result =
    rw (c.end_at.ensures, c.at.ensures) (header_stops _ (g.F.Shelf.seen c.find_packets.new.shelf) (g.F.Shelf.seen c.start.new.source.shelf.now) c.args.name.now _ found.stood found.found
    (ap (λ k. k.files) kept) (ap (λ k. k.absences) kept) c.in-Err.fault c.in-Err.ensures.answer c.in-Err.ensures.cause) in
    search (rules, stop)

pub returns-in-Ok-clause-reads : goal.returns-in-Ok-clause-reads
returns-in-Ok-clause-reads g c =
    let seen = g.F.Shelf.seen in
    let found = c.in_ok-file.ensures in
    let only : ReadsOnly (seen c.args.shelf.now) (seen c.start.new.source.shelf.now) c.args.name.now =
    reads_one (seen c.args.shelf.now) (seen c.find_packets.new.shelf) (seen c.start.new.source.shelf.now) c.args.name.now _ c.start.new.source.file _ _
    found.named found.under found.stood c.in-Ok.ensures.keep in
    search (rules, only)

pub returns-in-Err-clause-reads : goal.returns-in-Err-clause-reads
returns-in-Err-clause-reads g c =
    let seen = g.F.Shelf.seen in
    let found = c.in_ok-file.ensures in
    let only : ReadsOnly (seen c.args.shelf.now) (seen c.start.new.source.shelf.now) c.args.name.now =
    reads_one (seen c.args.shelf.now) (seen c.find_packets.new.shelf) (seen c.start.new.source.shelf.now) c.args.name.now _ c.start.new.source.file _ _
    found.named found.under found.stood c.in-Err.ensures.keep in
    search (rules, only)
