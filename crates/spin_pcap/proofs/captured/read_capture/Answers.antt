use Rattle.spin_pcap.proofs.CaptureRecords.{file_from}
use Rattle.spin_pcap.proofs.captured.read_capture.Goals as goal

pub returns-clause-read : goal.returns-clause-read
returns-clause-read g c =
    let seen = g.S.Source.seen in
    file_from (seen c.args.source.now).left c.in-Ok.reader.order c.in-Ok.reader.held (seen c.start.new.source).left c.read_records.result c.in-Ok.ensures.answer c.read_records.ensures.read
