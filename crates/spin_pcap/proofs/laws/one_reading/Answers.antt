use Rattle.spin_pcap.proofs.CaptureUniqueness.{one_reading}
use Rattle.spin_pcap.proofs.laws.one_reading.Goals as goal

pub returns : goal.returns
returns c = one_reading
