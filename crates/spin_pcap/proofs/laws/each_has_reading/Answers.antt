use Rattle.spin_pcap.proofs.CaptureTotality.{each_has_body, each_is_capture}
use Rattle.spin_pcap.proofs.laws.each_has_reading.Goals as goal

pub returns-clause-body : goal.returns-clause-body
returns-clause-body c = each_has_body

pub returns-clause-file : goal.returns-clause-file
returns-clause-file c = each_is_capture
