use Rattle.spin_pcap.proofs.CaptureUniqueness.{one_answer}
use Rattle.spin_pcap.proofs.laws.one_answer.Goals as goal

pub returns : goal.returns
returns c = one_answer
