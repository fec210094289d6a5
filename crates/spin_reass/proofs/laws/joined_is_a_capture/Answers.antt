use Rattle.spin_reass.proofs.CaptureLemmas as all
use Rattle.spin_reass.proofs.laws.joined_is_a_capture.Goals as goal

pub returns : goal.returns
returns c = all.joined_is_capture
