use Rattle.spin_gen.specs.Drafts.{state_behind, drafts}
use Rattle.spin_gen.proofs.CaptureLemmas.{frames_from, frames_count, file_size, is_capture}
use Rattle.spin_gen.proofs.laws.captures_are_read.Goals as goal

pub returns : goal.returns
returns c = λ number.
    let x = state_behind number drafts in
    record { size = file_size x; frames = frames_from 1000 x; count = frames_count 1000 x; capture = is_capture x }
