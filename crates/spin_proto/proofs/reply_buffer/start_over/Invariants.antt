use Rattle.std.proofs.Common.{◌≡◌, [], take}
use Rattle.spin_proto.proofs.reply_buffer.start_over.Given as goal

abbrev pub invariant-loop-value : goal.invariant-loop-value
invariant-loop-value l = (l.progress.args ≡ take l.value-index l.args) × (l.room ≡ [])
