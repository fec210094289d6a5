use Rattle.spin_proto.proofs.RenamedReplies.{replies_both}
use Rattle.spin_proto.proofs.law.renamed_states_reply_alike.Goals as goal

pub returns : goal.returns
returns c = replies_both
