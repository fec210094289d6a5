use Rattle.spin_host.proofs.PlainRaises.{done_is_plain}
use Rattle.spin_host.proofs.DeedReplies.{done_is_deed_reply}
use Rattle.spin_host.proofs.law.acts_make_a_plain_raise.Goals as goal

pub returns-clause-plain : goal.returns-clause-plain
returns-clause-plain c = done_is_plain

pub returns-clause-reply : goal.returns-clause-reply
returns-clause-reply c = done_is_deed_reply
