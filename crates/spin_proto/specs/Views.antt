-- Replies that are lent.
use Rattle.std.specs.Prelude.{List, Result, Ok, Err}
use Rattle.spin_raise.specs.declared.answer.Answer.{Answer}
use Rattle.spin_proto.specs.declared.deed.JobCall.{JobCall}
use Rattle.spin_proto.specs.declared.reply.Reply.{Reply}
use Rattle.spin_proto.specs.declared.reply.Reply.TheVariants as reply
use Rattle.spin_proto.specs.declared.reply.Step.{Step}

-- the reply that stands in parts: the steps and the calls of jobs count where the deed was done, and another reply is
-- what is kept of it
abbrev pub reply_of_parts : {R : Type 0} → (R → Reply) → Result Answer R → List Step → List JobCall → Reply
reply_of_parts whole (Ok answer) trace jobs = reply.Ran answer trace jobs
reply_of_parts whole (Err kept) trace jobs = whole kept
