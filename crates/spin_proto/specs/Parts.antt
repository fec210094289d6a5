-- The parts of a reply.
use Rattle.std.specs.Prelude.{List, [], Option, Some, None}
use Rattle.spin_raise.specs.declared.answer.Answer.{Answer}
use Rattle.spin_proto.specs.declared.deed.JobCall.{JobCall}
use Rattle.spin_proto.specs.declared.reply.Step.{Step}
use Rattle.spin_proto.specs.declared.reply.Reply.{Reply}
use Rattle.spin_proto.specs.declared.reply.Reply.TheVariants as reply

-- the answer, where the deed was done
abbrev pub answer_in : Reply → Option Answer
answer_in (reply.Ran answer trace jobs) = Some answer
answer_in other = None

-- its steps, none where it wasn't done
abbrev pub trace_in : Reply → List Step
trace_in (reply.Ran answer trace jobs) = trace
trace_in other = []

-- the calls of the jobs that it left, none where it wasn't done
abbrev pub jobs_in : Reply → List JobCall
jobs_in (reply.Ran answer trace jobs) = jobs
jobs_in other = []
