-- What jobs come to.
use Rattle.std.specs.Prelude.{◌≡◌, []}
use Rattle.std.specs.Arc.{arc_value}
use Rattle.spin_table.specs.Setups.{SetupData}
use Rattle.spin_table.specs.States.{State, VersionValue}
use Rattle.spin_table.specs.Soundness.{IsSoundVersion}
use Rattle.spin_proto.specs.declared.deed.Job.{Job}
use Rattle.spin_proto.specs.declared.deed.JobCall.{JobCall}
use Rattle.spin_proto.specs.declared.reply.Reply.{Reply}
use Rattle.spin_proto.specs.Replies.{IsJobReply, BelongsTo, calls_left}

-- the call can be done on the version, which is sound and whose state may have left it
abbrev pub CanDoAt : SetupData → VersionValue → JobCall → Type 0
CanDoAt d version call = IsSoundVersion d version × BelongsTo version.state call

-- the reply to the call: what it comes to at the state, which leaves no further job
abbrev pub IsReplyFrom : SetupData → State → JobCall → Reply → Type 0
IsReplyFrom d state call reply = IsJobReply d state call reply × (calls_left reply ≡ [])

-- the job can be done: its call can on its version
abbrev pub CanRun : SetupData → Job → Type 0
CanRun d job = CanDoAt d (arc_value job.version) job.call

-- the reply to the job: that to its call at the state of its version
abbrev pub IsReplyTo : SetupData → Job → Reply → Type 0
IsReplyTo d job reply = IsReplyFrom d (arc_value job.version).state job.call reply
