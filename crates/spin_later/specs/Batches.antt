-- What the calls of batches come to.
use Rattle.std.specs.Arc.{arc_value}
use Rattle.spin_table.specs.Setups.{SetupData}
use Rattle.spin_proto.specs.declared.reply.Reply.{Reply}
use Rattle.spin_jobs.specs.Jobs.{CanDoAt, IsReplyFrom}
use Rattle.spin_later.specs.declared.batch.Call.{Call}

-- version and call belong together: the version is sound, and its state may have left the call
abbrev pub CanDo : SetupData → Call → Type 0
CanDo d c = CanDoAt d (arc_value c.version) c.call

-- the reply to the call: what it comes to on its version, which leaves no further job
abbrev pub IsReplyTo : SetupData → Call → Reply → Type 0
IsReplyTo d c reply = IsReplyFrom d (arc_value c.version).state c.call reply
