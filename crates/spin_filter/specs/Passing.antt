-- What a record comes to: its raise at the state that the commands left, and the jobs that this leaves.
use Rattle.std.specs.Prelude.{◌≡◌, ℕ, List, [], ◌∷◌}
use Rattle.spin_values.specs.declared.values.Value.TheVariants as value
use Rattle.spin_word.specs.declared.work.Deed.{Deed}
use Rattle.spin_word.specs.declared.work.Deed.TheVariants as deed
use Rattle.spin_table.specs.Setups.{SetupData}
use Rattle.spin_table.specs.States.{State}
use Rattle.spin_proto.specs.declared.deed.JobCall.{JobCall}
use Rattle.spin_proto.specs.declared.reply.Reply.{Reply}
use Rattle.spin_proto.specs.Replies.{IsDeedReply, IsJobReply, calls_left}
use Rattle.spin_frames.specs.declared.head.Head.{Head}
use Rattle.spin_frames.specs.Packets.{Packet}

-- a record where it stands: what its capture's header says, and what it is
pub record TakenSeen : Type 0 where
  pub head : Head
  pub packet : Packet

-- a record that was passed: the reply to its raise, and those to the jobs that this left, in order
pub record Passed : Type 0 where
  pub taken : TakenSeen
  pub reply : Reply
  pub jobs : List Reply

-- the raise of the event whose one argument is these bytes
abbrev pub raise_with : ℕ → List ℕ → Deed
raise_with event frame = deed.Raise event (value.Bytes frame ∷ [])

-- the replies to these calls of jobs at the state, one after another
abbrev pub AreJobReplies : SetupData → State → List JobCall → List Reply → Type 0
AreJobReplies d s [] replies = replies ≡ []
AreJobReplies d s (call ∷ calls) replies =
    (reply : Reply) × (others : List Reply) × IsJobReply d s call reply × (replies ≡ reply ∷ others)
    × AreJobReplies d s calls others

-- The record was raised as this event at the state, and its jobs were done there.
pub record IsPassed (d : SetupData) (s : State) (event : ℕ) (passed : Passed) : Type 0 where
  pub reply : IsDeedReply d s (raise_with event passed.taken.packet.frame) passed.reply
  pub jobs : AreJobReplies d s (calls_left passed.reply) passed.jobs
