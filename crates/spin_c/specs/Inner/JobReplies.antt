-- The reply to the job at an index of those that a reply leaves, and why there is none.
use Rattle.std.specs.Prelude.{◌≡◌, ℕ, Option, None, Some, slice_get}
use Rattle.spin_table.specs.Setups.{SetupData}
use Rattle.spin_table.specs.States.{VersionValue}
use Rattle.spin_proto.specs.declared.deed.JobCall.{JobCall}
use Rattle.spin_proto.specs.declared.reply.Reply.{Reply}
use Rattle.spin_proto.specs.Replies.{IsJobReply, calls_left}
use Rattle.spin_c.specs.Kept.{Left, Replied, replied, reply_left}
use Rattle.spin_c.specs.declared.ask.Outcome.{Outcome}
use Rattle.spin_c.specs.declared.ask.Outcome.TheVariants as outcome

-- the reply to a raise is kept, and leaves that call at that index
pub record IsCallAt (left : Option Left) (index : ℕ) (call : JobCall) : Type 0 where
  pub to : Replied
  pub kept : left ≡ Some (replied to)
  pub there : slice_get (calls_left to.reply) index ≡ Some call

-- that call comes to this reply, on the version of this place that the raise pinned
pub record IsJobAt (d : SetupData) (left : Option Left) (index place : ℕ) (reply : Reply) : Type 0 where
  pub call : JobCall
  pub at : IsCallAt left index call
  pub version : VersionValue
  pub pinned : at.to.pinned ≡ Some version
  pub place_is : place ≡ version.state.place
  pub is : IsJobReply d version.state call reply

-- why there is none: no reply is kept; it leaves no call at that index; or it does, and there was no memory
abbrev pub IsNoJobAt : Option Left → ℕ → Outcome → Type 0
IsNoJobAt left index outcome.NoReply = reply_left left ≡ None
IsNoJobAt left index outcome.NoJob =
    (to : Replied) × (left ≡ Some (replied to)) × (slice_get (calls_left to.reply) index ≡ None)
IsNoJobAt left index outcome.NoMemory = (call : JobCall) × IsCallAt left index call
IsNoJobAt left index other = ⊥
