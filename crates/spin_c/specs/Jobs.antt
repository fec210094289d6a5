-- What the jobs come to that a reply leaves.
use Rattle.std.specs.Prelude.{◌≡◌, ◌⊎◌, ℕ, [], Option, None, Some, All, MatchOption, slice_get, ⊤}
use Rattle.spin_table.specs.Setups.{SetupData}
use Rattle.spin_table.specs.Soundness.{IsSoundVersion}
use Rattle.spin_table.specs.States.{VersionValue}
use Rattle.spin_proto.specs.declared.deed.JobCall.{JobCall}
use Rattle.spin_proto.specs.declared.reply.Reply.{Reply}
use Rattle.spin_proto.specs.Replies.{BelongsTo, IsJobReply, calls_left}
use Rattle.spin_c.specs.Kept.{Left, Replied, replied}
use Rattle.spin_c.specs.Trails.{told_of}
use Rattle.spin_c.specs.declared.ask.Outcome.{Outcome}
use Rattle.spin_c.specs.declared.ask.Outcome.TheVariants as outcome

-- the calls that a reply leaves can be done on the version that is kept with it; where none is there are no calls
abbrev pub IsWellReply : SetupData → Replied → Type 0
IsWellReply d to =
    MatchOption to.pinned (calls_left to.reply ≡ [])
    (λ (version : VersionValue). IsSoundVersion d version × All (BelongsTo version.state) (calls_left to.reply))

-- the same of what is left
abbrev pub IsWellLeft : SetupData → Option Left → Type 0
IsWellLeft d (Some (replied to)) = IsWellReply d to
IsWellLeft d other = ⊤

-- The call is done on the version that the raise pinned, which is told as a raise is, with that version's place; and its
-- reply is kept beside that of the raise.
pub record IsDone (d : SetupData) (to : Replied) (call : JobCall) (after : Option Left) (told : Outcome) : Type 0 where
  pub version : VersionValue
  pub pinned : to.pinned ≡ Some version
  pub reply : Reply
  pub is : IsJobReply d version.state call reply
  pub kept : after ≡ Some (replied (record to { job = Some reply }))
  pub told_is : told ≡ outcome.Raised version.state.place (told_of reply)

-- the call at an index: there is none; or it is done, or there was no memory
abbrev pub DoesCall : SetupData → Replied → Option JobCall → Option Left → Outcome → Type 0
DoesCall d to None after told = (after ≡ Some (replied to)) × (told ≡ outcome.NoJob)
DoesCall d to (Some call) after told =
    IsDone d to call after told ⊎ ((after ≡ Some (replied to)) × (told ≡ outcome.NoMemory))

-- the job at an index of those that the reply leaves that is kept, if one is
abbrev pub DoesJob : SetupData → Option Left → ℕ → Option Left → Outcome → Type 0
DoesJob d (Some (replied to)) index after told = DoesCall d to (slice_get (calls_left to.reply) index) after told
DoesJob d other index after told = (after ≡ other) × (told ≡ outcome.NoReply)
