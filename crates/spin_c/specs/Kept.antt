-- What the last raise or command of a handle left.
use Rattle.std.specs.Prelude.{List, [], ◌∷◌, ℕ, Option, None, Some}
use Rattle.spin_table.specs.States.{VersionValue}
use Rattle.spin_table.specs.declared.refusal.Refusal.TheVariants as refusal
use Rattle.spin_table.specs.declared.refusal.Verdicted.{Verdicted}
use Rattle.spin_table.specs.declared.refusal.Verdicted.TheVariants as verdicted
use Rattle.spin_proto.specs.declared.deed.JobCall.{JobCall}
use Rattle.spin_proto.specs.declared.reply.Reply.{Reply}
use Rattle.spin_c.specs.declared.kept.Last.{Last}
use Rattle.spin_c.specs.declared.kept.Last.TheVariants as last

-- The reply to a raise; the version on which it was given, where the reply leaves calls to jobs; and the reply to the
-- last of these that was done.
pub record Replied : Type 0 where
  pub reply : Reply
  pub pinned : Option VersionValue
  pub job : Option Reply

-- what a raise left, or the cycle for which a command was refused
pub data Left : Type 0 where
  replied : Replied → Left
  conflict : List ℕ → Left

-- what is left, by where it stands
abbrev pub left_in : Last → Reply → Option VersionValue → Option Reply → Option Left
left_in last.None buffered pinned job = None
left_in last.Buffer buffered pinned job = Some (replied record { reply = buffered; pinned = pinned; job = job })
left_in (last.Other reply) buffered pinned job = Some (replied record { reply = reply; pinned = pinned; job = job })
left_in (last.Cycle cycle) buffered pinned job = Some (conflict cycle)

-- the reply that is kept
abbrev pub reply_left : Option Left → Option Reply
reply_left (Some (replied to)) = Some to.reply
reply_left other = None

-- the reply to its last job that was done
abbrev pub job_left : Option Left → Option Reply
job_left (Some (replied to)) = to.job
job_left other = None

-- the bindings of the cycle that is kept
abbrev pub cycle_left : Option Left → List ℕ
cycle_left (Some (conflict cycle)) = cycle
cycle_left other = []

-- the version that is kept where these calls are left
abbrev pub pinned_for : List JobCall → VersionValue → Option VersionValue
pinned_for [] version = None
pinned_for (call ∷ calls) version = Some version

-- a command that is refused for a cycle leaves that, and any other nothing
abbrev pub last_by : Verdicted → Last
last_by (verdicted.Refused (refusal.Conflict cycle)) = last.Cycle cycle
last_by other = last.None

abbrev pub left_by : Verdicted → Option Left
left_by (verdicted.Refused (refusal.Conflict cycle)) = Some (conflict cycle)
left_by other = None
