-- The job at an index of those that the reply leaves that is kept.
use Rattle.std.proofs.Common.{◌≡◌, ◌∙◌, ◌++◌, ℕ, List, refl, sym, ap, subst, inl, inr}
use Rattle.std.specs.Prelude.{None, Option, Some, slice_get, ⊤}
use Rattle.std.specs.Option.{option_map}
use Rattle.std.proofs.lemmas.List.{append-nil}
use Rattle.std.proofs.lemmas.Option.{same_Some}
use Rattle.spin_word.specs.declared.row.Row.{Row}
use Rattle.spin_table.specs.Setups.{SetupData}
use Rattle.spin_table.specs.States.{State, VersionValue}
use Rattle.spin_proto.specs.declared.deed.JobCall.{JobCall}
use Rattle.spin_proto.specs.declared.reply.Reply.{Reply}
use Rattle.spin_proto.specs.Replies.{calls_left}
use Rattle.spin_seat.specs.Replay.{IsReplayFrom}
use Rattle.spin_seat.specs.Seats.{IsSeat, SeatValue, kept_rows}
use Rattle.spin_c.specs.Inner.JobReplies.{IsCallAt, IsJobAt, IsNoJobAt}
use Rattle.spin_c.specs.Jobs.{DoesCall, DoesJob}
use Rattle.spin_c.specs.Kept.{Left, Replied, conflict, left_in, replied, reply_left}
use Rattle.spin_c.specs.Trails.{told_of}
use Rattle.spin_c.specs.declared.ask.Outcome.{Outcome}
use Rattle.spin_c.specs.declared.ask.Outcome.TheVariants as outcome
use Rattle.spin_c.specs.declared.kept.Last.{Last}
use Rattle.spin_c.specs.declared.kept.Last.TheVariants as last

-- ---- what is kept, by its parts

-- the reply that is kept, or else this
abbrev found : Option Left → Replied → Replied
found (Some (replied to)) other = to
found left other = other

abbrev HasReply : Option Left → Type 0
HasReply (Some (replied to)) = ⊤
HasReply left = ⊥

is_found : (left : Option Left) (to : Replied) → left ≡ Some (replied to) → HasReply left
is_found left to is = subst HasReply (sym is) tt

-- the version is that which stands beside the reply
pub pinned_beside : (at : Last) (b : Reply) (pinned : Option VersionValue) (job : Option Reply) (to : Replied) → left_in at b pinned job ≡ Some (replied to) → to.pinned ≡ pinned
pinned_beside last.None b pinned job to is = absurd (is_found None to is)
pinned_beside last.Buffer b pinned job to is = sym (ap (λ (left : Option Left). (found left to).pinned) is)
pinned_beside (last.Other reply) b pinned job to is = sym (ap (λ (left : Option Left). (found left to).pinned) is)
pinned_beside (last.Cycle cycle) b pinned job to is = absurd (is_found (Some (conflict cycle)) to is)

-- another reply of a job changes that alone
pub job_beside : (at : Last) (b : Reply) (pinned : Option VersionValue) (job other : Option Reply) (to : Replied) → left_in at b pinned job ≡ Some (replied to)
    → left_in at b pinned other ≡ Some (replied (record to { job = other }))
job_beside last.None b pinned job other to is = absurd (is_found None to is)
job_beside last.Buffer b pinned job other to is = ap (λ (left : Option Left). Some (replied (record (found left to) { job = other }))) is
job_beside (last.Other reply) b pinned job other to is = ap (λ (left : Option Left). Some (replied (record (found left to) { job = other }))) is
job_beside (last.Cycle cycle) b pinned job other to is = absurd (is_found (Some (conflict cycle)) to is)

-- ---- what a job comes to

-- a call that is found among those of the reply that is kept
pub call_at : (left : Option Left) (index : ℕ) (calls : List JobCall) (call : JobCall) → Some calls ≡ option_map calls_left (reply_left left)
    → slice_get calls index ≡ Some call → IsCallAt left index call
call_at None index calls call are there = absurd (cc (are))
call_at (Some (conflict cycle)) index calls call are there = absurd (cc (are))
call_at (Some (replied to)) index calls call are there =
    record { to = to; kept = refl; there = subst (λ (cs : List JobCall). slice_get cs index ≡ Some call) (same_Some _ _ are) there }

does_at : (d : SetupData) (left after : Option Left) (index : ℕ) (to : Replied) (told : Outcome) → left ≡ Some (replied to)
    → DoesCall d to (slice_get (calls_left to.reply) index) after told → DoesJob d left index after told
does_at d left after index to told kept does = subst (λ (l : Option Left). DoesJob d l index after told) (sym kept) does

no_reply : (d : SetupData) (left : Option Left) (index : ℕ) → reply_left left ≡ None → DoesJob d left index left outcome.NoReply
no_reply d None index none = (refl, refl)
no_reply d (Some (conflict cycle)) index none = (refl, refl)
no_reply d (Some (replied to)) index none = absurd (cc (none))

pub not_done : (d : SetupData) (left : Option Left) (index : ℕ) (why : Outcome) → IsNoJobAt left index why → DoesJob d left index left why
not_done d left index outcome.NoReply is = no_reply d left index is
not_done d left index outcome.NoJob is =
    does_at d left left index is.0 outcome.NoJob is.1 (subst (λ o. DoesCall d is.0 o left outcome.NoJob) (sym is.2) (is.1, refl))
not_done d left index outcome.NoMemory is =
    let at = is.1 in
    does_at d left left index at.to outcome.NoMemory at.kept (subst (λ o. DoesCall d at.to o left outcome.NoMemory) (sym at.there) (inr (at.kept, refl)))
not_done d left index other is = absurd is

pub done : (d : SetupData) (at : Last) (b : Reply) (pinned : Option VersionValue) (job : Option Reply) (index place : ℕ) (reply : Reply)
    → IsJobAt d (left_in at b pinned job) index place reply
    → DoesJob d (left_in at b pinned job) index (left_in at b pinned (Some reply)) (outcome.Raised place (told_of reply))
done d at b pinned job index place reply is =
    let call = is.at in
    let told = outcome.Raised place (told_of reply) in
    let after = left_in at b pinned (Some reply) in
    does_at d (left_in at b pinned job) after index call.to told call.kept
    (subst (λ o. DoesCall d call.to o after told) (sym call.there) (inl record {
      version = is.version;
      pinned = is.pinned;
      reply = reply;
      is = is.is;
      kept = job_beside at b pinned job (Some reply) call.to call.kept;
      told_is = ap (λ (p : ℕ). outcome.Raised p (told_of reply)) is.place_is;
    }))

-- ---- what is pinned

-- the state of a seat that has applied what it read is the replay of its front
pub whole_replay : (d : SetupData) (seat : SeatValue) (first : State) → IsSeat d seat → seat.pending ≡ None → seat.base ≡ first → IsReplayFrom d first seat.pen.front seat.state
whole_replay d seat first is none same =
    let front : seat.pen.front ≡ is.applied = is.front ∙ ap (λ (k : Option Row). is.applied ++ kept_rows k) none ∙ append-nil is.applied in
    subst (λ (s : State). IsReplayFrom d s seat.pen.front seat.state) same (subst (λ (rows : List Row). IsReplayFrom d seat.base rows seat.state) (sym front) is.replay)
