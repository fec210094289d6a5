-- Replies where bindings have other numbers.
use Rattle.std.specs.Prelude.{◌≡◌, ℕ, map}
use Rattle.spin_word.specs.declared.work.Deed.{Deed}
use Rattle.spin_table.specs.Setups.{SetupData}
use Rattle.spin_table.specs.States.{State}
use Rattle.spin_table.specs.Renamings.{Rises, IsRenamed}
use Rattle.spin_proto.specs.declared.deed.JobCall.{JobCall}
use Rattle.spin_proto.specs.declared.deed.JobCall.TheVariants as call
use Rattle.spin_proto.specs.declared.reply.Step.{Step}
use Rattle.spin_proto.specs.declared.reply.Step.TheVariants as step
use Rattle.spin_proto.specs.declared.reply.Reply.{Reply}
use Rattle.spin_proto.specs.declared.reply.Reply.TheVariants as reply
use Rattle.spin_proto.specs.Replies.{IsDeedReply}

-- Below, `to` gives each number the one that it has in the other state.

-- the step, which tells of a binding by its other number
abbrev pub renamed_step : (ℕ → ℕ) → Step → Step
renamed_step to (step.Run event number) = step.Run event (to number)
renamed_step to (step.Job event number) = step.Job event (to number)
renamed_step to s = s

abbrev pub renamed_call : (ℕ → ℕ) → JobCall → JobCall
renamed_call to (call.Whole event args) = call.Whole event args
renamed_call to (call.Binding event number args) = call.Binding event (to number) args

abbrev pub renamed_reply : (ℕ → ℕ) → Reply → Reply
renamed_reply to (reply.Ran answer trace jobs) =
    reply.Ran answer (map (renamed_step to) trace) (map (renamed_call to) jobs)
renamed_reply to (reply.Queued c) = reply.Queued (renamed_call to c)
renamed_reply to r = r

-- Deeds are replied to alike: in the second state as in the first, but for the numbers of bindings. The number 0, which
-- stands for the default, stays.
abbrev pub RepliesAreRenamed : Type 0
RepliesAreRenamed =
    (d : SetupData) (to : ℕ → ℕ) (s t : State) (asked : Deed) (answer : Reply)
    → Rises to → to 0 ≡ 0 → IsRenamed to s t
    → IsDeedReply d s asked answer → IsDeedReply d t asked (renamed_reply to answer)
