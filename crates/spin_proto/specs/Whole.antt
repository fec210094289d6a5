-- A raise with its raises upwards: what it answers, and the steps that it takes.
use Rattle.std.specs.Prelude.{ℕ, suc, ◌==◌, nat_lt, Bool, true, false, if◌then◌else◌, List}
use Rattle.std.specs.Prelude.{[], ◌∷◌, ◌++◌, map, drop, count_by, Option, Some, None}
use Rattle.std.specs.List.{flat_map}
use Rattle.spin_values.specs.declared.values.Value.{Value}
use Rattle.spin_objects.specs.declared.item.Item.{Item}
use Rattle.spin_objects.specs.declared.item.Item.TheVariants as item
use Rattle.spin_objects.specs.Doing.{items_of, last_result}
use Rattle.spin_raise.specs.declared.answer.Answer.{Answer}
use Rattle.spin_raise.specs.declared.answer.Answer.TheVariants as answer
use Rattle.spin_raise.specs.declared.bound.Runner.{Runner}
use Rattle.spin_raise.specs.Firing.{Units, Bound, steps_at, items_by, fired, answer_of}
use Rattle.spin_proto.specs.declared.deed.JobCall.{JobCall}
use Rattle.spin_proto.specs.declared.deed.JobCall.TheVariants as call
use Rattle.spin_proto.specs.declared.walk.Upward.{Upward}
use Rattle.spin_proto.specs.declared.reply.Step.{Step}
use Rattle.spin_proto.specs.declared.reply.Step.TheVariants as step
use Rattle.spin_proto.specs.declared.reply.Reply.{Reply}
use Rattle.spin_proto.specs.declared.reply.Reply.TheVariants as reply

-- a step of a raise; one that leaves a job stands with the job's arguments
pub data Mark : Type 0 where
  Plain : (s : Step) → Mark
  Queued : (event number : ℕ) (args : List Value) → Mark

-- the step as replies tell it: of a job that is left its event and binding, without its arguments
abbrev pub step_of : Mark → Step
step_of (Plain s) = s
step_of (Queued event number args) = step.Job event number

-- the call of the job that the step leaves
abbrev pub calls_of : Mark → List JobCall
calls_of (Plain s) = []
calls_of (Queued event number args) = call.Binding event number args ∷ []

-- a handler starts, or a job is left
abbrev pub is_start : Mark → Bool
is_start (Plain (step.Run event number)) = true
is_start (Plain s) = false
is_start (Queued event number args) = true

-- how many of these steps start a handler or leave a job
abbrev pub starts : List Mark → ℕ
starts marks = count_by is_start marks

-- what a raise comes to
pub record Raised : Type 0 where
  pub answer : Answer
  pub marks : List Mark

-- what was given at an event, but for raises upwards
abbrev pub marks_at : ℕ → Item → List Mark
marks_at event (item.Ran number) = Plain (step.Run event number) ∷ []
marks_at event (item.Result n) = Plain (step.Result n) ∷ []
marks_at event (item.Send endpoint bytes) = Plain (step.Send endpoint bytes) ∷ []
marks_at event (item.Up to args) = []
marks_at event (item.Dropped fault) = Plain (step.Dropped fault) ∷ []
marks_at event (item.Job number args) = Queued event number args ∷ []

-- the raise upwards that an item is, if it is one
abbrev pub up_of : Item → List Upward
up_of (item.Up to args) = record { event = to; args = args } ∷ []
up_of i = []

-- the raises upwards among what was given, in order
abbrev pub ups_of : List Item → List Upward
ups_of given = flat_map up_of given

-- a raise upwards: its own steps between its beginning and its end, which tells its answer
abbrev pub marks_up : (ℕ → List Value → Raised) → Upward → List Mark
marks_up raise up =
    Plain (step.Up up.event) ∷ (raise up.event up.args).marks ++ Plain (step.Back (raise up.event up.args).answer) ∷ []

-- of a firing: what it gave, and then each of its raises upwards in order
abbrev pub marks_of : ℕ → (ℕ → List Value → Raised) → List Item → List Mark
marks_of event raise given = flat_map (marks_at event) given ++ flat_map (marks_up raise) (ups_of given)

-- a raise of one event, where raises upwards come to this
abbrev pub raised_with : Runner → Units → ℕ → Bound → (ℕ → List Value → Raised) → List Value → Raised
raised_with by u event b raise args = record {
  answer = answer_of b.merge (fired by u b args);
  marks = flat_map (λ f. marks_of event raise (items_by f)) (fired by u b args);
}

-- a raise among the events from one number on: raises upwards go to the events after its own
abbrev pub raised : Runner → Units → List Bound → ℕ → ℕ → List Value → Raised
raised by u [] from event args = record { answer = answer.NoHandler; marks = [] }
raised by u (b ∷ later) from event args =
    if from == event
    then raised_with by u event b (raised by u later (suc from)) args
    else raised by u later (suc from) event args

-- a raise of an event after this one
abbrev pub raised_after : Runner → Units → List Bound → ℕ → ℕ → List Value → Raised
raised_after by u bounds event = raised by u (drop (suc event) bounds) (suc event)

-- the reply where so many handlers may start
abbrev pub reply_of : ℕ → Raised → Reply
reply_of limit r =
    if nat_lt limit (starts r.marks)
    then reply.Spent
    else reply.Ran r.answer (map step_of r.marks) (flat_map calls_of r.marks)

-- the answer of a job of a binding: its handler's result, or done where it gave none
abbrev pub job_answer : Option ℕ → Answer
job_answer None = answer.Done
job_answer (Some n) = answer.Value n

-- a job of a binding: its handler is done, its guards untested, and then its raises upwards come to this
abbrev pub job_of : Units → ℕ → ℕ → ℕ → (ℕ → List Value → Raised) → List Value → Raised
job_of u event number handler raise args = record {
  answer = job_answer (last_result (items_of (steps_at u handler) args));
  marks = marks_of event raise (item.Ran number ∷ items_of (steps_at u handler) args);
}
