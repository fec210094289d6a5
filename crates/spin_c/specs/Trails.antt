-- By which numbers a reply is told, and its steps one by one.
use Rattle.std.specs.Prelude.{◌≡◌, ◌⊎◌, ℕ, List, [], Option, None, Some, Result, Ok, Err, length, ok_or, slice_get}
use Rattle.std.specs.Option.{option_map}
use Rattle.spin_headers.specs.declared.fault.HeaderFault.{HeaderFault}
use Rattle.spin_headers.specs.declared.fault.HeaderFault.TheVariants as header
use Rattle.spin_raise.specs.declared.answer.Answer.{Answer}
use Rattle.spin_raise.specs.declared.answer.Answer.TheVariants as answer
use Rattle.spin_proto.specs.declared.reply.Reply.{Reply}
use Rattle.spin_proto.specs.declared.reply.Reply.TheVariants as reply
use Rattle.spin_proto.specs.declared.reply.Step.{Step}
use Rattle.spin_proto.specs.Parts.{trace_in}
use Rattle.spin_proto.specs.declared.reply.Step.TheVariants as step
use Rattle.spin_c.specs.declared.ask.Told.{Told}
use Rattle.spin_c.specs.declared.ask.Outcome.{Outcome}
use Rattle.spin_c.specs.declared.ask.Outcome.TheVariants as outcome
use Rattle.spin_c.specs.declared.step.SpinStep.{SpinStep}

-- what an answer is told as, and the number of the steps that led to it
abbrev pub answer_told : Answer → ℕ → Told
answer_told answer.NoHandler steps = record { kind = 0; value = 0; steps = steps }
answer_told answer.Done steps = record { kind = 1; value = 0; steps = steps }
answer_told (answer.Value value) steps = record { kind = 2; value = value; steps = steps }
answer_told (answer.Default (Some value)) steps = record { kind = 3; value = value; steps = steps }
answer_told (answer.Default None) steps = record { kind = 4; value = 0; steps = steps }

-- a raise without an answer is told by the number of why
abbrev pub no_answer : ℕ → Told
no_answer kind = record { kind = kind; value = 0; steps = 0 }

abbrev pub told_of : Reply → Told
told_of (reply.Ran said trace jobs) = answer_told said (length trace)
told_of reply.UnknownEvent = no_answer 5
told_of reply.WrongArgs = no_answer 6
told_of reply.Spent = no_answer 7
told_of (reply.Queued call) = no_answer 8

-- ---- steps

-- the number of a fault of headers
abbrev pub fault_number : HeaderFault → ℕ
fault_number header.Short = 1
fault_number header.Version = 2
fault_number header.HeaderLength = 3
fault_number header.TotalLength = 4
fault_number header.Checksum = 5
fault_number header.Fragment = 6
fault_number header.UdpLength = 7

-- a step of this kind, with zeros
abbrev pub blank : ℕ → SpinStep
blank kind = record { kind = kind; event = 0; number = 0; answer = 0; value = 0; length = 0 }

-- the end of a raise upwards has the kind and the value of its answer
abbrev pub back_told : Answer → SpinStep
back_told said = record (blank 5) { answer = (answer_told said 0).kind; value = (answer_told said 0).value }

-- what a step is told as
abbrev pub step_told : Step → SpinStep
step_told (step.Run event number) = record (blank 1) { event = event; number = number }
step_told (step.Result value) = record (blank 2) { value = value }
step_told (step.Send endpoint bytes) = record (blank 3) { number = endpoint; length = length bytes }
step_told (step.Up event) = record (blank 4) { event = event }
step_told (step.Back said) = back_told said
step_told (step.Dropped fault) = record (blank 6) { number = fault_number fault }
step_told (step.Job event number) = record (blank 7) { event = event; number = number }

-- the bytes that a step sends
abbrev pub bytes_of : Step → List ℕ
bytes_of (step.Send endpoint bytes) = bytes
bytes_of other = []

-- the step at an index of those of a reply, if there is one, or why there is none
abbrev pub step_of : Option (List Step) → ℕ → Result Step Outcome
step_of None index = Err outcome.NoReply
step_of (Some steps) index = ok_or (slice_get steps index) outcome.NoStep

-- the same of this reply, if there is one
abbrev pub step_at : Option Reply → ℕ → Result Step Outcome
step_at reply index = step_of (option_map trace_in reply) index

-- it is told, or why there is none
abbrev pub IsTold : Result Step Outcome → Outcome → Type 0
IsTold (Ok found) told = told ≡ outcome.Step (step_told found)
IsTold (Err why) told = told ≡ why

-- its bytes are handed out, where there is memory for them, or it is told why there is none
abbrev pub IsHanded : Result Step Outcome → Outcome → Type 0
IsHanded (Ok found) told = (told ≡ outcome.Bytes (bytes_of found)) ⊎ (told ≡ outcome.NoMemory)
IsHanded (Err why) told = told ≡ why
