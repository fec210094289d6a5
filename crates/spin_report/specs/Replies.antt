-- The words of what a deed or a job came to.
use Rattle.std.specs.Prelude.{List, [], ◌∷◌, ◌++◌, Some, None, length, decimal, codes}
use Rattle.std.specs.List.{flat_map}
use Rattle.spin_headers.specs.declared.fault.HeaderFault.{HeaderFault}
use Rattle.spin_headers.specs.declared.fault.HeaderFault.TheVariants as fault
use Rattle.spin_raise.specs.declared.answer.Answer.{Answer}
use Rattle.spin_raise.specs.declared.answer.Answer.TheVariants as answer
use Rattle.spin_proto.specs.declared.reply.Step.{Step}
use Rattle.spin_proto.specs.declared.reply.Step.TheVariants as step
use Rattle.spin_proto.specs.declared.reply.Reply.{Reply}
use Rattle.spin_proto.specs.declared.reply.Reply.TheVariants as reply
use Rattle.spin_text.specs.Words.{Word}

-- the words of an answer; a default's value stands behind it where it gave one
abbrev pub answer_words : Answer → List Word
answer_words (answer.Value value) = codes "value" ∷ decimal value ∷ []
answer_words answer.Done = codes "done" ∷ []
answer_words (answer.Default None) = codes "default" ∷ []
answer_words (answer.Default (Some value)) = codes "default" ∷ decimal value ∷ []
answer_words answer.NoHandler = codes "nohandler" ∷ []

-- why a packet is dropped
abbrev pub fault_word : HeaderFault → Word
fault_word fault.Short = codes "short"
fault_word fault.Version = codes "version"
fault_word fault.HeaderLength = codes "header_length"
fault_word fault.TotalLength = codes "total_length"
fault_word fault.Checksum = codes "checksum"
fault_word fault.Fragment = codes "fragment"
fault_word fault.UdpLength = codes "udp_length"

-- the words of a step; of what is sent the length alone is told
abbrev pub step_words : Step → List Word
step_words (step.Run event number) = codes "run" ∷ decimal event ∷ decimal number ∷ []
step_words (step.Result value) = codes "result" ∷ decimal value ∷ []
step_words (step.Send endpoint bytes) = codes "send" ∷ decimal endpoint ∷ decimal (length bytes) ∷ []
step_words (step.Up event) = codes "up" ∷ decimal event ∷ []
step_words (step.Back answer) = codes "back" ∷ answer_words answer
step_words (step.Dropped fault) = codes "drop" ∷ fault_word fault ∷ []
step_words (step.Job event number) = codes "job" ∷ decimal event ∷ decimal number ∷ []

-- the words of a reply: the steps and, behind `=`, the answer; or `queued`; or which refusal it is
abbrev pub reply_words : Reply → List Word
reply_words (reply.Ran answer trace jobs) = flat_map step_words trace ++ (codes "=" ∷ answer_words answer)
reply_words (reply.Queued call) = codes "queued" ∷ []
reply_words reply.UnknownEvent = codes "refused" ∷ codes "1" ∷ codes "unknown_event" ∷ []
reply_words reply.WrongArgs = codes "refused" ∷ codes "2" ∷ codes "wrong_args" ∷ []
reply_words reply.Spent = codes "refused" ∷ codes "3" ∷ codes "spent" ∷ []
