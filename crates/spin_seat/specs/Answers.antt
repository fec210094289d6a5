-- What seats answer, and when a list of answers is a history of the plain dispatcher.
use Rattle.std.specs.Prelude.{◌≡◌, ℕ, ◌-◌, ◌≤◌, Bool, if◌then◌else◌, List, []}
use Rattle.std.specs.Prelude.{◌∷◌, take, length, Option, None, Some, is_some}
use Rattle.spin_word.specs.declared.row.Row.{Row}
use Rattle.spin_word.specs.declared.command.Command.{Command}
use Rattle.spin_word.specs.Rows.{row_of}
use Rattle.spin_table.specs.declared.refusal.Verdicted.{Verdicted}
use Rattle.spin_table.specs.declared.refusal.Verdicted.TheVariants.{Accepted, Refused}
use Rattle.spin_table.specs.Setups.{SetupData}
use Rattle.spin_table.specs.States.{State, start_of}
use Rattle.spin_table.specs.Steps.{IsStep}
use Rattle.spin_word.specs.declared.work.Deed.{Deed}
use Rattle.spin_proto.specs.declared.reply.Reply.{Reply}
use Rattle.spin_proto.specs.Replies.{IsDeedReply}
use Rattle.spin_seat.specs.Replay.{IsReplayFrom}
use Rattle.spin_seat.specs.Places.{place_past, rows_past}

-- what was asked of a seat, with what it said: a command with its verdict, or a deed with its reply
pub data Exchange : Type 0 where
  command : Command → Verdicted → Exchange
  deed : Deed → Reply → Exchange

-- an answer of a seat: its lane, its place, and what was asked and said
pub record Answer : Type 0 where
  pub lane : ℕ
  pub place : ℕ
  pub said : Exchange

-- the row that an accepted command has in the log; a refused one and a deed have none
abbrev pub row_published : Exchange → Option Row
row_published (command c Accepted) = Some (row_of c)
row_published (command c (Refused refusal)) = None
row_published (deed asked reply) = None

abbrev pub is_accepted : Exchange → Bool
is_accepted said = is_some (row_published said)

-- What was asked at the first state has this answer, and leads to the second: an accepted command
-- to the next state, a refused one or a deed to the same.
abbrev pub LeadsTo : SetupData → State → Exchange → State → Type 0
LeadsTo d s (command c verdict) next = IsStep d s c verdict next
LeadsTo d s (deed asked reply) next = IsDeedReply d s asked reply × (next ≡ s)

-- the place before the answer: its own place, or for an accepted command the one before that
abbrev pub place_before : Answer → ℕ
place_before answer = if is_accepted answer.said then answer.place - 1 else answer.place

-- in this log, which follows on that state, the answer is that of the plain dispatcher: it leads from
-- the replay of the rows up to the place before it to that of the rows up to its own place
pub record IsAnswerFrom (d : SetupData) (first : State) (log : List Row) (answer : Answer)
    : Type 0 where
  pub before : State
  pub after : State
  pub since : first.place ≤ place_before answer
  pub reached : answer.place ≤ place_past first.place (length log)
  pub replay_before : IsReplayFrom d first
      (take (rows_past first.place (place_before answer)) log) before
  pub replay_after : IsReplayFrom d first (take (rows_past first.place answer.place) log) after
  pub leads : LeadsTo d before answer.said after

-- the same of a log from the start
abbrev pub IsAnswerIn : SetupData → List Row → Answer → Type 0
IsAnswerIn d = IsAnswerFrom d (start_of d)

-- each answer follows on the state that those before it made, and has the place of the state to
-- which it leads
abbrev pub AreLegalAnswers : SetupData → State → List Answer → State → Type 0
AreLegalAnswers d s [] last = last ≡ s
AreLegalAnswers d s (answer ∷ answers) last =
    (next : State)
    × LeadsTo d s answer.said next
    × (answer.place ≡ next.place)
    × AreLegalAnswers d next answers last
