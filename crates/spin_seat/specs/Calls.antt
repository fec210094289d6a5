-- What the calls of a seat say of its pen.
use Rattle.std.specs.Prelude.{◌≡◌, ℕ, ◌<◌, ◌≤◌, ◌⊎◌, ⊤, List, [], ◌++◌, Option, None, Some, IfSome, length}
use Rattle.spin_word.specs.declared.command.TheConstants.{MAX_PLACE}
use Rattle.spin_word.specs.declared.row.Row.{Row}
use Rattle.spin_word.specs.declared.command.Command.{Command}
use Rattle.spin_word.specs.Rows.{lane_of}
use Rattle.spin_log.specs.Rows.{rows_of}
use Rattle.spin_log.specs.Pens.{PenValue, with_front, written, pinned_at_front}
use Rattle.spin_table.specs.declared.refusal.Verdicted.{Verdicted}
use Rattle.spin_table.specs.Setups.{SetupData}
use Rattle.spin_table.specs.States.{State, start_of}
use Rattle.spin_table.specs.Refusals.{refusal_of}
use Rattle.spin_word.specs.declared.work.Deed.{Deed}
use Rattle.spin_proto.specs.declared.reply.Reply.{Reply}
use Rattle.spin_seat.specs.declared.answer.SeatFault.{SeatFault}
use Rattle.spin_seat.specs.declared.answer.SeatFault.TheVariants as fault
use Rattle.spin_seat.specs.Replay.{IsReplayFrom}
use Rattle.spin_seat.specs.Places.{place_past}
use Rattle.spin_seat.specs.Seats.{SeatValue}
use Rattle.spin_seat.specs.Answers.{command, deed, Answer, row_published, LeadsTo}

-- the pen has read rows of other lanes, and no more
abbrev pub ReadsOn : PenValue → PenValue → Type 0
ReadsOn old new =
    (more : List Row) × (new ≡ with_front old (old.front ++ more)) × (rows_of old.lane more ≡ [])

-- the pen has read rows of other lanes until there was no next row, and has a pin there
abbrev pub ReadsToPin : PenValue → PenValue → Type 0
ReadsToPin old new =
    (more : List Row) × (new ≡ pinned_at_front (with_front old (old.front ++ more)))
    × (rows_of old.lane more ≡ [])

-- the pen has read rows of other lanes, and has at most a pin more
abbrev pub AddsAtMostAPin : PenValue → PenValue → Type 0
AddsAtMostAPin old new = ReadsOn old new ⊎ ReadsToPin old new

-- a verdict, and a reply, as the answer of a lane
abbrev pub verdict_answer : ℕ → Command → ℕ → Verdicted → Answer
verdict_answer lane c place verdict =
    record { lane = lane; place = place; said = command c verdict }

abbrev pub reply_answer : ℕ → Deed → ℕ → Reply → Answer
reply_answer lane asked place reply =
    record { lane = lane; place = place; said = deed asked reply }

-- the pen after an answer: with the row of an accepted command it has published that, and else it
-- has a pin
abbrev pub pen_after : Option Row → PenValue → PenValue
pen_after None pen = pinned_at_front pen
pen_after (Some row) pen = written pen row

-- The pen, whose log follows on the first state, reads rows of other lanes on, and then the answer is
-- given, at its end: that of the plain dispatcher at the replay of the rows that there are. An accepted
-- command's row, of the pen's lane, is the next row of the log; for every other answer there is none,
-- and the pen has a pin. The place is that of the front's end then.
pub record GivesFrom (d : SetupData) (first : State) (old : PenValue) (answer : Answer)
    (new : PenValue) : Type 0 where
  pub more : List Row
  pub before : State
  pub after : State
  pub others : rows_of old.lane more ≡ []
  pub pen : new ≡ pen_after (row_published answer.said) (with_front old (old.front ++ more))
  pub row : IfSome (row_published answer.said) (λ row. lane_of row ≡ old.lane)
  pub lane : answer.lane ≡ old.lane
  pub place : answer.place ≡ place_past first.place (length new.front)
  pub replay_before : IsReplayFrom d first (old.front ++ more) before
  pub replay_after : IsReplayFrom d first new.front after
  pub leads : LeadsTo d before answer.said after

-- the same in a log from the start
abbrev pub Gives : SetupData → PenValue → Answer → PenValue → Type 0
Gives d = GivesFrom d (start_of d)

-- why there is no verdict at a front of this length, whose log follows on a state of this place: no
-- number of a binding is left, or there is one and there was no memory
abbrev pub IsFaultAt : ℕ → ℕ → SeatFault → Type 0
IsFaultAt place length fault.Full = (MAX_PLACE ≤ place_past place length) × (length ≤ MAX_PLACE)
IsFaultAt place length fault.NoMemory = place_past place length < MAX_PLACE

-- want of memory is no refusal of the command: none but a conflict applies to it at the seat's state, where the seat has
-- applied all that it has read
abbrev pub IsUnrefused : SetupData → SeatValue → Command → SeatFault → Type 0
IsUnrefused d seat c fault.Full = ⊤
IsUnrefused d seat c fault.NoMemory = seat.pending ≡ None → refusal_of d seat.state c ≡ None
