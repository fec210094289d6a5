-- By which numbers an open raise is told.
use Rattle.std.specs.Prelude.{ℕ, List, [], length}
use Rattle.spin_raise.specs.declared.answer.Answer.{Answer}
use Rattle.spin_objects.specs.declared.item.Item.{Item}
use Rattle.spin_objects.specs.declared.item.Item.TheVariants as item
use Rattle.spin_word.specs.declared.command.Mode.{Mode}
use Rattle.spin_word.specs.declared.command.Mode.TheVariants as mode
use Rattle.spin_host.specs.declared.fault.RaiseFault.{RaiseFault}
use Rattle.spin_host.specs.declared.fault.RaiseFault.TheVariants as refusal
use Rattle.spin_host.specs.declared.firing.AnswerFault.{AnswerFault}
use Rattle.spin_host.specs.declared.firing.AnswerFault.TheVariants as fault
use Rattle.spin_host.specs.declared.firing.Firing.{Firing}
use Rattle.spin_host.specs.declared.turn.Turn.{Turn}
use Rattle.spin_host.specs.declared.turn.Turn.TheVariants as turn
use Rattle.spin_host.specs.Gifts.{number_of}
use Rattle.spin_c.specs.Trails.{answer_told, blank, fault_number}
use Rattle.spin_c.specs.declared.moves.Upshot.{Upshot}
use Rattle.spin_c.specs.declared.moves.Upshot.TheVariants as upshot
use Rattle.spin_c.specs.declared.step.SpinStep.{SpinStep}

-- the number of a mode
abbrev pub mode_number : Mode → ℕ
mode_number mode.Plain = 0
mode_number mode.Filter = 1
mode_number mode.Async = 2

-- what a firing is told as
abbrev pub firing_told : Firing → SpinStep
firing_told f =
    record (blank 1) { event = f.event; number = f.number; answer = mode_number f.mode; value = f.handler }

-- the end of a raise has the kind and the value of its answer
abbrev pub end_told : ℕ → Answer → ℕ → SpinStep
end_told kind said number =
    record (blank kind) {
      number = number;
      answer = (answer_told said 0).kind;
      value = (answer_told said 0).value;
    }

-- what comes next is told as, where so many raises are around the innermost one
abbrev pub turn_told : ℕ → Turn → SpinStep
turn_told around (turn.Due firing) = firing_told firing
turn_told around (turn.Up event) = record (blank 4) { event = event }
turn_told around (turn.Back said) = end_told 5 said 0
turn_told around (turn.Ended said) = end_told 8 said around
turn_told around turn.Spent = blank 9

-- what is told of a thing that was given in a raise of an event
abbrev pub item_told : ℕ → Item → SpinStep
item_told event (item.Ran number) = record (blank 1) { event = event; number = number }
item_told event (item.Result value) = record (blank 2) { value = value }
item_told event (item.Send endpoint bytes) = record (blank 3) { number = endpoint; length = length bytes }
item_told event (item.Up to args) = record (blank 4) { event = to }
item_told event (item.Dropped why) = record (blank 6) { number = fault_number why }
item_told event (item.Job number args) = record (blank 7) { event = event; number = number }

-- the bytes that it sends
abbrev pub item_bytes : Item → List ℕ
item_bytes (item.Send endpoint bytes) = bytes
item_bytes other = []

-- why a raise isn't opened on the version of this place
abbrev pub refusal_told : ℕ → RaiseFault → Upshot
refusal_told place refusal.NotDue = upshot.NotDue
refusal_told place refusal.UnknownEvent = upshot.NotRaised place 5
refusal_told place refusal.WrongArgs = upshot.NotRaised place 6
refusal_told place refusal.Downward = upshot.Downward
refusal_told place refusal.NoMemory = upshot.NoMemory

-- why an answer isn't taken
abbrev pub fault_told : AnswerFault → Upshot
fault_told fault.NotDue = upshot.NotDue
fault_told (fault.Refused why) = upshot.Refused (number_of why)
fault_told fault.NoMemory = upshot.NoMemory
