-- Answers after a renewal, told by the numbers and places before it.
use Rattle.std.specs.Prelude.{◌≡◌, ℕ, ◌+◌, ◌-◌, ◌<◌, ⊤, IsTrue, List, ◌++◌, map, length, All}
use Rattle.spin_word.specs.Commands.{is_command, no_number}
use Rattle.spin_word.specs.declared.command.TheConstants.{MAX_PLACE}
use Rattle.spin_table.specs.Setups.{SetupData}
use Rattle.spin_table.specs.States.{State}
use Rattle.spin_table.specs.Soundness.{IsSound}
use Rattle.spin_table.specs.Renamings.{Rises, StayNamed, renamed_command, renamed_verdict, IsRenamed}
use Rattle.spin_table.specs.Renewals.{NameGiven, live_numbers, old_number, renewed}
use Rattle.spin_proto.specs.Renamings.{renamed_reply}
use Rattle.spin_seat.specs.Answers.{Exchange, command, deed, Answer, AreLegalAnswers}

-- Below, `to` gives each number of a binding the one that it has in the other state.

abbrev pub renamed_said : (ℕ → ℕ) → Exchange → Exchange
renamed_said to (command c verdict) =
    command (renamed_command to c) (renamed_verdict to verdict)
renamed_said to (deed asked reply) = deed asked (renamed_reply to reply)

-- the answer under the other numbers, as far past the second place as its own is past the first
abbrev pub renamed_answer : (ℕ → ℕ) → ℕ → ℕ → Answer → Answer
renamed_answer to first second answer = record {
  lane = answer.lane;
  place = second + (answer.place - first);
  said = renamed_said to answer.said;
}

-- what a command's constraints name is named under the other numbers too
abbrev pub NamesStay : (ℕ → ℕ) → Exchange → Type 0
NamesStay to (command c verdict) = StayNamed to c.before × StayNamed to c.after
NamesStay to (deed asked reply) = ⊤

abbrev pub StaysNamed : (ℕ → ℕ) → Answer → Type 0
StaysNamed to answer = NamesStay to answer.said

-- What is legal from a state is legal, under the other numbers, from each state that differs from it
-- in the numbers of its bindings alone, and leads to such a state again. It holds as long as numbers
-- stay below that of none.
abbrev pub AnswersAreRenamed : Type 0
AnswersAreRenamed =
    (d : SetupData) (to : ℕ → ℕ) (s t last : State) (answers : List Answer)
    → Rises to → to 0 ≡ 0 → IsRenamed to s t
    → t.place + length answers < no_number → All (StaysNamed to) answers
    → AreLegalAnswers d s answers last
    → (other : State) × AreLegalAnswers d t (map (renamed_answer to s.place t.place) answers) other
    × IsRenamed to last other

-- the answers after a renewal of this state, under the numbers before it
abbrev pub before_renewal : State → List Answer → List Answer
before_renewal s answers =
    map (renamed_answer (old_number (live_numbers s) s.place) (renewed s).place s.place) answers

-- What was answered before a renewal and what was answered after it are together one legal history,
-- under the numbers before; and it leads to the state after it under these numbers.
abbrev pub RenewalsGoOn : Type 0
RenewalsGoOn =
    (d : SetupData) (first s last : State) (before after : List Answer)
    → IsSound d s → NameGiven s → s.place + length after < no_number
    → All (StaysNamed (old_number (live_numbers s) s.place)) after
    → AreLegalAnswers d first before s → AreLegalAnswers d (renewed s) after last
    → (other : State) × AreLegalAnswers d first (before ++ before_renewal s after) other
    × IsRenamed (old_number (live_numbers s) s.place) last other

-- what was asked is a deed, or a valid command
abbrev pub IsValid : Exchange → Type 0
IsValid (command c verdict) = IsTrue (is_command c)
IsValid (deed asked reply) = ⊤

-- What valid commands name after a renewal is named under the numbers before it too. So where all were valid, as those
-- are that seats take, the law above asks nothing more of their answers.
abbrev pub ValidCommandsStayNamed : Type 0
ValidCommandsStayNamed =
    (s : State) (answers : List Answer)
    → s.place + MAX_PLACE < no_number → All (λ answer. IsValid answer.said) answers
    → All (StaysNamed (old_number (live_numbers s) s.place)) answers
