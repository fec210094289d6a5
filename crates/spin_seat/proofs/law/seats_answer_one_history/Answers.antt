use Rattle.spin_seat.proofs.RowReplays.{IsReplayFrom-one}
use Rattle.spin_seat.proofs.SeatInvariants.{clean_from_lanes}
use Rattle.spin_seat.proofs.SeatAnswers.{answer_stands}
use Rattle.spin_seat.proofs.WovenAnswers.{weaves_are_legal_from}
use Rattle.spin_seat.proofs.law.seats_answer_one_history.Goals as goal

pub returns-clause-replay : goal.returns-clause-replay
returns-clause-replay c = IsReplayFrom-one

pub returns-clause-front : goal.returns-clause-front
returns-clause-front c = λ d first front log answer. answer_stands d front log answer

pub returns-clause-clean : goal.returns-clause-clean
returns-clause-clean c = clean_from_lanes

pub returns-clause-weave : goal.returns-clause-weave
returns-clause-weave c = weaves_are_legal_from
