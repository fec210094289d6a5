use Rattle.spin_seat.proofs.RenewedAnswers.{answers_are_renamed, renewals_go_on}
use Rattle.spin_seat.proofs.NamedNumbers.{valid_commands_stay_named}
use Rattle.spin_seat.proofs.law.renewals_go_on.Goals as goal

pub returns-clause-answers : goal.returns-clause-answers
returns-clause-answers c = answers_are_renamed

pub returns-clause-whole : goal.returns-clause-whole
returns-clause-whole c = renewals_go_on

pub returns-clause-named : goal.returns-clause-named
returns-clause-named c = valid_commands_stay_named
