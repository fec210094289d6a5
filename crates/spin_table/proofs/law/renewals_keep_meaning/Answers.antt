use Rattle.spin_table.proofs.Given.{names_stay_given}
use Rattle.spin_table.proofs.Renewing.{renewals_rename, renewals_sound}
use Rattle.spin_table.proofs.law.renewals_keep_meaning.Goals as goal

pub returns-clause-given : goal.returns-clause-given
returns-clause-given c = names_stay_given

pub returns-clause-renaming : goal.returns-clause-renaming
returns-clause-renaming c = renewals_rename

pub returns-clause-sound : goal.returns-clause-sound
returns-clause-sound c = renewals_sound
