use Rattle.spin_cli.proofs.StatusCauses.{table_known, whole_known}
use Rattle.spin_cli.proofs.HeadlineLemmas.{headline_holds, headline_joined_holds}
use Rattle.spin_cli.proofs.top.spin.Goals as goal

pub returns-clause-headline : goal.returns-clause-headline
returns-clause-headline g c = headline_holds _ (whole_known _ c.choose.ensures)

pub returns-clause-headline_joined : goal.returns-clause-headline_joined
returns-clause-headline_joined g c = headline_joined_holds _ (whole_known _ c.choose.ensures)

pub returns-clause-whole : goal.returns-clause-whole
returns-clause-whole g c = whole_known _ c.choose.ensures

pub returns-clause-table : goal.returns-clause-table
returns-clause-table g c = table_known _ c.choose.ensures
