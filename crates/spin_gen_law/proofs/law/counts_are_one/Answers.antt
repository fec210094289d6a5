use Rattle.spin_gen_law.proofs.HistoryCounts.{counts_same}
use Rattle.spin_gen_law.proofs.SummaryLemmas.{summaries_same}
use Rattle.spin_gen_law.proofs.law.counts_are_one.Goals as goal

pub returns-clause-histories : goal.returns-clause-histories
returns-clause-histories c = counts_same

pub returns-clause-summaries : goal.returns-clause-summaries
returns-clause-summaries c = summaries_same
