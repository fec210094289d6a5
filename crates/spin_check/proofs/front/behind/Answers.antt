use Rattle.std.proofs.lemmas.Bool.Decides.{Decides-eqb}
use Rattle.std.proofs.lemmas.Slice.Eq.{strip_prefix_is}
use Rattle.spin_check.proofs.ReportFront.{behind_from}
use Rattle.spin_check.proofs.front.behind.Goals as goal

pub returns : goal.returns
returns c =
    behind_from c.args.text.now c.args.report.now c.strip_prefix.result
    (strip_prefix_is Decides-eqb c.args.report.now c.args.text.now c.strip_prefix.result c.strip_prefix.ensures.cases)
