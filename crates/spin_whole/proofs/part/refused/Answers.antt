use Rattle.std.proofs.Common.{sym, subst}
use Rattle.std.specs.Arc.{arc_value}
use Rattle.spin_table.specs.declared.refusal.Verdicted.TheVariants as verdicted
use Rattle.spin_table.specs.SetupOf.{data_of}
use Rattle.spin_table.specs.States.{VersionValue}
use Rattle.spin_table.specs.Steps.{IsStep}
use Rattle.spin_whole.proofs.part.refused.Goals as goal

pub returns-clause-step : goal.returns-clause-step
returns-clause-step g c =
    subst (λ (t : VersionValue). IsStep (data_of c.args._setup.now) (arc_value c.args.version.now).state c.args._command.now (verdicted.Refused c.args.refusal) t.state) (sym c.in_ok-try_clone.ensures) c.requires.step
