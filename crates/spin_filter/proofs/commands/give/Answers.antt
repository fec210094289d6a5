use Rattle.std.proofs.Common.{◌∙◌, ap, arith, subst}
use Rattle.std.specs.Prelude.{Err}
use Rattle.spin_table.specs.SetupOf.{data_of}
use Rattle.spin_table.specs.Steps.{IsAnswer}
use Rattle.spin_table.specs.declared.refusal.StepFault.{StepFault}
use Rattle.spin_table.specs.declared.refusal.Verdicted.TheVariants as verdicted
use Rattle.spin_filter.specs.Counting.{capped}
use Rattle.spin_filter.proofs.CommandsGiven.{given-one}
use Rattle.spin_filter.proofs.commands.give.Goals as goal

pub returns-in-Ok-clause-given : goal.returns-in-Ok-clause-given
returns-in-Ok-clause-given g c =
    given-one (data_of c.args.setup.now) c.args.command.now verdicted.Accepted c.args.so_far _ c.in-Ok.ensures.answer (λ n is. is ∙ ap (λ m. capped m) (omega arith))

pub returns-in-Err-Refused-clause-given : goal.returns-in-Err-Refused-clause-given
returns-in-Err-Refused-clause-given g c =
    let d = data_of c.args.setup.now in
    given-one d c.args.command.now (verdicted.Refused c.in-Err-Refused._refusal) c.args.so_far _
    (subst (λ (f : StepFault). IsAnswer d c.args.so_far.version.state c.args.command.now (Err f)) c.in-Err-Refused.field-0-is c.in-Err-Refused.ensures.answer)
    (λ n is. c.one_more.ensures n is)
