use Rattle.std.proofs.lemmas.Result.{IfOk-weaker}
use Rattle.spin_table.specs.SetupOf.{data_of}
use Rattle.spin_filter.specs.declared.commands.Commanded.{Commanded}
use Rattle.spin_filter.specs.Commands.{commands_of}
use Rattle.spin_filter.specs.Inner.Giving.{IsGiven}
use Rattle.std.proofs.Common.{◌∷◌, [], rules}
use Rattle.spin_filter.proofs.CommandsGiven.{line-command, line-other}
use Rattle.spin_filter.proofs.commands.give_line.Goals as goal

pub returns-in-Command-clause-given : goal.returns-in-Command-clause-given
returns-in-Command-clause-given g c =
    let d = data_of c.args.setup.now in
    IfOk-weaker c.give.result (IsGiven d (c.in-Command.command ∷ []) c.args.so_far) (IsGiven d (commands_of (c.args.line.now ∷ [])) c.args.so_far)
    (λ (now : Commanded) g. line-command d c.args.line.now c.in-Command.command c.args.so_far now c.in-Command.is g) c.give.ensures.given

pub returns-in_default-clause-given : goal.returns-in_default-clause-given
returns-in_default-clause-given g c = line-other (data_of c.args.setup.now) c.args.line.now c.args.so_far (search rules)
