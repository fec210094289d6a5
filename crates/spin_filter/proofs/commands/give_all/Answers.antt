use Rattle.std.proofs.Common.{refl}
use Rattle.std.proofs.lemmas.Result.{IfOk-weaker}
use Rattle.spin_table.specs.SetupOf.{data_of}
use Rattle.spin_filter.specs.declared.commands.Commanded.{Commanded}
use Rattle.spin_filter.specs.Commands.{commands_of}
use Rattle.spin_filter.specs.Inner.Giving.{IsGiven, IsCommanded}
use Rattle.spin_filter.proofs.CommandsGiven.{commanded}
use Rattle.spin_filter.proofs.commands.give_all.Goals as goal

pub returns-clause-given : goal.returns-clause-given
returns-clause-given g c =
    let d = data_of c.args.setup.now in
    let start : Commanded = record { version = c.in_ok-version.version; refused = 0 } in
    IfOk-weaker c.give_commands.result (IsGiven d (commands_of c.args.lines.now) start) (IsCommanded d (commands_of c.args.lines.now))
    (λ (now : Commanded) given. commanded d (commands_of c.args.lines.now) start now c.in_ok-version.ensures.start refl given) c.give_commands.ensures.given
