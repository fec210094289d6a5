-- What the commands of a script come to, with their count.
use Rattle.std.specs.Prelude.{◌≡◌, List, ◌++◌, count_by}
use Rattle.spin_word.specs.declared.command.Command.{Command}
use Rattle.spin_table.specs.Setups.{SetupData}
use Rattle.spin_table.specs.States.{start_of}
use Rattle.spin_table.specs.declared.refusal.Verdicted.{Verdicted}
use Rattle.spin_filter.specs.declared.commands.Commanded.{Commanded}
use Rattle.spin_filter.specs.Commands.{AreGiven, is_refusal}
use Rattle.spin_filter.specs.Counting.{capped}

-- The commands are given where the one stands, and lead to the other; the refusals among their verdicts are counted.
pub record IsGiven (d : SetupData) (commands : List Command) (before now : Commanded) : Type 0 where
  pub verdicts : List Verdicted
  pub given : AreGiven d before.version.state commands verdicts now.version.state
  pub counted : (earlier : List Verdicted) → before.refused ≡ capped (count_by is_refusal earlier)
      → now.refused ≡ capped (count_by is_refusal (earlier ++ verdicts))

-- The commands were given from the start on, and lead there; the refusals among their verdicts are counted.
pub record IsCommanded (d : SetupData) (commands : List Command) (now : Commanded) : Type 0 where
  pub verdicts : List Verdicted
  pub given : AreGiven d (start_of d) commands verdicts now.version.state
  pub refused : now.refused ≡ capped (count_by is_refusal verdicts)
