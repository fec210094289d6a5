-- What the steps that make the command add to it, and what is read of a value.
use Rattle.std.proofs.Common.{◌≡◌, ◌||◌, ℕ, List, false, ap, ap₂, ◌∙◌}
use Rattle.clap.specs.Words.{App, Rule, AddsArg, AddsSubcommand, app_of, first_of, first_value, rows_of, rule_of, with_rule, with_subcommand}
use Rattle.clap.specs.declared.builder.arg.Arg.{Arg}
use Rattle.clap.specs.declared.builder.command.Command.{Command}
use Rattle.clap.specs.declared.builder.command.Command.TheViews.{out-Command}
use Rattle.clap.specs.declared.parser.matches.Found.{Found}
use Rattle.clap.proofs.WalkLemmas.{first_value-rows}

-- a command with no global argument, as a parse reads it
abbrev pub Reads : Command → App → Type 0
Reads c a = (app_of c ≡ a) × ((out-Command c).has_globals ≡ false)

pub adds : (old new : Command) (arg : Arg) (a : App) (r : Rule) → AddsArg old arg new → Reads old a
    → (rule_of arg ≡ r) × (arg.global ≡ false) → Reads new (with_rule a r)
adds old new arg a r added was is =
    (added.shape is.1 ∙ ap₂ with_rule was.0 is.0, added.globals ∙ ap₂ (λ x y. x || y) was.1 is.1)

pub joins : (old sub new : Command) (a b : App) → AddsSubcommand old sub new → app_of old ≡ a → Reads sub b
    → app_of new ≡ with_subcommand a b.top
joins old sub new a b added was is = added.shape is.1 ∙ ap₂ with_subcommand was (ap (λ (a : App). a.top) is.0)

pub first_is : (f : Found) (id : List ℕ) → first_value f id ≡ first_of id (rows_of f)
first_is f id = first_value-rows f id
