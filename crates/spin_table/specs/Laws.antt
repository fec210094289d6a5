-- What a command comes to.
use Rattle.std.specs.Prelude.{◌≡◌, []}
use Rattle.spin_word.specs.declared.command.Command.{Command}
use Rattle.spin_table.specs.declared.refusal.Refusal.{Refusal}
use Rattle.spin_table.specs.declared.refusal.Refusal.TheVariants as refusal
use Rattle.spin_table.specs.declared.refusal.Verdicted.{Verdicted}
use Rattle.spin_table.specs.declared.refusal.Verdicted.TheVariants as verdicted
use Rattle.spin_table.specs.Setups.{SetupData}
use Rattle.spin_table.specs.States.{State}
use Rattle.spin_table.specs.Steps.{IsStep}

-- why a command is refused, but for which cycle it is
abbrev pub cause_of : Refusal → Refusal
cause_of (refusal.Conflict cycle) = refusal.Conflict []
cause_of r = r

-- the verdict, but for which cycle it tells
abbrev pub without_cycle : Verdicted → Verdicted
without_cycle verdicted.Accepted = verdicted.Accepted
without_cycle (verdicted.Refused r) = verdicted.Refused (cause_of r)

-- Two steps of one command at one state have the same verdict, but for the cycle that a conflict tells, and lead to the
-- same state.
abbrev pub StepsAreOne : Type 0
StepsAreOne =
    (d : SetupData) (s : State) (c : Command) (v w : Verdicted) (next other : State)
    → IsStep d s c v next → IsStep d s c w other
    → (without_cycle v ≡ without_cycle w) × (next ≡ other)
