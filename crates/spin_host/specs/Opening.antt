-- Why a raise isn't opened.
use Rattle.std.specs.Prelude.{ℕ, Bool, true, false, List, Option, Some, None, nat_lt, if◌then◌else◌, slice_get}
use Rattle.std.specs.Option.{option_map_or}
use Rattle.spin_values.specs.declared.types.EventType.{EventType}
use Rattle.spin_values.specs.declared.values.Value.{Value}
use Rattle.spin_table.specs.Setups.{SetupData}
use Rattle.spin_proto.specs.Replies.{are_fit, types_in}
use Rattle.spin_host.specs.declared.fault.RaiseFault.{RaiseFault}
use Rattle.spin_host.specs.declared.fault.RaiseFault.TheVariants as fault

-- the arguments fit the event, or not
abbrev pub args_fault : EventType → List Value → Option RaiseFault
args_fault sig args = if are_fit sig args then None else Some fault.WrongArgs

-- why this raise isn't opened
abbrev pub begin_fault : SetupData → ℕ → List Value → Option RaiseFault
begin_fault d event args =
    option_map_or (λ (sig : EventType). args_fault sig args) (slice_get (types_in d) event) (Some fault.UnknownEvent)

-- only greater events are raised from within
abbrev pub or_downward : ℕ → ℕ → Option RaiseFault → Option RaiseFault
or_downward raised event (Some why) = Some why
or_downward raised event None = if nat_lt raised event then None else Some fault.Downward

-- why this raise isn't opened from within a raise of an event, where a firing is due there or not
abbrev pub within_fault : SetupData → ℕ → Bool → ℕ → List Value → Option RaiseFault
within_fault d raised false event args = Some fault.NotDue
within_fault d raised true event args = or_downward raised event (begin_fault d event args)
