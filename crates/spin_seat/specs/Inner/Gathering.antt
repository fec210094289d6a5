-- What keeps a state from being renewed.
use Rattle.std.specs.Prelude.{◌<◌, ◌≤◌, length}
use Rattle.spin_word.specs.declared.command.TheConstants.{MAX_PLACE}
use Rattle.spin_table.specs.States.{State}
use Rattle.spin_table.specs.Renewals.{live_numbers}
use Rattle.spin_seat.specs.declared.renewal.RenewFault.{RenewFault}
use Rattle.spin_seat.specs.declared.renewal.RenewFault.TheVariants as fault

-- as many bindings are live as there are places; or fewer, and there was no memory
abbrev pub KeepsFrom : State → RenewFault → Type 0
KeepsFrom s fault.Full = MAX_PLACE ≤ length (live_numbers s)
KeepsFrom s fault.NoMemory = length (live_numbers s) < MAX_PLACE
