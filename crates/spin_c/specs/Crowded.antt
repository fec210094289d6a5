-- Commands that would leave no room for a renewal. Of what a command adds only live bindings take places of the log that a
-- renewed hub goes on over, one each; defaults take none.
use Rattle.std.specs.Prelude.{◌≡◌, ◌≤◌, ℕ, ◌+◌, Bool, false, ◌&&◌, nat_le, length}
use Rattle.spin_policy.specs.Verdicts.{is_install}
use Rattle.spin_table.specs.declared.refusal.Verdicted.{Verdicted}
use Rattle.spin_table.specs.Renewals.{live_numbers}
use Rattle.spin_table.specs.Setups.{SetupData}
use Rattle.spin_table.specs.Soundness.{IsSound}
use Rattle.spin_table.specs.States.{State}
use Rattle.spin_table.specs.Steps.{IsStep}
use Rattle.spin_word.specs.declared.command.Command.{Command}
use Rattle.spin_word.specs.declared.command.TheConstants.{MAX_PLACE}

-- It is an install; and where so many lanes each did one at this state, as many bindings would be live as a log has
-- places, so that none would be left by a renewal.
abbrev pub crowds : ℕ → State → Command → Bool
crowds lanes s c = is_install c.op && nat_le MAX_PLACE (length (live_numbers s) + lanes)

-- each of so many lanes might install one more, and a place would be left for each
abbrev pub HasRoom : ℕ → State → Type 0
HasRoom lanes s = length (live_numbers s) + lanes ≤ MAX_PLACE

-- A command that doesn't crowd its own state leaves room where there was room, whatever becomes of it. So where no other lane
-- gives commands meanwhile, fewer bindings are live at every state than a log has places.
abbrev pub CommandsLeaveRoom : Type 0
CommandsLeaveRoom =
    (d : SetupData) (lanes : ℕ) (s next : State) (c : Command) (verdict : Verdicted)
    → IsSound d s → IsSound d next → IsStep d s c verdict next → crowds lanes s c ≡ false
    → HasRoom lanes s → HasRoom lanes next
