-- The limits that the definitions cite, in numbers.
use Rattle.std.specs.Prelude.{◌≡◌}
use Rattle.spin_script.specs.declared.lanes.TheConstants.{MAX_DEEDS, MAX_EARLY_COMMANDS}
use Rattle.spin_script.specs.declared.read.TheConstants.{MAX_EARLY_LIVE}

-- each constant of the sources has its value
pub record AreStated : Type 0 where
  pub deeds : MAX_DEEDS ≡ 65536
  pub early_commands : MAX_EARLY_COMMANDS ≡ 1000
  pub early_live : MAX_EARLY_LIVE ≡ 32
