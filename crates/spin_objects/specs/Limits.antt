-- The limits that the definitions cite, in numbers.
use Rattle.std.specs.Prelude.{◌≡◌}
use Rattle.spin_objects.specs.declared.unit.TheConstants.{MAX_UNITS}
use Rattle.spin_objects.specs.declared.kinds.TheConstants.{MAX_NATIVES}

-- each constant of the sources has its value
pub record AreStated : Type 0 where
  pub units : MAX_UNITS ≡ 1023
  pub natives : MAX_NATIVES ≡ 64
