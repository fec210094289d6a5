-- The limits that the definitions cite, in numbers.
use Rattle.std.specs.Prelude.{◌≡◌}
use Rattle.spin_values.specs.declared.types.TheConstants.{MAX_PARAMS}

-- each constant of the sources has its value
pub record AreStated : Type 0 where
  pub parameters : MAX_PARAMS ≡ 8
