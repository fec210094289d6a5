-- The limits that the definitions cite, in numbers.
use Rattle.std.specs.Prelude.{◌≡◌}
use Rattle.spin_outside.specs.declared.shelf.TheConstants.{READ_SIZE}

-- each constant of the sources has its value
pub record AreStated : Type 0 where
  pub piece : READ_SIZE ≡ 4096
