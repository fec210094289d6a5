-- The limits that the definitions cite, in numbers.
use Rattle.std.specs.Prelude.{◌≡◌}
use Rattle.spin_table.specs.declared.setup.TheConstants.{MAX_MODULES, MAX_LIVE}

-- each constant of the sources has its value
pub record AreStated : Type 0 where
  pub modules : MAX_MODULES ≡ 256
  pub live : MAX_LIVE ≡ 64
