-- The limits that the definitions cite, in numbers.
use Rattle.std.specs.Prelude.{◌≡◌}
use Rattle.spin_endpoint.specs.declared.ends.TheConstants.{MAX_ENDPOINTS}

-- each constant of the sources has its value
pub record AreStated : Type 0 where
  pub endpoints : MAX_ENDPOINTS ≡ 64
