-- The limits that the definitions cite, in numbers.
use Rattle.std.specs.Prelude.{◌≡◌}
use Rattle.spin_reass.specs.declared.limits.TheConstants.{MAX_ECHO, MAX_OPEN, MAX_PAYLOAD}

-- each constant of the sources has its value
pub record AreStated : Type 0 where
  pub echo : MAX_ECHO ≡ 65535
  pub open_datagrams : MAX_OPEN ≡ 64
  pub payload : MAX_PAYLOAD ≡ 65515
