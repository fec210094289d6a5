-- The limits that the definitions cite, in numbers.
use Rattle.std.specs.Prelude.{◌≡◌}
use Rattle.spin_pcap.specs.declared.limits.TheConstants.{MAX_RECORDS, MAX_CAPTURED, MAX_HELD}

-- each constant of the sources has its value
pub record AreStated : Type 0 where
  pub records : MAX_RECORDS ≡ 1048576
  pub captured : MAX_CAPTURED ≡ 262144
  pub held : MAX_HELD ≡ 65536
