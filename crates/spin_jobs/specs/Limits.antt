-- The limits that the definitions cite, in numbers.
use Rattle.std.specs.Prelude.{◌≡◌}
use Rattle.spin_jobs.specs.declared.claim.TheConstants.{MAX_WORKERS}

-- each constant of the sources has its value
pub record AreStated : Type 0 where
  pub workers : MAX_WORKERS ≡ 8
