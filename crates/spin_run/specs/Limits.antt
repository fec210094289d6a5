-- The limits of a run, in numbers.
use Rattle.std.specs.Prelude.{◌≡◌}
use Rattle.spin_run.specs.declared.segment.TheConstants.{WORKERS}

-- each constant of the sources has its value
pub record AreStated : Type 0 where
  pub workers : WORKERS ≡ 4
