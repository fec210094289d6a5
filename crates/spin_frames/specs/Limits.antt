-- The limits that the definitions cite, in numbers.
use Rattle.std.specs.Prelude.{◌≡◌}
use Rattle.spin_frames.specs.declared.waiting.TheConstants.{MAX_WAITING}
use Rattle.spin_frames.specs.declared.records.TheConstants.{MAX_WINDOW}

-- each constant of the sources has its value
pub record AreStated : Type 0 where
  pub window : MAX_WINDOW ≡ 1048576
  pub waiting : MAX_WAITING ≡ 65536
