-- The limits that the definitions cite, in numbers.
use Rattle.std.specs.Prelude.{◌≡◌}
use Rattle.spin_later.specs.declared.queue.TheConstants.{MAX_PARTIES, MAX_CAPACITY}

-- each constant of the sources has its value
pub record AreStated : Type 0 where
  pub parties : MAX_PARTIES ≡ 8
  pub capacity : MAX_CAPACITY ≡ 65536
