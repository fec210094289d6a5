-- The limits that the definitions cite, in numbers.
use Rattle.std.specs.Prelude.{◌≡◌}
use Rattle.spin_proto.specs.declared.reply.TheConstants.{MAX_RUNS}

-- each constant of the sources has its value
pub record AreStated : Type 0 where
  pub runs : MAX_RUNS ≡ 4096
