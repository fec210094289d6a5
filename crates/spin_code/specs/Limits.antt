-- The limits that the definitions cite, in numbers.
use Rattle.std.specs.Prelude.{◌≡◌}
use Rattle.spin_code.specs.declared.depth.TheConstants.{MAX_DEPTH}
use Rattle.spin_code.specs.declared.nodes.TheConstants.{MAX_NODES}

-- each constant of the sources has its value
pub record AreStated : Type 0 where
  pub depth : MAX_DEPTH ≡ 8
  pub nodes : MAX_NODES ≡ 64
