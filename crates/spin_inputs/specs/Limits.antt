-- The limits that the definitions cite, in numbers.
use Rattle.std.specs.Prelude.{◌≡◌}
use Rattle.spin_inputs.specs.declared.files.TheConstants.{TEXT_LIMIT}

-- each constant of the sources has its value: a script or a trace has at most 1 MiB
pub record AreStated : Type 0 where
  pub text : TEXT_LIMIT ≡ 1048576
