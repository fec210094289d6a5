-- The limits that the definitions cite, in numbers.
use Rattle.std.specs.Prelude.{◌≡◌}
use Rattle.spin_commands.specs.declared.check.TheConstants.{REPORT_LIMIT}

-- each constant of the sources has its value: a report has at most 64 MiB
pub record AreStated : Type 0 where
  pub report : REPORT_LIMIT ≡ 67108864
