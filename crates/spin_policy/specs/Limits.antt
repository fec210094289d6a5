-- The limits that the definitions cite, in numbers.
use Rattle.std.specs.Prelude.{◌≡◌}
use Rattle.spin_policy.specs.declared.policy.TheConstants.{MAX_RULES}
use Rattle.spin_policy.specs.declared.rule.TheConstants.{MAX_GUARDS}

-- each constant of the sources has its value
pub record AreStated : Type 0 where
  pub rules : MAX_RULES ≡ 16
  pub guards : MAX_GUARDS ≡ 4
