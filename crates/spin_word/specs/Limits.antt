-- The limits that the definitions cite, in numbers.
use Rattle.std.specs.Prelude.{◌≡◌, ◌∷◌, []}
use Rattle.spin_word.specs.declared.command.TheConstants.{MAX_EVENTS, MAX_LANES, LANE_LIMIT, HANDLER_LIMIT}
use Rattle.spin_word.specs.declared.command.TheConstants.{GUARD_LIMIT, MAX_PLACE, NO_BINDING, NO_BINDINGS}

-- each constant of the sources has its value
pub record AreStated : Type 0 where
  pub events : MAX_EVENTS ≡ 64
  pub lanes : MAX_LANES ≡ 8
  pub lane_numbers : LANE_LIMIT ≡ 16
  pub handler_numbers : HANDLER_LIMIT ≡ 1024
  pub guard_numbers : GUARD_LIMIT ≡ 1024
  pub places : MAX_PLACE ≡ 4096
  pub no_binding : NO_BINDING ≡ 65535
  pub no_bindings : NO_BINDINGS ≡ 65535 ∷ 65535 ∷ 65535 ∷ 65535 ∷ []
