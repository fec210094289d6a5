-- The limits that the definitions cite, in numbers.
use Rattle.std.specs.Prelude.{◌≡◌}
use Rattle.spin_grammar.specs.declared.limits.TheConstants.{MAX_TEXT, MAX_NAME, MAX_MODULES, LAST_MODULE}
use Rattle.spin_grammar.specs.declared.limits.TheConstants.{LAST_EVENT, LAST_ENDPOINT, LAST_HANDLER}
use Rattle.spin_grammar.specs.declared.limits.TheConstants.{LAST_GUARD, LAST_LANE, LAST_PLACE, LAST_TARGET}
use Rattle.spin_grammar.specs.declared.limits.TheConstants.{MAX_NAMED, LAST_ARGUMENT, MAX_PARTS, MAX_OFFSET}
use Rattle.spin_grammar.specs.declared.limits.TheConstants.{MAX_WIDTH, MAX_QUOTA, MAX_IMPOSED, MAX_PACKETS}

-- each constant of the sources has its value
pub record AreStated : Type 0 where
  pub text : MAX_TEXT ≡ 1048576
  pub name : MAX_NAME ≡ 16
  pub modules : MAX_MODULES ≡ 256
  pub last_module : LAST_MODULE ≡ 255
  pub last_event : LAST_EVENT ≡ 63
  pub last_endpoint : LAST_ENDPOINT ≡ 63
  pub last_handler : LAST_HANDLER ≡ 1023
  pub last_guard : LAST_GUARD ≡ 1023
  pub last_lane : LAST_LANE ≡ 255
  pub last_place : LAST_PLACE ≡ 4096
  pub last_target : LAST_TARGET ≡ 1023
  pub named : MAX_NAMED ≡ 4
  pub last_argument : LAST_ARGUMENT ≡ 7
  pub parts : MAX_PARTS ≡ 8
  pub offset : MAX_OFFSET ≡ 65535
  pub width : MAX_WIDTH ≡ 255
  pub quota : MAX_QUOTA ≡ 1000
  pub imposed : MAX_IMPOSED ≡ 4
  pub packets : MAX_PACKETS ≡ 65536
