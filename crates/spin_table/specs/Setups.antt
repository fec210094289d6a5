-- What a setup says, as plain data.
use Rattle.std.specs.Prelude.{ℕ, Bool, true, nat_lt, List, [], length, map, Option, None, Some}
use Rattle.std.specs.Prelude.{slice_get}
use Rattle.spin_code.specs.declared.test.Test.{Test}
use Rattle.spin_objects.specs.Units.{HandlerUnit, GuardUnit}
use Rattle.spin_policy.specs.declared.rule.Rule.{Rule}
use Rattle.spin_table.specs.declared.event.EventDef.{EventDef}
use Rattle.spin_table.specs.declared.event.Authority.{Authority}
use Rattle.spin_table.specs.declared.event.Authority.TheVariants as authority

-- the number of modules, the greatest number of live bindings of an event, the events, the handlers and guards, both
-- numbered from 1, and the policies of the native authorisers, which have indexes from 0
pub record SetupData : Type 0 where
  pub modules : ℕ
  pub live : ℕ
  pub events : List EventDef
  pub handlers : List HandlerUnit
  pub guards : List GuardUnit
  pub policies : List (List Rule)

-- the guards' tests
abbrev pub tests_in : SetupData → List Test
tests_in d = map (λ g. g.test) d.guards

-- these rules, or none where there is no policy
abbrev pub rules_if : Option (List Rule) → List Rule
rules_if None = []
rules_if (Some rules) = rules

-- the rules by which the event's owner answers: a native authoriser's are its policy, none where there is no such one
abbrev pub rules_of : List (List Rule) → Authority → List Rule
rules_of policies (authority.Rules rules) = rules
rules_of policies (authority.Native native) = rules_if (slice_get policies native)

-- the rules are given, or the native authoriser is there
abbrev pub has_authority : List (List Rule) → Authority → Bool
has_authority policies (authority.Rules rules) = true
has_authority policies (authority.Native native) = nat_lt native (length policies)
