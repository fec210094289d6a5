-- What is wrong with a setup: the first of these faults that applies.
use Rattle.std.specs.Prelude.{ℕ, ◌+◌, Bool, true, false, not, ◌&&◌, ◌||◌, ◌==◌, nat_lt}
use Rattle.std.specs.Prelude.{nat_le, if◌then◌else◌, IsTrue, List, [], ◌∷◌, length, map}
use Rattle.std.specs.Prelude.{slice_get, position, Option, None, Some, is_err, is_none}
use Rattle.std.specs.List.{list_all, enumerate_from}
use Rattle.std.specs.Option.{option_map, option_map_or}
use Rattle.std.specs.Cmp.Lexicographic.{pointwise}
use Rattle.spin_values.specs.declared.types.Kind.{Kind}
use Rattle.spin_values.specs.declared.types.Kind.TheVariants as kind
use Rattle.spin_values.specs.declared.types.Param.{Param}
use Rattle.spin_values.specs.Kinds.{kinds_of}
use Rattle.spin_code.specs.Check.{merge_check}
use Rattle.spin_code.specs.Uses.{same_kind, is_of_kind}
use Rattle.spin_code.specs.declared.act.Layer.{Layer}
use Rattle.spin_code.specs.declared.act.Layer.TheVariants as layer
use Rattle.spin_code.specs.declared.act.Part.{Part}
use Rattle.spin_code.specs.declared.act.Part.TheVariants as part
use Rattle.spin_code.specs.declared.act.ActStep.{ActStep}
use Rattle.spin_code.specs.declared.act.ActStep.TheVariants as step
use Rattle.spin_word.specs.declared.command.TheConstants.{MAX_EVENTS}
use Rattle.spin_policy.specs.declared.rule.Rule.{Rule}
use Rattle.spin_policy.specs.Imposed.{effect_guards}
use Rattle.spin_objects.specs.Units.{HandlerUnit, GuardUnit}
use Rattle.spin_table.specs.declared.setup.TheConstants.{MAX_LIVE, MAX_MODULES}
use Rattle.spin_table.specs.declared.event.EventDef.{EventDef}
use Rattle.spin_table.specs.declared.fault.SetupFault.{SetupFault}
use Rattle.spin_table.specs.declared.fault.SetupFault.TheVariants as fault
use Rattle.spin_table.specs.Setups.{SetupData, rules_of, has_authority}
use Rattle.spin_table.specs.Units.{is_fit_guard, is_fit_default}

-- a number of modules, of live bindings, or of events that is out of its range
abbrev pub has_wrong_size : ℕ → ℕ → ℕ → Bool
has_wrong_size modules live events =
    (modules == 0) || nat_lt MAX_MODULES modules || (live == 0) || nat_lt MAX_LIVE live || nat_lt MAX_EVENTS events

abbrev pub has_bad_owner : ℕ → EventDef → Bool
has_bad_owner modules e = nat_le modules e.owner

abbrev pub has_bad_merge : EventDef → Bool
has_bad_merge e = is_err (merge_check e.merge)

-- the kind of the argument that a part makes
abbrev pub part_kind : Part → Kind
part_kind (part.Word e) = kind.Word
part_kind (part.Bytes arg from) = kind.Bytes

-- the parameters take what the headers enclose, and what they say: of IPv4 the payload, the protocol and both
-- addresses, of UDP the payload, both ports and both addresses
abbrev pub takes_layer : List Param → Layer → Bool
takes_layer params layer.Ipv4 =
    (length params == 4) && is_of_kind (slice_get params 0) kind.Bytes && is_of_kind (slice_get params 1) kind.Word
    && is_of_kind (slice_get params 2) kind.Word && is_of_kind (slice_get params 3) kind.Word
takes_layer params layer.Udp =
    (length params == 5) && is_of_kind (slice_get params 0) kind.Bytes && is_of_kind (slice_get params 1) kind.Word
    && is_of_kind (slice_get params 2) kind.Word && is_of_kind (slice_get params 3) kind.Word
    && is_of_kind (slice_get params 4) kind.Word

-- the parameters have the kinds of the parts
abbrev pub takes_parts : List Part → EventDef → Bool
takes_parts parts e = pointwise same_kind (kinds_of e.sig) (map part_kind parts)

-- what the step raises is there, and takes what it gets
abbrev pub is_step_fit : List EventDef → ActStep → Bool
is_step_fit events (step.Up event parts) = option_map_or (takes_parts parts) (slice_get events event) false
is_step_fit events (step.Layer k event) =
    option_map_or (λ (e : EventDef). takes_layer e.sig.params k) (slice_get events event) false
is_step_fit events s = true

abbrev pub raises_amiss : List EventDef → HandlerUnit → Bool
raises_amiss events h = not (list_all (is_step_fit events) h.act.steps)

-- the first default, if there is one, can't serve the event of that number
abbrev pub has_bad_default : List HandlerUnit → ℕ × EventDef → Bool
has_bad_default handlers numbered = not (is_fit_default handlers numbered.0 numbered.1 numbered.1.first_default)

-- the guards that the rule imposes are there, and ask of the event's parameters
abbrev pub is_fit_rule : List GuardUnit → EventDef → Rule → Bool
is_fit_rule guards e rule = list_all (is_fit_guard guards e) (effect_guards rule.effect)

-- the native authoriser isn't there, or a guard that the rules impose isn't there or asks of other parameters
abbrev pub has_bad_policy : List (List Rule) → List GuardUnit → EventDef → Bool
has_bad_policy policies guards e =
    not (has_authority policies e.authority && list_all (is_fit_rule guards e) (rules_of policies e.authority))

-- the first of these faults
abbrev pub first_fault : List (Option SetupFault) → Option SetupFault
first_fault [] = None
first_fault (Some fault ∷ others) = Some fault
first_fault (None ∷ others) = first_fault others

-- each fault, if it applies, with the least event or handler that has it
abbrev pub faults_of : SetupData → List (Option SetupFault)
faults_of d =
    (if has_wrong_size d.modules d.live (length d.events) then Some fault.TooMany else None)
    ∷ option_map (λ at. fault.BadOwner at) (position (has_bad_owner d.modules) d.events)
    ∷ option_map (λ at. fault.BadMerge at) (position has_bad_merge d.events)
    ∷ option_map (λ at. fault.BadUp (at + 1)) (position (raises_amiss d.events) d.handlers)
    ∷ option_map (λ at. fault.BadDefault at)
    (position (has_bad_default d.handlers) (enumerate_from 0 d.events))
    ∷ option_map (λ at. fault.BadPolicy at) (position (has_bad_policy d.policies d.guards) d.events)
    ∷ []

-- why no setup is made of this: the first fault that applies
abbrev pub setup_fault : SetupData → Option SetupFault
setup_fault d = first_fault (faults_of d)

-- none of the faults applies
abbrev pub IsSoundSetup : SetupData → Type 0
IsSoundSetup d = IsTrue (is_none (setup_fault d))
