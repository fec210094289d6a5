-- What a policy answers: the first of its rules that matches the request decides.
use Rattle.std.specs.Prelude.{ℕ, ◌+◌, Bool, true, false, not, ◌&&◌, ◌||◌, ◌==◌, nat_lt, nat_le}
use Rattle.std.specs.Prelude.{if◌then◌else◌, List, [], ◌∷◌, length, slice_get, position, Option, None, Some}
use Rattle.std.specs.Option.{option_map_or}
use Rattle.spin_values.specs.First.{first_of}
use Rattle.spin_word.specs.declared.command.Op.{Op}
use Rattle.spin_word.specs.declared.command.Op.TheVariants as op
use Rattle.spin_word.specs.Commands.{number_of_op}
use Rattle.spin_policy.specs.declared.policy.TheConstants.{MAX_RULES}
use Rattle.spin_policy.specs.declared.rule.TheConstants.{MAX_GUARDS}
use Rattle.spin_policy.specs.declared.rule.OpMatch.{OpMatch}
use Rattle.spin_policy.specs.declared.rule.OpMatch.TheVariants as op_match
use Rattle.spin_policy.specs.declared.rule.Rule.{Rule}
use Rattle.spin_policy.specs.declared.rule.Request.{Request}
use Rattle.spin_policy.specs.declared.rule.Effect.{Effect}
use Rattle.spin_policy.specs.declared.rule.Effect.TheVariants as effect
use Rattle.spin_policy.specs.declared.rule.Verdict.{Verdict}
use Rattle.spin_policy.specs.declared.rule.Verdict.TheVariants as verdict
use Rattle.spin_policy.specs.declared.policy.PolicyFault.{PolicyFault}
use Rattle.spin_policy.specs.declared.policy.PolicyFault.TheVariants as fault

-- any op, or this one
abbrev pub is_of_op : OpMatch → Op → Bool
is_of_op op_match.Any o = true
is_of_op (op_match.One wanted) o = number_of_op wanted == number_of_op o

-- any handler, or this one
abbrev pub is_of_handler : Option ℕ → ℕ → Bool
is_of_handler None handler = true
is_of_handler (Some wanted) handler = wanted == handler

-- no binding is changed, or it is the requester's own
abbrev pub is_own : Option ℕ → ℕ → Bool
is_own None requester = true
is_own (Some owner) requester = owner == requester

-- the rule speaks of the request
abbrev pub matches : Rule → Request → Bool
matches rule request =
    nat_le rule.low request.requester
    && nat_le request.requester rule.high
    && is_of_op rule.op request.op
    && is_of_handler rule.handler request.handler
    && (not rule.own_only || is_own request.target_owner request.requester)

-- the op is an install
abbrev pub is_install : Op → Bool
is_install op.Install = true
is_install o = false

-- the op gives a binding its handler and guards
abbrev pub sets_guards : Op → Bool
sets_guards op.Install = true
sets_guards op.Replace = true
sets_guards o = false

-- what the rule of that number answers, where it decides
abbrev pub rule_answer : Effect → ℕ → Request → Verdict
rule_answer effect.Allow number request = verdict.Allow
rule_answer effect.Deny number request = verdict.Deny number
rule_answer (effect.Quota most) number request =
    if is_install request.op && nat_le most request.live then verdict.Deny number else verdict.Allow
rule_answer (effect.Impose guards) number request =
    if sets_guards request.op then verdict.Impose number else verdict.Allow
rule_answer (effect.Force guards place apart) number request =
    if sets_guards request.op then verdict.Force number else verdict.Allow

-- the answer where the deciding rule stands at this place of the list, counted from 0, or there is
-- none
abbrev pub answer_at : List Rule → Request → Option ℕ → Verdict
answer_at rules request None = verdict.Deny 0
answer_at rules request (Some at) =
    option_map_or (λ rule. rule_answer rule.effect (at + 1) request) (slice_get rules at) (verdict.Deny 0)

-- the first rule that matches decides, its number being its place counted from 1
abbrev pub verdict_of : List Rule → Request → Verdict
verdict_of rules request = answer_at rules request (position (λ rule. matches rule request) rules)

-- an `Impose` of no guard or too many, or a `Force` of too many
abbrev pub has_wrong_guards : Effect → Bool
has_wrong_guards (effect.Impose guards) = (length guards == 0) || nat_lt MAX_GUARDS (length guards)
has_wrong_guards (effect.Force guards place apart) = nat_lt MAX_GUARDS (length guards)
has_wrong_guards e = false

-- why the rule isn't added to these
abbrev pub push_fault : List Rule → Rule → Option PolicyFault
push_fault rules rule = first_of (
    (nat_le MAX_RULES (length rules), fault.TooMany)
    ∷ (has_wrong_guards rule.effect, fault.TooManyGuards)
    ∷ [])
