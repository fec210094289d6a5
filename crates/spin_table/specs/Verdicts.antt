-- What the owner of an event answers to a command.
use Rattle.std.specs.Prelude.{ℕ, Bool, true, false, ◌==◌, if◌then◌else◌, List, None}
use Rattle.std.specs.Option.{option_map}
use Rattle.spin_word.specs.Commands.{target_is_used}
use Rattle.spin_word.specs.declared.command.Command.{Command}
use Rattle.spin_place.specs.declared.binding.Binding.{Binding}
use Rattle.spin_policy.specs.declared.rule.Request.{Request}
use Rattle.spin_policy.specs.declared.rule.Rule.{Rule}
use Rattle.spin_policy.specs.declared.rule.Verdict.{Verdict}
use Rattle.spin_policy.specs.declared.rule.Verdict.TheVariants as verdict
use Rattle.spin_policy.specs.Verdicts.{verdict_of}
use Rattle.spin_table.specs.declared.event.EventDef.{EventDef}
use Rattle.spin_table.specs.Setups.{rules_of}
use Rattle.spin_table.specs.States.{binding_of, live_of}

-- what the owner is asked, where the event has these bindings
abbrev pub request_of : List Binding → Command → Request
request_of bs c = record {
  op = c.op;
  requester = c.requester;
  handler = c.handler;
  target_owner = if target_is_used c.op then option_map (λ b. b.requester) (binding_of bs c.target) else None;
  live = live_of bs c.requester;
}

-- the owner is allowed, and others get the answer of the owner's rules
abbrev pub answer_to : List (List Rule) → EventDef → List Binding → Command → Verdict
answer_to policies e bs c =
    if c.requester == e.owner then verdict.Allow else verdict_of (rules_of policies e.authority) (request_of bs c)

-- the verdict is a denial, by whatever rule or by none
abbrev pub is_denied : Verdict → Bool
is_denied (verdict.Deny rule) = true
is_denied v = false

abbrev pub is_forced : Verdict → Bool
is_forced (verdict.Force rule) = true
is_forced v = false

-- the rule that a verdict names, 0 being none
abbrev pub named_rule : Verdict → ℕ
named_rule verdict.Allow = 0
named_rule (verdict.Impose rule) = rule
named_rule (verdict.Force rule) = rule
named_rule (verdict.Deny rule) = rule
