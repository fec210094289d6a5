-- What a verdict on a command is told as, and the cycle for which one is refused.
use Rattle.std.specs.Prelude.{ℕ, Option, None, Some, length}
use Rattle.spin_table.specs.declared.refusal.Refusal.{Refusal}
use Rattle.spin_table.specs.declared.refusal.Refusal.TheVariants as refusal
use Rattle.spin_table.specs.declared.refusal.Verdicted.{Verdicted}
use Rattle.spin_table.specs.declared.refusal.Verdicted.TheVariants as verdicted
use Rattle.spin_report.specs.Verdicts.{refusal_told}
use Rattle.spin_c.specs.declared.ask.Outcome.{Outcome}
use Rattle.spin_c.specs.declared.ask.Outcome.TheVariants as outcome
use Rattle.spin_c.specs.declared.ask.Why.{Why}

-- the number of the rule by which a command is refused, 0 where there is none
abbrev pub rule_in : Refusal → ℕ
rule_in (refusal.Denied rule) = rule
rule_in (refusal.ForcedMode rule) = rule
rule_in other = 0

-- how many bindings the cycle has for which it is refused, 0 where there is none
abbrev pub bindings_in : Refusal → ℕ
bindings_in (refusal.Conflict cycle) = length cycle
bindings_in other = 0

-- why it is refused, in numbers
abbrev pub why_told : Refusal → Why
why_told why = record { kind = (refusal_told why).0; rule = rule_in why; bindings = bindings_in why }

-- what a verdict at a place is told as
abbrev pub judged_told : ℕ → Verdicted → Outcome
judged_told place verdicted.Accepted = outcome.Accepted place
judged_told place (verdicted.Refused why) = outcome.Refused place (why_told why)

-- the binding at an index of a cycle
abbrev pub binding_told : Option ℕ → Outcome
binding_told None = outcome.NoBinding
binding_told (Some binding) = outcome.InCycle binding
