-- What an allowing verdict brings with it, by the rule that it names.
use Rattle.std.specs.Prelude.{ℕ, Bool, false, List, []}
use Rattle.std.specs.Option.{option_map_or}
use Rattle.spin_values.specs.First.{numbered}
use Rattle.spin_policy.specs.declared.rule.Forced.{Forced}
use Rattle.spin_policy.specs.declared.rule.Forced.TheVariants as forced
use Rattle.spin_policy.specs.declared.rule.Rule.{Rule}
use Rattle.spin_policy.specs.declared.rule.Effect.{Effect}
use Rattle.spin_policy.specs.declared.rule.Effect.TheVariants as effect
use Rattle.spin_policy.specs.declared.rule.Verdict.{Verdict}
use Rattle.spin_policy.specs.declared.rule.Verdict.TheVariants as verdict

-- the guards that come with an effect; only `Impose` and `Force` can have some
abbrev pub effect_guards : Effect → List ℕ
effect_guards (effect.Impose guards) = guards
effect_guards (effect.Force guards place apart) = guards
effect_guards e = []

-- the place that an effect forces; only `Force` can force one
abbrev pub effect_place : Effect → Forced
effect_place (effect.Force guards place apart) = place
effect_place e = forced.Keep

-- the effect forces asynchronous running, which only `Force` can
abbrev pub effect_apart : Effect → Bool
effect_apart (effect.Force guards place apart) = apart
effect_apart e = false

-- the effect of the rule of that number, or else `Allow`
abbrev pub numbered_effect : List Rule → ℕ → Effect
numbered_effect rules number = option_map_or (λ rule. rule.effect) (numbered rules number) effect.Allow

-- the effect of the rule that allows with something, or else `Allow`
abbrev pub allowing_effect : List Rule → Verdict → Effect
allowing_effect rules (verdict.Impose number) = numbered_effect rules number
allowing_effect rules (verdict.Force number) = numbered_effect rules number
allowing_effect rules v = effect.Allow

-- the guards that come with the verdict
abbrev pub imposed_guards : List Rule → Verdict → List ℕ
imposed_guards rules v = effect_guards (allowing_effect rules v)

-- the place that comes with the verdict
abbrev pub forced_place : List Rule → Verdict → Forced
forced_place rules v = effect_place (allowing_effect rules v)

-- whether the verdict forces asynchronous running
abbrev pub forces_apart : List Rule → Verdict → Bool
forces_apart rules v = effect_apart (allowing_effect rules v)
