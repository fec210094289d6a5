-- The first cause of a line.
use Rattle.std.proofs.Common.{◌≡◌, ◌+◌, ◌<◌, ◌==◌, ℕ, Bool, true, false, not, ◌||◌, nat_le, List, [], ◌∷◌, length, Option, None, Some, Result, Ok, Err, refl, sym, ◌∙◌, arith}
use Rattle.std.specs.Prelude.{IsErrAnd}
use Rattle.std.proofs.lemmas.Bool.Decides.{nat_tests}
use Rattle.spin_policy.specs.declared.rule.Rule.{Rule}
use Rattle.spin_table.specs.declared.event.EventDef.{EventDef}
use Rattle.spin_table.specs.Faults.{is_fit_rule}
use Rattle.spin_grammar.specs.declared.cause.Cause.{Cause}
use Rattle.spin_grammar.specs.declared.cause.Cause.TheVariants as cause
use Rattle.spin_grammar.specs.declared.fault.Fault.{Fault}
use Rattle.spin_grammar.specs.declared.fault.Fault.TheVariants as fault
use Rattle.spin_grammar.specs.Lines.{LineMeaning}
use Rattle.spin_script.specs.States.{ScriptState, NativeData, given_rules, is_native}
use Rattle.spin_values.specs.First.{first_of}
use Rattle.spin_script.specs.Checks.{checks, rule_checks, speaks_of_unknown}
use Rattle.spin_script.specs.Inner.Reader.{Adds}

-- a fault that is a cause is that cause
pub cause_is : (c d : Cause) → fault.Bad c ≡ fault.Bad d → Some c ≡ Some d
cause_is c d e = cc

-- a line that is bad wasn't added
pub refused : {A : Type 0} (n : NativeData) (s : ScriptState) (number : ℕ) (l : LineMeaning) (r : Result A Fault) (t : ScriptState) (c : Cause)
    → first_of (checks n s l) ≡ Some c → IsErrAnd r (λ f. f ≡ fault.Bad c) → Adds n s number l r t
refused n s number l (Ok a) t c first is = absurd is
refused n s number l (Err f) t c first is = λ d e. first ∙ cause_is c d (sym is ∙ e)

none_first : (b : Bool) (c : Cause) (others : List (Bool × Cause)) → None ≡ first_of ((b, c) ∷ others) → (b ≡ false) × (None ≡ first_of others)
none_first true c others e = absurd (cc)
none_first false c others e = (refl, e)

none_below : (n : ℕ) → nat_le 16 n ≡ false → n < 16
none_below n e = grind (arith, nat_tests, e)

or_false : (a b : Bool) → (a || b) ≡ false → b ≡ false
or_false true b e = absurd (cc)
or_false false b e = e

-- there are few rules where another can be added, and they were given
pub rule_fits : (s : ScriptState) (r : Rule) (e : EventDef) → None ≡ first_of (rule_checks s r (Some e)) → (length (given_rules e.authority) < 16) × (is_native e.authority ≡ false)
rule_fits s r e none =
    let full = none_first (nat_le 16 (length (given_rules e.authority))) cause.Limit
    ((speaks_of_unknown (length s.handlers) (length s.guards) r, cause.Undeclared) ∷ (not (is_fit_rule s.guards e r) || is_native e.authority, cause.Mismatch) ∷ [])
    none in
    let unknown = none_first (speaks_of_unknown (length s.handlers) (length s.guards) r) cause.Undeclared ((not (is_fit_rule s.guards e r) || is_native e.authority, cause.Mismatch) ∷ []) full.1 in
    let amiss = none_first (not (is_fit_rule s.guards e r) || is_native e.authority) cause.Mismatch [] unknown.1 in
    (none_below (length (given_rules e.authority)) full.0, or_false (not (is_fit_rule s.guards e r)) (is_native e.authority) amiss.0)

-- behind the first check, which is that of the next number
pub next_is : (h n : ℕ) (others : List (Bool × Cause)) (o : Option Cause) → h ≡ n + 1 → first_of others ≡ o → first_of ((not (h == n + 1), cause.Next) ∷ others) ≡ o
next_is h n others o e is = let t : (h == n + 1) ≡ true = grind (arith, nat_tests, e) in rw t is
