-- Why a line is bad whose words can stand: `first_of` the causes whose conditions hold.
use Rattle.std.specs.Prelude.{ℕ, ◌+◌, Bool, true, false, not, ◌||◌, ◌==◌, nat_lt, nat_le, if◌then◌else◌, List}
use Rattle.std.specs.Prelude.{[], ◌∷◌, length, Option, Some, None, Result, Ok, Err, is_none, slice_get, bytes_eq}
use Rattle.std.specs.List.{list_all, list_any}
use Rattle.std.specs.Option.{option_map_or}
use Rattle.spin_word.specs.declared.command.Mode.TheVariants as mode
use Rattle.spin_code.specs.declared.act.ActStep.{ActStep}
use Rattle.spin_code.specs.declared.act.ActStep.TheVariants as step
use Rattle.spin_code.specs.declared.check.ActFault.{ActFault}
use Rattle.spin_code.specs.declared.check.ActFault.TheVariants as fault
use Rattle.spin_code.specs.Check.{act_check, test_check, merge_check}
use Rattle.spin_policy.specs.declared.rule.Rule.{Rule}
use Rattle.spin_policy.specs.Imposed.{effect_guards}
use Rattle.spin_objects.specs.Units.{HandlerUnit, handler_if}
use Rattle.spin_table.specs.declared.event.EventDef.{EventDef}
use Rattle.spin_table.specs.Setups.{rules_if}
use Rattle.spin_table.specs.Units.{is_fit_handler}
use Rattle.spin_table.specs.Faults.{is_step_fit, is_fit_rule}
use Rattle.spin_grammar.specs.declared.cause.Cause.{Cause}
use Rattle.spin_grammar.specs.declared.cause.Cause.TheVariants as cause
use Rattle.spin_word.specs.declared.command.TheConstants.{MAX_PLACE, MAX_LANES}
use Rattle.spin_policy.specs.declared.policy.TheConstants.{MAX_RULES}
use Rattle.spin_script.specs.declared.lanes.TheConstants.{MAX_DEEDS, MAX_EARLY_COMMANDS}
use Rattle.spin_word.specs.declared.work.Work.{Work}
use Rattle.spin_grammar.specs.Lines as line
use Rattle.spin_grammar.specs.Tasks.{work_of}
use Rattle.spin_script.specs.States.{ScriptState, NativeData, native_at, policies}
use Rattle.spin_script.specs.States.{given_rules, is_native, command_count, deed_count}

-- the cause that a fault of an act, a test or a merge is
abbrev pub act_cause : ActFault → Cause
act_cause fault.TooDeep = cause.TooDeep
act_cause fault.TooLong = cause.TooLong
act_cause fault.BadArg = cause.BadArg
act_cause fault.BadKind = cause.BadKind
act_cause fault.NotVar = cause.NotVar
act_cause fault.NoResult = cause.NoResult

-- 14 to 19: the fault of what was checked so
abbrev pub checked : Result (Unit {0}) ActFault → List (Bool × Cause) → List (Bool × Cause)
checked (Ok done) others = others
checked (Err f) others = (true, act_cause f) ∷ others

-- ---- what isn't declared

-- what a step sends to or raises isn't there, where there are so many endpoints and events
abbrev pub step_names_unknown : (endpoints events : ℕ) → ActStep → Bool
step_names_unknown endpoints events (step.Send endpoint arg from) = nat_le endpoints endpoint
step_names_unknown endpoints events (step.Up event parts) = nat_le events event
step_names_unknown endpoints events (step.Layer k event) = nat_le events event
step_names_unknown endpoints events other = false

-- a guard that is imposed isn't there, where there are so many
abbrev pub imposes_unknown : (guards : ℕ) → Rule → Bool
imposes_unknown guards r = list_any (nat_lt guards) (effect_guards r.effect)

-- the handler or a guard of the rule isn't there
abbrev pub speaks_of_unknown : (handlers guards : ℕ) → Rule → Bool
speaks_of_unknown handlers guards r = option_map_or (nat_lt handlers) r.handler false || imposes_unknown guards r

-- ---- each kind of line

-- 20 and 21: what steps send to and raise is there, and takes what it gets
abbrev pub step_checks : (endpoints : ℕ) → List EventDef → List ActStep → List (Bool × Cause)
step_checks endpoints events steps =
    (list_any (step_names_unknown endpoints (length events)) steps, cause.Undeclared)
    ∷ (not (list_all (is_step_fit events) steps), cause.Mismatch)
    ∷ []

-- the checks of the steps of the native handler of that index; where there is none, that is the cause
abbrev pub native_checks : NativeData → ScriptState → Option ℕ → List (Bool × Cause)
native_checks n s None = (true, cause.Native) ∷ []
native_checks n s (Some native) =
    step_checks (length s.endpoints) s.events (handler_if (slice_get n.handlers native)).act.steps

-- 13, 20 and 21: of one rule more for the event; where the event isn't there, 20 alone
abbrev pub rule_checks : ScriptState → Rule → Option EventDef → List (Bool × Cause)
rule_checks s r None = (true, cause.Undeclared) ∷ []
rule_checks s r (Some e) =
    (nat_le MAX_RULES (length (given_rules e.authority)), cause.Limit)
    ∷ (speaks_of_unknown (length s.handlers) (length s.guards) r, cause.Undeclared)
    ∷ (not (is_fit_rule s.guards e r) || is_native e.authority, cause.Mismatch)
    ∷ []

-- what the native authoriser of that index follows, if there is one
abbrev pub policy_at : NativeData → Option ℕ → Option (List Rule)
policy_at n None = None
policy_at n (Some native) = slice_get (policies n) native

-- a policy may not be there
abbrev pub authoriser_checks : ScriptState → Option (List Rule) → Option EventDef → List (Bool × Cause)
authoriser_checks s policy None = (true, cause.Undeclared) ∷ []
authoriser_checks s policy (Some e) =
    (list_any (imposes_unknown (length s.guards)) (rules_if policy), cause.Undeclared)
    ∷ (
      not (length (given_rules e.authority) == 0) || not (list_all (is_fit_rule s.guards e) (rules_if policy)),
      cause.Mismatch,
    )
    ∷ (is_none policy, cause.Native)
    ∷ (is_native e.authority, cause.Repeated)
    ∷ []

-- the handler isn't one that can be the event's default
unfoldable pub cannot_serve : List HandlerUnit → (event : ℕ) → EventDef → (handler : ℕ) → Bool
cannot_serve handlers event e handler = not (is_fit_handler handlers event e mode.Plain handler)

-- 20, 21 and 23: of a first default for the event; where the event isn't there, 20 alone
abbrev pub default_checks : ScriptState → (event handler : ℕ) → Option EventDef → List (Bool × Cause)
default_checks s event handler None = (true, cause.Undeclared) ∷ []
default_checks s event handler (Some e) =
    (nat_lt (length s.handlers) handler, cause.Undeclared)
    ∷ (cannot_serve s.handlers event e handler, cause.Mismatch)
    ∷ (not (e.first_default == 0), cause.Repeated)
    ∷ []

-- the greatest number of command lines of a script of that version
abbrev pub most_commands : ℕ → ℕ
most_commands version = if version == 3 then MAX_PLACE else MAX_EARLY_COMMANDS

-- the most deeds of a script, commands among them; a packet line counts each record that it asks for
abbrev pub most_deeds : ℕ
most_deeds = MAX_DEEDS

-- there are as many command lines or deeds as there may be
abbrev pub is_work_full : (version commands deeds : ℕ) → Work → Bool
is_work_full version commands deeds w =
    nat_lt (most_commands version) (commands + command_count w) || nat_lt most_deeds (deeds + deed_count w)

-- the causes for which a line can't stand behind the script so far, in order, each with its condition
abbrev pub checks : NativeData → ScriptState → line.LineMeaning → List (Bool × Cause)
checks n s (line.Modules count) = []
checks n s (line.Event e owner sig m) =
    (not (e == length s.events), cause.Next) ∷ checked (merge_check m) ((nat_le s.modules owner, cause.Undeclared) ∷ [])
checks n s (line.Endpoint p name) =
    (not (p == length s.endpoints), cause.Next)
    ∷ (list_any (λ known. bytes_eq known name) s.endpoints, cause.Repeated) ∷ []
checks n s (line.Handler h sig steps) =
    (not (h == length s.handlers + 1), cause.Next)
    ∷ checked (act_check (record { steps = steps }) sig)
    (step_checks (length s.endpoints) s.events steps)
checks n s (line.NativeHandler h name) =
    (not (h == length s.handlers + 1), cause.Next) ∷ native_checks n s (native_at name n.handlers)
checks n s (line.Guard g sig t) = (not (g == length s.guards + 1), cause.Next) ∷ checked (test_check t sig) []
checks n s (line.NativeGuard g name) =
    (not (g == length s.guards + 1), cause.Next) ∷ (is_none (native_at name n.guards), cause.Native) ∷ []
checks n s (line.Rules e r) = rule_checks s r (slice_get s.events e)
checks n s (line.Authoriser e name) =
    authoriser_checks s (policy_at n (native_at name n.authorisers)) (slice_get s.events e)
checks n s (line.Default e h) = default_checks s e h (slice_get s.events e)
checks n s (line.Lane l t) =
    (is_work_full s.version s.commands s.deeds (work_of l t), cause.Limit) ∷ (nat_le MAX_LANES l, cause.Lane) ∷ []
checks n s line.Barrier = []
checks n s (line.Retire p) = (nat_le (length s.endpoints) p, cause.Undeclared) ∷ []
