-- A line behind scripts that are one but for where their boxes lie.
use Rattle.std.proofs.Common.{◌≡◌, ℕ, not, List, [], ◌∷◌, length, map, Option, Some, None, refl, ap, ◌∙◌}
use Rattle.std.specs.Prelude.{slice_get, slice_set}
use Rattle.std.specs.Option.{option_map, option_map_or}
use Rattle.std.proofs.lemmas.List.{length-map, map_push, map-set}
use Rattle.std.proofs.lemmas.Option.{slice_get-map}
use Rattle.spin_code.specs.declared.act.ActStep.{ActStep}
use Rattle.spin_code.specs.declared.act.ActStep.TheVariants as step
use Rattle.spin_word.specs.declared.command.Mode.TheVariants as mode
use Rattle.spin_policy.specs.declared.rule.Rule.{Rule}
use Rattle.spin_objects.specs.Units.{HandlerUnit, GuardUnit, Named, handler_if, guard_if, index_of}
use Rattle.spin_table.specs.declared.event.EventDef.{EventDef}
use Rattle.spin_table.specs.Setups.{rules_if}
use Rattle.spin_grammar.specs.Bare.{bare_step, bare_line}
use Rattle.spin_grammar.specs.Lines as line
use Rattle.spin_grammar.specs.Lines.{LineMeaning}
use Rattle.spin_grammar.proofs.BareValues.{any_alike, act_check_alike, test_check_alike, merge_check_alike}
use Rattle.spin_script.specs.States.{ScriptState, NativeData, native_at, new_event, with_event, with_rule, with_authoriser, with_default, with_authority, with_handler, with_guard, after}
use Rattle.spin_script.specs.Checks.{step_names_unknown, step_checks, native_checks, rule_checks, policy_at, authoriser_checks, cannot_serve, default_checks, checks}
use Rattle.spin_script.specs.Laws.{bare_event, bare_handler, bare_guard}
use Rattle.spin_script.proofs.BareScripts.{fit_events, fit_steps, handler_same, rule_same, rules_same}

-- ---- without where boxes lie

abbrev pub bare_state : ScriptState → ScriptState
bare_state s = record s { events = map bare_event s.events; handlers = map bare_handler s.handlers; guards = map bare_guard s.guards }

abbrev pub bare_named : {X : Type 0} → (X → X) → Named X → Named X
bare_named f n = record { name = n.name; unit = f n.unit }

abbrev pub bare_natives : NativeData → NativeData
bare_natives n = record n { handlers = map (bare_named bare_handler) n.handlers; guards = map (bare_named bare_guard) n.guards }

-- ---- checks

unknown_same : (endpoints events : ℕ) (s : ActStep) → step_names_unknown endpoints events (bare_step s) ≡ step_names_unknown endpoints events s
unknown_same endpoints events (step.Set a e) = refl
unknown_same endpoints events (step.Send p a o) = refl
unknown_same endpoints events (step.Result e) = refl
unknown_same endpoints events (step.Up event parts) = refl
unknown_same endpoints events (step.Layer k event) = refl

steps_same : (endpoints : ℕ) (events : List EventDef) (steps : List ActStep) → step_checks endpoints (map bare_event events) (map bare_step steps) ≡ step_checks endpoints events steps
steps_same endpoints events steps =
    rw (length-map events bare_event, any_alike (step_names_unknown endpoints (length events)) bare_step (unknown_same endpoints (length events)) steps, fit_steps events steps) refl

natives_same : (n : NativeData) (s : ScriptState) (o : Option ℕ) → native_checks n (bare_state s) o ≡ native_checks n s o
natives_same n s None = refl
natives_same n s (Some native) = rw (length-map s.events bare_event, fit_events s.events (handler_if (slice_get n.handlers native)).act.steps) refl

rule_checks_same : (s : ScriptState) (r : Rule) (o : Option EventDef) → rule_checks (bare_state s) r (option_map bare_event o) ≡ rule_checks s r o
rule_checks_same s r None = refl
rule_checks_same s r (Some e) = rw (length-map s.handlers bare_handler, length-map s.guards bare_guard, rule_same s.guards e r) refl

authoriser_checks_same : (s : ScriptState) (policy : Option (List Rule)) (o : Option EventDef) → authoriser_checks (bare_state s) policy (option_map bare_event o) ≡ authoriser_checks s policy o
authoriser_checks_same s policy None = refl
authoriser_checks_same s policy (Some e) = rw (length-map s.guards bare_guard, rules_same s.guards e (rules_if policy)) refl

cannot_same : (handlers : List HandlerUnit) (event : ℕ) (e : EventDef) (handler : ℕ) → cannot_serve (map bare_handler handlers) event (bare_event e) handler ≡ cannot_serve handlers event e handler
unfolding cannot_serve
cannot_same handlers event e handler = ap not (handler_same handlers event e mode.Plain handler)

default_checks_same : (s : ScriptState) (event handler : ℕ) (o : Option EventDef) → default_checks (bare_state s) event handler (option_map bare_event o) ≡ default_checks s event handler o
default_checks_same s event handler None = refl
default_checks_same s event handler (Some e) = rw (length-map s.handlers bare_handler, cannot_same s.handlers event e handler) refl

pub checks_same : (n : NativeData) (s : ScriptState) (l : LineMeaning) → checks n (bare_state s) (bare_line l) ≡ checks n s l
checks_same n s (line.Modules count) = refl
checks_same n s (line.Event e owner sig m) = rw (length-map s.events bare_event, merge_check_alike m) refl
checks_same n s (line.Endpoint p name) = refl
checks_same n s (line.Handler h sig steps) = rw (length-map s.handlers bare_handler, act_check_alike steps sig, steps_same (length s.endpoints) s.events steps) refl
checks_same n s (line.NativeHandler h name) = rw (length-map s.handlers bare_handler, natives_same n s (native_at name n.handlers)) refl
checks_same n s (line.Guard g sig t) = rw (length-map s.guards bare_guard, test_check_alike t sig) refl
checks_same n s (line.NativeGuard g name) = rw (length-map s.guards bare_guard) refl
checks_same n s (line.Rules e r) = rw (slice_get-map bare_event s.events e) (rule_checks_same s r (slice_get s.events e))
checks_same n s (line.Authoriser e name) = rw (slice_get-map bare_event s.events e) (authoriser_checks_same s (policy_at n (native_at name n.authorisers)) (slice_get s.events e))
checks_same n s (line.Default e h) = rw (slice_get-map bare_event s.events e) (default_checks_same s e h (slice_get s.events e))
checks_same n s (line.Lane l t) = refl
checks_same n s line.Barrier = refl
checks_same n s (line.Retire p) = refl

-- ---- what a line adds

changed_if : (change : EventDef → EventDef) → ((e : EventDef) → bare_event (change e) ≡ change (bare_event e)) → (event : ℕ) (events : List EventDef) (o : Option EventDef)
    → map bare_event (option_map_or (λ e. slice_set events event (change e)) o events) ≡ option_map_or
    (λ e. slice_set (map bare_event events) event (change e)) (option_map bare_event o) (map bare_event events)
changed_if change h event events None = refl
changed_if change h event events (Some e) = map-set bare_event events event (change e) ∙ ap (slice_set (map bare_event events) event) (h e)

changed : (change : EventDef → EventDef) → ((e : EventDef) → bare_event (change e) ≡ change (bare_event e)) → (event : ℕ) (events : List EventDef)
    → map bare_event (with_event change event events) ≡ with_event change event (map bare_event events)
changed change h event events = rw (slice_get-map bare_event events event) (changed_if change h event events (slice_get events event))

names_same : {X : Type 0} (f : X → X) (natives : List (Named X)) → map (λ n. n.name) (map (bare_named f) natives) ≡ map (λ n. n.name) natives
names_same f [] = refl
names_same f (n ∷ ns) = ap (λ (ws : List (List ℕ)). n.name ∷ ws) (names_same f ns)

at_same : {X : Type 0} (f : X → X) (name : List ℕ) (natives : List (Named X)) → native_at name (map (bare_named f) natives) ≡ native_at name natives
at_same f name natives = ap (index_of name) (names_same f natives)

handler_if_same : (o : Option (Named HandlerUnit)) → handler_if (option_map (bare_named bare_handler) o) ≡ bare_handler (handler_if o)
handler_if_same None = refl
handler_if_same (Some n) = refl

guard_if_same : (o : Option (Named GuardUnit)) → guard_if (option_map (bare_named bare_guard) o) ≡ bare_guard (guard_if o)
guard_if_same None = refl
guard_if_same (Some n) = refl

with_handler_same : (n : NativeData) (s : ScriptState) (o : Option ℕ) → bare_state (with_handler n s o) ≡ with_handler (bare_natives n) (bare_state s) o
with_handler_same n s None = refl
with_handler_same n s (Some native) =
    rw (slice_get-map (bare_named bare_handler) n.handlers native, handler_if_same (slice_get n.handlers native), map_push bare_handler s.handlers (handler_if (slice_get n.handlers native))) refl

with_guard_same : (n : NativeData) (s : ScriptState) (o : Option ℕ) → bare_state (with_guard n s o) ≡ with_guard (bare_natives n) (bare_state s) o
with_guard_same n s None = refl
with_guard_same n s (Some native) =
    rw (slice_get-map (bare_named bare_guard) n.guards native, guard_if_same (slice_get n.guards native), map_push bare_guard s.guards (guard_if (slice_get n.guards native))) refl

with_authority_same : (s : ScriptState) (event : ℕ) (o : Option ℕ) → bare_state (with_authority s event o) ≡ with_authority (bare_state s) event o
with_authority_same s event None = refl
with_authority_same s event (Some native) = rw (changed (with_authoriser native) (λ e. refl) event s.events) refl

pub after_same : (n : NativeData) (s : ScriptState) (number : ℕ) (l : LineMeaning) → bare_state (after n s number l) ≡ after (bare_natives n) (bare_state s) number (bare_line l)
after_same n s number (line.Modules count) = refl
after_same n s number (line.Event e owner sig m) = rw (map_push bare_event s.events (new_event owner sig m)) refl
after_same n s number (line.Endpoint p name) = refl
after_same n s number (line.Handler h sig steps) = rw (map_push bare_handler s.handlers (record { sig = sig; act = record { steps = steps } })) refl
after_same n s number (line.NativeHandler h name) = rw (at_same bare_handler name n.handlers) (with_handler_same n s (native_at name n.handlers))
after_same n s number (line.Guard g sig t) = rw (map_push bare_guard s.guards (record { sig = sig; test = t })) refl
after_same n s number (line.NativeGuard g name) = rw (at_same bare_guard name n.guards) (with_guard_same n s (native_at name n.guards))
after_same n s number (line.Rules e r) = rw (changed (with_rule r) (λ x. refl) e s.events) refl
after_same n s number (line.Authoriser e name) = with_authority_same s e (native_at name n.authorisers)
after_same n s number (line.Default e h) = rw (changed (with_default h) (λ x. refl) e s.events) refl
after_same n s number (line.Lane l t) = refl
after_same n s number line.Barrier = refl
after_same n s number (line.Retire p) = refl
