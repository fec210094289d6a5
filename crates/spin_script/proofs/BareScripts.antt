-- What is said of a script doesn't depend on where its boxes lie.
use Rattle.std.proofs.Common.{◌≡◌, ℕ, false, List, [], ◌∷◌, map, Option, Some, None, refl, ap, ◌∙◌}
use Rattle.std.specs.Prelude.{slice_get}
use Rattle.std.specs.List.{list_all}
use Rattle.std.specs.Option.{option_map, option_map_or}
use Rattle.std.proofs.lemmas.Option.{slice_get-map}
use Rattle.std.specs.Cmp.Lexicographic.{pointwise}
use Rattle.spin_values.specs.Kinds.{kinds_of}
use Rattle.spin_code.specs.Uses.{same_kind}
use Rattle.spin_code.specs.declared.act.Part.{Part}
use Rattle.spin_code.specs.declared.act.Part.TheVariants as part
use Rattle.spin_code.specs.declared.act.ActStep.{ActStep}
use Rattle.spin_code.specs.declared.act.ActStep.TheVariants as step
use Rattle.spin_word.specs.declared.command.Mode.{Mode}
use Rattle.spin_policy.specs.declared.rule.Rule.{Rule}
use Rattle.spin_policy.specs.Imposed.{effect_guards}
use Rattle.spin_objects.specs.Units.{HandlerUnit, GuardUnit}
use Rattle.spin_table.specs.declared.event.EventDef.{EventDef}
use Rattle.spin_values.specs.First.{numbered}
use Rattle.spin_objects.proofs.NumberedItems.{numbered-map}
use Rattle.spin_table.specs.Units.{step_raises_down, is_set, is_handler_for, is_fit_handler, is_fit_guard, same_parameter_kinds}
use Rattle.spin_table.specs.Faults.{part_kind, takes_parts, takes_layer, is_step_fit, is_fit_rule}
use Rattle.spin_grammar.specs.Bare.{bare_part, bare_step}
use Rattle.spin_grammar.proofs.BareValues.{any_alike, all_alike}
use Rattle.spin_script.specs.Laws.{bare_event, bare_handler, bare_guard}
use Rattle.spin_script.proofs.ListElements.{all_same}

-- ---- lists and options

pub some_same : {A B : Type 0} (f : A → A) (p q : A → B) → ((a : A) → p (f a) ≡ q a) → (o : Option A) (d : B) → option_map_or p (option_map f o) d ≡ option_map_or q o d
some_same f p q h None d = refl
some_same f p q h (Some a) d = h a

some_alike : {A B : Type 0} (p q : A → B) → ((a : A) → p a ≡ q a) → (o : Option A) (d : B) → option_map_or p o d ≡ option_map_or q o d
some_alike p q h None d = refl
some_alike p q h (Some a) d = h a

-- ---- steps behind bare events, and bare steps

kinds_same : (ps : List Part) → map part_kind (map bare_part ps) ≡ map part_kind ps
kinds_same [] = refl
kinds_same (part.Word e ∷ ps) = rw (kinds_same ps) refl
kinds_same (part.Bytes a o ∷ ps) = rw (kinds_same ps) refl

step_same : (events : List EventDef) (s : ActStep) → is_step_fit events (bare_step s) ≡ is_step_fit events s
step_same events (step.Set a e) = refl
step_same events (step.Send p a o) = refl
step_same events (step.Result e) = refl
step_same events (step.Up event parts) =
    some_alike (takes_parts (map bare_part parts)) (takes_parts parts) (λ e. ap (pointwise same_kind (kinds_of e.sig)) (kinds_same parts)) (slice_get events event) false
step_same events (step.Layer k event) = refl

events_same : (events : List EventDef) (s : ActStep) → is_step_fit (map bare_event events) s ≡ is_step_fit events s
events_same events (step.Set a e) = refl
events_same events (step.Send p a o) = refl
events_same events (step.Result e) = refl
events_same events (step.Up event parts) =
    rw (slice_get-map bare_event events event) (some_same bare_event (takes_parts parts) (takes_parts parts) (λ e. refl) (slice_get events event) false)
events_same events (step.Layer k event) =
    rw (slice_get-map bare_event events event)
    (some_same bare_event (λ (e : EventDef). takes_layer e.sig.params k) (λ (e : EventDef). takes_layer e.sig.params k) (λ e. refl) (slice_get events event) false)

pub fit_events : (events : List EventDef) (steps : List ActStep) → list_all (is_step_fit (map bare_event events)) steps ≡ list_all (is_step_fit events) steps
fit_events events steps = all_same (is_step_fit (map bare_event events)) (is_step_fit events) (events_same events) steps

pub fit_steps : (events : List EventDef) (steps : List ActStep) → list_all (is_step_fit (map bare_event events)) (map bare_step steps) ≡ list_all (is_step_fit events) steps
fit_steps events steps = fit_events events (map bare_step steps) ∙ all_alike (is_step_fit events) bare_step (step_same events) steps

-- ---- handlers and guards

down_same : (event : ℕ) (s : ActStep) → step_raises_down event (bare_step s) ≡ step_raises_down event s
down_same event (step.Set a e) = refl
down_same event (step.Send p a o) = refl
down_same event (step.Result e) = refl
down_same event (step.Up raised parts) = refl
down_same event (step.Layer k raised) = refl

set_same : (s : ActStep) → is_set (bare_step s) ≡ is_set s
set_same (step.Set a e) = refl
set_same (step.Send p a o) = refl
set_same (step.Result e) = refl
set_same (step.Up raised parts) = refl
set_same (step.Layer k raised) = refl

serves_same : (event : ℕ) (e : EventDef) (m : Mode) (h : HandlerUnit) → is_handler_for event (bare_event e) m (bare_handler h) ≡ is_handler_for event e m h
serves_same event e m h =
    rw (any_alike (step_raises_down event) bare_step (down_same event) h.act.steps, any_alike is_set bare_step set_same h.act.steps) refl

pub handler_same : (handlers : List HandlerUnit) (event : ℕ) (e : EventDef) (m : Mode) (handler : ℕ)
    → is_fit_handler (map bare_handler handlers) event (bare_event e) m handler ≡ is_fit_handler handlers event e m handler
handler_same handlers event e m handler =
    rw (numbered-map bare_handler handlers handler)
    (some_same bare_handler (is_handler_for event (bare_event e) m) (is_handler_for event e m) (serves_same event e m) (numbered handlers handler) false)

guard_same : (guards : List GuardUnit) (e : EventDef) (guard : ℕ) → is_fit_guard (map bare_guard guards) (bare_event e) guard ≡ is_fit_guard guards e guard
guard_same guards e guard =
    rw (numbered-map bare_guard guards guard)
    (some_same bare_guard (λ (g : GuardUnit). same_parameter_kinds g.sig e.sig) (λ (g : GuardUnit). same_parameter_kinds g.sig e.sig) (λ g. refl) (numbered guards guard) false)

pub rule_same : (guards : List GuardUnit) (e : EventDef) (r : Rule) → is_fit_rule (map bare_guard guards) (bare_event e) r ≡ is_fit_rule guards e r
rule_same guards e r = all_same (is_fit_guard (map bare_guard guards) (bare_event e)) (is_fit_guard guards e) (guard_same guards e) (effect_guards r.effect)

pub rules_same : (guards : List GuardUnit) (e : EventDef) (rs : List Rule) → list_all (is_fit_rule (map bare_guard guards) (bare_event e)) rs ≡ list_all (is_fit_rule guards e) rs
rules_same guards e rs = all_same (is_fit_rule (map bare_guard guards) (bare_event e)) (is_fit_rule guards e) (rule_same guards e) rs
