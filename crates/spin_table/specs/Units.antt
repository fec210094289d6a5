-- Which handlers and guards an event can have.
use Rattle.std.specs.Prelude.{ℕ, Bool, true, false, not, ◌&&◌, ◌||◌, ◌==◌, nat_le, List}
use Rattle.std.specs.List.{list_any}
use Rattle.std.specs.Option.{option_map_or}
use Rattle.std.specs.Cmp.Lexicographic.{pointwise}
use Rattle.spin_values.specs.declared.types.Param.{Param}
use Rattle.spin_values.specs.declared.types.EventType.{EventType}
use Rattle.spin_values.specs.Kinds.{kinds_of}
use Rattle.spin_word.specs.declared.command.Mode.{Mode}
use Rattle.spin_word.specs.declared.command.Mode.TheVariants as mode
use Rattle.spin_code.specs.declared.act.Act.{Act}
use Rattle.spin_code.specs.declared.act.ActStep.{ActStep}
use Rattle.spin_code.specs.declared.act.ActStep.TheVariants as step
use Rattle.spin_code.specs.Uses.{same_kind}
use Rattle.spin_table.specs.declared.event.EventDef.{EventDef}
use Rattle.spin_objects.specs.Units.{HandlerUnit, GuardUnit}
use Rattle.spin_values.specs.First.{numbered}

-- both are true or both are false
abbrev pub same_truth : Bool → Bool → Bool
same_truth true b = b
same_truth false b = not b

-- both parameters have one kind, and both are var or neither is
abbrev pub same_param : Param → Param → Bool
same_param p q = same_kind p.kind q.kind && same_truth p.var q.var

-- the signatures are equal
abbrev pub same_signature : EventType → EventType → Bool
same_signature a b = same_truth a.gives b.gives && pointwise same_param a.params b.params

-- the signatures have the same number and kinds of parameters
abbrev pub same_parameter_kinds : EventType → EventType → Bool
same_parameter_kinds a b = pointwise same_kind (kinds_of a) (kinds_of b)

-- the step raises an event that isn't greater than this one
abbrev pub step_raises_down : ℕ → ActStep → Bool
step_raises_down event (step.Up raised parts) = nat_le raised event
step_raises_down event (step.Layer kind raised) = nat_le raised event
step_raises_down event s = false

-- the act raises an event that isn't greater than this one
abbrev pub raises_down : ℕ → Act → Bool
raises_down event act = list_any (step_raises_down event) act.steps

-- the step sets an argument
abbrev pub is_set : ActStep → Bool
is_set (step.Set arg to) = true
is_set s = false

-- the act changes an argument
abbrev pub sets_argument : Act → Bool
sets_argument act = list_any is_set act.steps

-- the mode is that of a filter
abbrev pub is_filter : Mode → Bool
is_filter mode.Filter = true
is_filter m = false

-- a handler that changes an argument is to be a filter
abbrev pub has_wrong_mode : Mode → Act → Bool
has_wrong_mode m act = sets_argument act && not (is_filter m)

-- the handler has the event's signature, raises greater events alone, and may run in this mode
abbrev pub is_handler_for : ℕ → EventDef → Mode → HandlerUnit → Bool
is_handler_for event e m h = same_signature h.sig e.sig && not (raises_down event h.act) && not (has_wrong_mode m h.act)

-- a handler of that number is there and serves the event in this mode
abbrev pub is_fit_handler : List HandlerUnit → ℕ → EventDef → Mode → ℕ → Bool
is_fit_handler handlers event e m handler = option_map_or (is_handler_for event e m) (numbered handlers handler) false

-- a guard of that number is there and asks of the event's parameters
abbrev pub is_fit_guard : List GuardUnit → EventDef → ℕ → Bool
is_fit_guard guards e guard =
    option_map_or (λ (g : GuardUnit). same_parameter_kinds g.sig e.sig) (numbered guards guard) false

-- no guard, or one that asks of the event's parameters
abbrev pub is_fit_own_guard : List GuardUnit → EventDef → ℕ → Bool
is_fit_own_guard guards e guard = (guard == 0) || is_fit_guard guards e guard

-- no default, or one that serves the event
abbrev pub is_fit_default : List HandlerUnit → ℕ → EventDef → ℕ → Bool
is_fit_default handlers event e handler = (handler == 0) || is_fit_handler handlers event e mode.Plain handler
