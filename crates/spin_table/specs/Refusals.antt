-- Why a command is refused: the first of these conditions that holds.
use Rattle.std.specs.Prelude.{ℕ, Bool, false, not, ◌&&◌, ◌||◌, ◌==◌, nat_lt, nat_le, List, []}
use Rattle.std.specs.Prelude.{◌∷◌, ◌++◌, length, slice_get, Option, Some, None, if◌then◌else◌}
use Rattle.std.specs.List.{list_any}
use Rattle.std.specs.Option.{option_map_or}
use Rattle.spin_word.specs.declared.command.Mode.{Mode}
use Rattle.spin_word.specs.declared.command.Mode.TheVariants as mode
use Rattle.spin_word.specs.declared.command.Op.{Op}
use Rattle.spin_word.specs.declared.command.Op.TheVariants as op
use Rattle.spin_word.specs.declared.command.Command.{Command}
use Rattle.spin_word.specs.Commands.{no_number, target_is_used, guard_is_used, handler_is_used}
use Rattle.spin_values.specs.First.{first_of, numbered}
use Rattle.spin_policy.specs.Verdicts.{is_install}
use Rattle.spin_policy.specs.declared.rule.Rule.{Rule}
use Rattle.spin_policy.specs.Imposed.{forces_apart}
use Rattle.spin_place.specs.declared.binding.Binding.{Binding}
use Rattle.spin_table.specs.declared.event.EventDef.{EventDef}
use Rattle.spin_table.specs.declared.refusal.Refusal.{Refusal}
use Rattle.spin_table.specs.declared.refusal.Refusal.TheVariants as refusal
use Rattle.spin_objects.specs.Units.{HandlerUnit, GuardUnit}
use Rattle.spin_table.specs.Setups.{SetupData, rules_of}
use Rattle.spin_table.specs.States.{State, EventState, binding_of, is_live}
use Rattle.spin_table.specs.Units.{same_signature, same_parameter_kinds, raises_down}
use Rattle.spin_table.specs.Units.{sets_argument, has_wrong_mode}
use Rattle.spin_table.specs.Verdicts.{answer_to, is_denied, named_rule}

-- 3: the op uses a handler, and there is none of its number
abbrev pub lacks_handler : List HandlerUnit → Command → Bool
lacks_handler handlers c = handler_is_used c.op && ((c.handler == 0) || nat_lt (length handlers) c.handler)

-- 4: the op uses a guard, and there is none of its number
abbrev pub lacks_guard : List GuardUnit → Command → Bool
lacks_guard guards c = guard_is_used c.op && nat_lt (length guards) c.guard

-- a binding is named that isn't live
abbrev pub names_unknown : List Binding → ℕ → Bool
names_unknown bs number = not (number == no_number) && not (is_live bs number)

-- 5: the op's target, or one that it goes before or after, is no live binding of the event
abbrev pub lacks_binding : List Binding → Command → Bool
lacks_binding bs c =
    target_is_used c.op && not (is_live bs c.target)
    || list_any (names_unknown bs) c.before
    || list_any (names_unknown bs) c.after

-- the handler that the op uses, if it is there
abbrev pub used_handler : List HandlerUnit → Command → Option HandlerUnit
used_handler handlers c = if handler_is_used c.op then numbered handlers c.handler else None

-- the handler that the op uses is there, and is so
abbrev pub of_handler : List HandlerUnit → Command → (HandlerUnit → Bool) → Bool
of_handler handlers c test = option_map_or test (used_handler handlers c) false

-- the guard that the op uses is one, is there, and is so
abbrev pub of_guard : List GuardUnit → Command → (GuardUnit → Bool) → Bool
of_guard guards c test = guard_is_used c.op && option_map_or test (numbered guards c.guard) false

-- 6: the handler's signature isn't the event's, or the guard hasn't the kinds of the event's parameters
abbrev pub has_wrong_type : List HandlerUnit → List GuardUnit → EventDef → Command → Bool
has_wrong_type handlers guards e c =
    of_handler handlers c (λ h. not (same_signature h.sig e.sig))
    || of_guard guards c (λ g. not (same_parameter_kinds g.sig e.sig))

-- 7: the handler's act raises an event that isn't greater than this one
abbrev pub goes_down : List HandlerUnit → Command → Bool
goes_down handlers c = of_handler handlers c (λ h. raises_down c.event h.act)

-- the mode in which the handler would run: the command's, or the target's, or plain for a default
abbrev pub mode_of : List Binding → Command → Op → Mode
mode_of bs c op.Install = c.mode
mode_of bs c op.Replace = option_map_or (λ b. b.mode) (binding_of bs c.target) mode.Plain
mode_of bs c o = mode.Plain

-- 8: the handler changes an argument, and wouldn't run as a filter
abbrev pub has_mode_fault : List HandlerUnit → List Binding → Command → Bool
has_mode_fault handlers bs c = of_handler handlers c (λ h. has_wrong_mode (mode_of bs c c.op) h.act)

-- 9: the owner denies it
abbrev pub is_denied_by : List (List Rule) → EventDef → List Binding → Command → Bool
is_denied_by policies e bs c = is_denied (answer_to policies e bs c)

-- 12: the owner would have a handler run asynchronously that changes an argument
abbrev pub forces_a_change_apart : List (List Rule) → List HandlerUnit → EventDef → List Binding → Command → Bool
forces_a_change_apart policies handlers e bs c =
    is_install c.op
    && forces_apart (rules_of policies e.authority) (answer_to policies e bs c)
    && of_handler handlers c (λ h. sets_argument h.act)

-- 10: an install where the event has as many bindings as it may have
abbrev pub is_full : ℕ → List Binding → Command → Bool
is_full live bs c = is_install c.op && nat_le live (length bs)

-- the refusals that come of what the command names, on this event with these bindings
abbrev pub unit_refusals : List HandlerUnit → List GuardUnit → EventDef → List Binding → Command → List (Bool × Refusal)
unit_refusals handlers guards e bs c =
    (lacks_handler handlers c, refusal.UnknownHandler)
    ∷ (lacks_guard guards c, refusal.UnknownGuard)
    ∷ (lacks_binding bs c, refusal.UnknownBinding)
    ∷ (has_wrong_type handlers guards e c, refusal.WrongType)
    ∷ (goes_down handlers c, refusal.Downward)
    ∷ (has_mode_fault handlers bs c, refusal.WrongMode)
    ∷ []

-- the refusals that come of the owner's answer and of the limit of bindings; a denied command names the rule
abbrev pub owner_refusals : SetupData → EventDef → List Binding → Command → List (Bool × Refusal)
owner_refusals d e bs c =
    (is_denied_by d.policies e bs c, refusal.Denied (named_rule (answer_to d.policies e bs c)))
    ∷ (
      forces_a_change_apart d.policies d.handlers e bs c,
      refusal.ForcedMode
          (named_rule (answer_to d.policies e bs c)),
    )
    ∷ (is_full d.live bs c, refusal.TooMany)
    ∷ []

-- all refusals of a command in their order, but for a conflict
abbrev pub refusals_at : SetupData → EventDef → List Binding → Command → List (Bool × Refusal)
refusals_at d e bs c =
    (nat_le d.modules c.requester, refusal.UnknownModule)
    ∷ unit_refusals d.handlers d.guards e bs c
    ++ owner_refusals d e bs c

-- the first refusal that applies where event and state are these, but for a conflict; 1 where one of them isn't there
abbrev pub refusal_on : SetupData → Command → Option EventDef → Option EventState → Option Refusal
refusal_on d c (Some e) (Some s) = first_of (refusals_at d e s.bindings c)
refusal_on d c _ _ = Some refusal.UnknownEvent

-- the first refusal of the command that applies, but for a conflict
abbrev pub refusal_of : SetupData → State → Command → Option Refusal
refusal_of d s c = refusal_on d c (slice_get d.events c.event) (slice_get s.events c.event)
