-- The doing of an act.
use Rattle.std.specs.Prelude.{ℕ, List, [], ◌∷◌, ◌++◌, map, ◌≡◌, Option, Some, None, Result, Ok, Err, fold}
use Rattle.spin_values.specs.declared.values.Value.{Value}
use Rattle.spin_values.specs.declared.values.Value.TheVariants as value
use Rattle.spin_values.specs.Kinds.{with_word}
use Rattle.spin_headers.specs.declared.fault.HeaderFault.{HeaderFault}
use Rattle.spin_code.specs.declared.act.Part.{Part}
use Rattle.spin_code.specs.declared.act.Part.TheVariants as part
use Rattle.spin_code.specs.declared.act.ActStep.{ActStep}
use Rattle.spin_code.specs.declared.act.ActStep.TheVariants as step
use Rattle.spin_code.specs.declared.act.Act.{Act}
use Rattle.spin_code.specs.Value.{value_of, bytes_from}
use Rattle.spin_objects.specs.declared.item.Item.{Item}
use Rattle.spin_objects.specs.declared.item.Item.TheVariants as item
use Rattle.spin_objects.specs.Layers.{layer_args}

-- the argument that a part of a raise upwards makes
abbrev pub part_of : List Value → Part → Value
part_of args (part.Word e) = value.Word (value_of e args)
part_of args (part.Bytes arg from) = value.Bytes (bytes_from args arg from)

-- valid headers are a raise upwards, and else the packet is dropped with the first fault
abbrev pub up_or_dropped : ℕ → Result (List Value) HeaderFault → Item
up_or_dropped event (Ok args) = item.Up event args
up_or_dropped event (Err fault) = item.Dropped fault

-- the arguments as a step leaves them: only a `Set` of a word that is there changes them
abbrev pub step_args : ActStep → List Value → List Value
step_args (step.Set arg e) args = with_word args arg (value_of e args)
step_args (step.Send endpoint arg from) args = args
step_args (step.Result e) args = args
step_args (step.Up event parts) args = args
step_args (step.Layer kind event) args = args

-- what a step gives
abbrev pub step_items : ActStep → List Value → List Item
step_items (step.Set arg e) args = []
step_items (step.Send endpoint arg from) args = item.Send endpoint (bytes_from args arg from) ∷ []
step_items (step.Result e) args = item.Result (value_of e args) ∷ []
step_items (step.Up event parts) args = item.Up event (map (part_of args) parts) ∷ []
step_items (step.Layer kind event) args = up_or_dropped event (layer_args kind args) ∷ []

-- the arguments as steps leave them
abbrev pub args_after : List ActStep → List Value → List Value
args_after [] args = args
args_after (s ∷ steps) args = args_after steps (step_args s args)

-- what steps give, each on the arguments as earlier steps left them
abbrev pub items_of : List ActStep → List Value → List Item
items_of [] args = []
items_of (s ∷ steps) args = step_items s args ++ items_of steps (step_args s args)

-- an act was done on these arguments: it left those, and what it gives stands at the end of the outcome
pub record IsDone (act : Act) (args : List Value) (out : List Item)
    (args' : List Value) (out' : List Item) : Type 0 where
  pub args_left : args' ≡ args_after act.steps args
  pub items_given : out' ≡ out ++ items_of act.steps args

-- the result of an act is its last result
abbrev pub result_after : Option ℕ → Item → Option ℕ
result_after last (item.Result n) = Some n
result_after last i = last

-- the last result among what was given, if there is one
abbrev pub last_result : List Item → Option ℕ
last_result given = fold result_after None given
