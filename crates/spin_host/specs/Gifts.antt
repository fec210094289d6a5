-- What a host's own handler gives, and what of it is refused.
use Rattle.std.specs.Prelude.{ℕ, ◌&&◌, nat_lt, Bool, true, false, not, List, [], ◌∷◌, Option}
use Rattle.std.specs.Prelude.{fold, flat_map, length, slice_get, slice_set}
use Rattle.std.specs.List.{list_all, list_any}
use Rattle.spin_values.specs.declared.values.Value.{Value}
use Rattle.spin_values.specs.declared.types.EventType.{EventType}
use Rattle.spin_values.specs.declared.types.Param.{Param}
use Rattle.spin_values.specs.First.{first_of}
use Rattle.spin_values.specs.Kinds.{kind_of}
use Rattle.spin_code.specs.Check.{is_var}
use Rattle.spin_code.specs.Uses.{is_of_kind}
use Rattle.spin_objects.specs.declared.item.Item.{Item}
use Rattle.spin_objects.specs.declared.item.Item.TheVariants as item
use Rattle.spin_word.specs.declared.command.Mode.{Mode}
use Rattle.spin_word.specs.declared.command.Mode.TheVariants as mode
use Rattle.spin_host.specs.declared.gift.Given.{Given}
use Rattle.spin_host.specs.declared.gift.Given.TheVariants as given
use Rattle.spin_host.specs.declared.gift.GiftFault.{GiftFault}
use Rattle.spin_host.specs.declared.gift.GiftFault.TheVariants as fault

-- it may change the arguments for the handlers after it
abbrev pub is_filter : Mode → Bool
is_filter mode.Filter = true
is_filter m = false

-- it runs apart, and the raise doesn't wait for it
abbrev pub runs_apart : Mode → Bool
runs_apart mode.Async = true
runs_apart m = false

abbrev pub is_result : Given → Bool
is_result (given.Result n) = true
is_result g = false

abbrev pub is_change : Given → Bool
is_change (given.Change arg to) = true
is_change g = false

-- what is changed is there
abbrev pub is_known : List Param → Given → Bool
is_known params (given.Change arg to) = nat_lt arg (length params)
is_known params g = true

-- what is changed stays of its kind
abbrev pub is_right : List Param → Given → Bool
is_right params (given.Change arg to) = is_of_kind (slice_get params arg) (kind_of to)
is_right params g = true

-- what is changed may be changed
abbrev pub sets_var : List Param → Given → Bool
sets_var params (given.Change arg to) = is_var (slice_get params arg)
sets_var params g = true

-- something is given by what runs apart
abbrev pub gives_apart : Mode → List Given → Bool
gives_apart m [] = false
gives_apart m (g ∷ gift) = runs_apart m

-- why this is refused of a handler of this mode where the event has this type: the first that applies
abbrev pub gift_fault : EventType → Mode → List Given → Option GiftFault
gift_fault sig m gift =
    first_of
    ((gives_apart m gift, fault.RunsApart)
    ∷ (not sig.gives && list_any is_result gift, fault.NoResult)
    ∷ (not (is_filter m) && list_any is_change gift, fault.NoFilter)
    ∷ (not (list_all (is_known sig.params) gift), fault.NoArgument)
    ∷ (not (list_all (is_right sig.params) gift), fault.WrongKind)
    ∷ (not (list_all (sets_var sig.params) gift), fault.Fixed)
    ∷ [])

-- the number of a fault, in the order in which they are told
abbrev pub number_of : GiftFault → ℕ
number_of fault.RunsApart = 1
number_of fault.NoResult = 2
number_of fault.NoFilter = 3
number_of fault.NoArgument = 4
number_of fault.WrongKind = 5
number_of fault.Fixed = 6

-- what is given, as an act gives it
abbrev pub item_of : Given → List Item
item_of (given.Result n) = item.Result n ∷ []
item_of (given.Send endpoint bytes) = item.Send endpoint bytes ∷ []
item_of (given.Change arg to) = []

abbrev pub items_given : List Given → List Item
items_given gift = flat_map item_of gift

-- the arguments after what is given
abbrev pub changed : List Value → Given → List Value
changed args (given.Change arg to) = slice_set args arg to
changed args g = args

-- the arguments after all that is given, in order
abbrev pub args_given : List Value → List Given → List Value
args_given args gift = fold changed args gift
