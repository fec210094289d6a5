-- Which commands are valid.
use Rattle.std.specs.Prelude.{ℕ, ◌^◌, Bool, true, false, ◌&&◌, ◌||◌, ◌==◌, nat_lt, nat_le, List, [], ◌∷◌, length}
use Rattle.std.specs.List.{list_all}
use Rattle.spin_word.specs.declared.command.Op.{Op}
use Rattle.spin_word.specs.declared.command.Op.TheVariants.{Install, Remove, Replace, Default, NoDefault}
use Rattle.spin_word.specs.declared.command.Place.{Place}
use Rattle.spin_word.specs.declared.command.Place.TheVariants.{Free, First, Last}
use Rattle.spin_word.specs.declared.command.Mode.{Mode}
use Rattle.spin_word.specs.declared.command.Mode.TheVariants.{Plain, Filter, Async}
use Rattle.spin_word.specs.declared.command.Command.{Command}
use Rattle.spin_word.specs.declared.command.TheConstants.{MAX_EVENTS, LANE_LIMIT, HANDLER_LIMIT}
use Rattle.spin_word.specs.declared.command.TheConstants.{GUARD_LIMIT, MAX_PLACE, NO_BINDING, NO_BINDINGS}

-- the number of an op
abbrev pub number_of_op : Op → ℕ
number_of_op Install = 1
number_of_op Remove = 2
number_of_op Replace = 3
number_of_op Default = 4
number_of_op NoDefault = 5

-- the number of a place
abbrev pub number_of_place : Place → ℕ
number_of_place Free = 0
number_of_place First = 1
number_of_place Last = 2

-- the number of a mode
abbrev pub number_of_mode : Mode → ℕ
number_of_mode Plain = 0
number_of_mode Filter = 1
number_of_mode Async = 2

-- what stands for no binding
abbrev pub no_number : ℕ
no_number = NO_BINDING

abbrev pub binding_or_none : ℕ → Bool
binding_or_none n = nat_le n MAX_PLACE || (n == no_number)

-- each number is greater than the one before it, or is none. Of numbers of bindings and none it
-- says that they rise up to the first none, and that all are none from there on, since no number is
-- greater than none
abbrev pub rises : List ℕ → Bool
rises [] = true
rises (n ∷ []) = true
rises (n ∷ (m ∷ ns)) = (nat_lt n m || (m == no_number)) && rises (m ∷ ns)

-- up to four numbers of bindings that rise, and then none
abbrev pub bindings_or_none : List ℕ → Bool
bindings_or_none ns = (length ns == 4) && list_all binding_or_none ns && rises ns

abbrev pub all_none : List ℕ → Bool
all_none ns = list_all (λ n. n == no_number) ns

-- the op uses the target; event, lane and requester are used by each
abbrev pub target_is_used : Op → Bool
target_is_used Remove = true
target_is_used Replace = true
target_is_used op = false

-- only an install and a replace use a guard
abbrev pub guard_is_used : Op → Bool
guard_is_used Install = true
guard_is_used Replace = true
guard_is_used op = false

-- only an install, a replace and a default use a handler
abbrev pub handler_is_used : Op → Bool
handler_is_used Install = true
handler_is_used Replace = true
handler_is_used Default = true
handler_is_used op = false

-- place, before, after and mode
abbrev pub place_is_used : Op → Bool
place_is_used Install = true
place_is_used op = false

-- each number lies in its range
abbrev pub has_widths : Command → Bool
has_widths c =
    nat_lt c.event MAX_EVENTS
    && nat_lt c.lane LANE_LIMIT
    && nat_lt c.requester (2 ^ 8)
    && nat_lt c.handler HANDLER_LIMIT
    && nat_lt c.guard GUARD_LIMIT
    && nat_le c.target MAX_PLACE

-- it is free and plain, and names no other binding
abbrev pub is_placeless : Command → Bool
is_placeless c = (number_of_place c.place == 0) && (number_of_mode c.mode == 0) && all_none c.before && all_none c.after

-- each field that the op doesn't use is empty
abbrev pub leaves_unused : Command → Bool
leaves_unused c =
    (handler_is_used c.op || (c.handler == 0))
    && (guard_is_used c.op || (c.guard == 0))
    && (target_is_used c.op || (c.target == 0))
    && (place_is_used c.op || is_placeless c)

-- the valid commands
abbrev pub is_command : Command → Bool
is_command c = has_widths c && bindings_or_none c.before && bindings_or_none c.after && leaves_unused c

-- the command that does this to an event, with each other field empty
abbrev pub bare_command : Op → (lane event requester : ℕ) → Command
bare_command op lane event requester = record {
  op = op;
  event = event;
  lane = lane;
  requester = requester;
  handler = 0;
  guard = 0;
  place = Free;
  before = NO_BINDINGS;
  after = NO_BINDINGS;
  target = 0;
  mode = Plain;
}
