-- A raise of one event whose firings a host is told one by one, and answers.
use Rattle.std.specs.Prelude.{ℕ, ◌≡◌, ◌==◌, ◌+◌, ◌++◌, Bool, true, false, List, [], ◌∷◌, length, fold, flat_map}
use Rattle.std.specs.Prelude.{slice_get, Option, Some, None, if◌then◌else◌}
use Rattle.spin_values.specs.declared.types.EventType.{EventType}
use Rattle.spin_values.specs.declared.values.Value.{Value}
use Rattle.spin_place.specs.declared.binding.Binding.{Binding}
use Rattle.spin_objects.specs.declared.item.Item.{Item}
use Rattle.spin_objects.specs.Doing.{items_of, args_after}
use Rattle.spin_plan.specs.Next.{guards_hold, IsNext}
use Rattle.spin_raise.specs.declared.answer.Answer.{Answer}
use Rattle.spin_raise.specs.declared.bound.Runner.TheVariants as runner
use Rattle.spin_raise.specs.Firing.{Units, Bound, Firing, Did, Apart, ByDefault, steps_at, is_async, firing_of}
use Rattle.spin_raise.specs.Firing.{args_left, items_by, answer_of}
use Rattle.spin_word.specs.declared.command.Mode.{Mode}
use Rattle.spin_word.specs.declared.command.Mode.TheVariants as mode
use Rattle.spin_host.specs.declared.gift.Given.{Given}
use Rattle.spin_host.specs.declared.gift.GiftFault.{GiftFault}
use Rattle.spin_host.specs.Gifts.{gift_fault, items_given, args_given}

-- what is told next: a binding that was reached, with its position, or the event's default
pub data Next : Type 0 where
  Reached : (at : ℕ) (binding : Binding) → Next
  Unreached : (default : ℕ) → Next

-- what became of it: its act was done, the host's own handler ran in its place and gave this, or the host's own guard
-- said no
pub data Fate : Type 0 where
  Done : Fate
  Gave : (gift : List Given) → Fate
  Declined : Fate

-- a firing that was told: what it was, the arguments that it saw, and what became of it
pub record Told : Type 0 where
  pub next : Next
  pub saw : List Value
  pub fate : Fate

-- where a raise stands: the position from which bindings are still to be tried, what fired, the arguments, and whether
-- the default was told
pub record Standing : Type 0 where
  pub from : ℕ
  pub fired : List Firing
  pub args : List Value
  pub asked : Bool

-- nothing was told yet
abbrev pub front : List Value → Standing
front args = record { from = 0; fired = []; args = args; asked = false }

-- the default is next where it wasn't told, nothing fired, and there is one
abbrev pub or_unreached : ℕ → Bool → List Firing → Option Next
or_unreached default false [] = if default == 0 then None else Some (Unreached default)
or_unreached default asked fired = None

-- this is next: the first binding whose guards hold on the arguments as they stand, or else the default, or nothing
abbrev pub IsDue : Units → Bound → Standing → Option Next → Type 0
IsDue u e s (Some (Reached at b)) =
    IsNext (guards_hold u.tests s.args) e.bindings s.from (Some at) × (slice_get e.bindings at ≡ Some b)
IsDue u e s other =
    IsNext (guards_hold u.tests s.args) e.bindings s.from None × (other ≡ or_unreached e.default s.asked s.fired)

-- a default runs as a plain handler
abbrev pub mode_of : Next → Mode
mode_of (Reached at b) = b.mode
mode_of (Unreached default) = mode.Plain

-- what the host may not give
abbrev pub fate_fault : EventType → Next → Fate → Option GiftFault
fate_fault sig n (Gave gift) = gift_fault sig (mode_of n) gift
fate_fault sig n fate = None

-- what fires where its act is done: what the plain dispatcher does
abbrev pub does : Units → List Value → Next → Firing
does u args (Reached at b) = firing_of runner.Raiser u b args
does u args (Unreached default) = ByDefault (items_of (steps_at u default) args) (args_after (steps_at u default) args)

-- what fires where the host gave this: one that runs apart is left to a job
abbrev pub gives : List Value → List Given → Next → Firing
gives args gift (Reached at b) =
    if is_async b.mode then Apart b.number args else Did b.number true (items_given gift) (args_given args gift)
gives args gift (Unreached default) = ByDefault (items_given gift) (args_given args gift)

-- what fires by its fate
abbrev pub fires : Units → List Value → Next → Fate → List Firing
fires u args n Done = does u args n ∷ []
fires u args n (Gave gift) = gives args gift n ∷ []
fires u args n Declined = []

-- bindings are tried from here on afterwards
abbrev pub from_after : Bound → Next → ℕ
from_after e (Reached at b) = at + 1
from_after e (Unreached default) = length e.bindings

abbrev pub asked_after : Bool → Next → Bool
asked_after asked (Reached at b) = asked
asked_after asked (Unreached default) = true

-- where a raise stands after a firing that was told
abbrev pub after : Units → Bound → Standing → Told → Standing
after u e s t = record {
  from = from_after e t.next;
  fired = s.fired ++ fires u s.args t.next t.fate;
  args = args_left s.args (fires u s.args t.next t.fate);
  asked = asked_after s.asked t.next;
}

-- where it stands after all that was told
abbrev pub after_all : Units → Bound → Standing → List Told → Standing
after_all u e s told = fold (after u e) s told

-- these are told one after another: each was next, on the arguments as they stood, and has a fate that it may have
abbrev pub AreTold : Units → EventType → Bound → Standing → List Told → Type 0
AreTold u sig e s [] = Unit {0}
AreTold u sig e s (t ∷ told) =
    IsDue u e s (Some t.next) × (t.saw ≡ s.args) × (fate_fault sig t.next t.fate ≡ None)
    × AreTold u sig e (after u e s t) told

-- a raise on these arguments in which this was told, and that ended with this answer: nothing more is next
pub record IsOpenRaise (u : Units) (sig : EventType) (e : Bound) (args : List Value) (told : List Told) (a : Answer)
    : Type 0 where
  pub way : AreTold u sig e (front args) told
  pub end : IsDue u e (after_all u e (front args) told) None
  pub comes : a ≡ answer_of e.merge (after_all u e (front args) told).fired

-- what the raise gave, and the arguments that it left
abbrev pub items_told : Units → Bound → List Value → List Told → List Item
items_told u e args told = flat_map items_by (after_all u e (front args) told).fired
