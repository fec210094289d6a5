-- An open raise of one event under way.
use Rattle.std.specs.Prelude.{ℕ, ◌≡◌, ◌<◌, ◌==◌, ◌&&◌, ◌+◌, ◌++◌, Bool, true, false, not, List, [], ◌∷◌, length, fold}
use Rattle.std.specs.Prelude.{flat_map, slice_get, Option, Some, None, IfSome, IsSomeAnd, MatchOption, if◌then◌else◌}
use Rattle.std.specs.Option.{option_map}
use Rattle.spin_values.specs.declared.types.EventType.{EventType}
use Rattle.spin_values.specs.declared.values.Value.{Value}
use Rattle.spin_code.specs.declared.merge.Merge.{Merge}
use Rattle.spin_objects.specs.declared.item.Item.{Item}
use Rattle.spin_plan.specs.Next.{guards_hold, IsNext}
use Rattle.spin_raise.specs.declared.answer.Answer.{Answer}
use Rattle.spin_raise.specs.declared.answer.Answer.TheVariants as answer
use Rattle.spin_raise.specs.Firing.{Units, Bound, items_by}
use Rattle.spin_raise.specs.Progress.{answer_after, default_now, with_result}
use Rattle.spin_host.specs.declared.firing.AnswerFault.{AnswerFault}
use Rattle.spin_host.specs.declared.firing.AnswerFault.TheVariants as fault
use Rattle.spin_host.specs.declared.firing.Firing.{Firing}
use Rattle.spin_host.specs.declared.frame.Due.{Due}
use Rattle.spin_host.specs.declared.frame.Due.TheVariants as due
use Rattle.spin_host.specs.declared.frame.Frame.{Frame}
use Rattle.spin_host.specs.declared.gift.Given.{Given}
use Rattle.spin_host.specs.Gifts.{gift_fault}
use Rattle.spin_host.specs.OpenRaises.{Next, Reached, Unreached, Fate, Told, Standing, front, IsDue, mode_of}
use Rattle.spin_host.specs.OpenRaises.{fires, after_all, AreTold, IsOpenRaise}

-- the default of that number, if it is one
abbrev pub unreached : ℕ → Option Next
unreached default = if default == 0 then None else Some (Unreached default)

-- what is due, where it is there
abbrev pub next_of : Bound → Due → Option Next
next_of e (due.Binding at) = option_map (Reached at) (slice_get e.bindings at)
next_of e due.Default = unreached e.default

abbrev pub next_if : Bound → Option Due → Option Next
next_if e None = None
next_if e (Some due) = next_of e due

abbrev pub due_in : Bound → Frame → Option Next
due_in e f = next_if e f.due

-- what is due is there
abbrev pub IsWithin : Bound → Due → Type 0
IsWithin e (due.Binding at) = at < length e.bindings
IsWithin e due.Default = 0 < e.default

-- what a host is told of it
abbrev pub number_of : Next → ℕ
number_of (Reached at b) = b.number
number_of (Unreached default) = 0

abbrev pub handler_of : Next → ℕ
handler_of (Reached at b) = b.handler
handler_of (Unreached default) = default

abbrev pub firing_at : ℕ → Next → Firing
firing_at event n = record { event = event; number = number_of n; handler = handler_of n; mode = mode_of n }

-- the default is next, where no binding is
abbrev pub is_default_next : Bool → Answer → ℕ → Bool
is_default_next asked a default = not asked && not (default_now a default == 0)

-- this is next by what was done so far
abbrev pub Finds : Units → Bound → Frame → Option Due → Type 0
Finds u e f (Some (due.Binding at)) = IsNext (guards_hold u.tests f.progress.args) e.bindings f.progress.from (Some at)
Finds u e f (Some due.Default) =
    IsNext (guards_hold u.tests f.progress.args) e.bindings f.progress.from None
    × (is_default_next f.asked f.progress.answer e.default ≡ true)
Finds u e f None =
    IsNext (guards_hold u.tests f.progress.args) e.bindings f.progress.from None
    × (is_default_next f.asked f.progress.answer e.default ≡ false)

-- what is due, or where nothing is, what is next
abbrev pub Looks : Units → Bound → Frame → Option Due → Type 0
Looks u e f o = MatchOption (due_in e f) (Finds u e f o) (λ n. next_if e o ≡ Some n)

-- what is held of a raise is where it stands
pub record Keeps (u : Units) (e : Bound) (s : Standing) (f : Frame) : Type 0 where
  pub from : f.progress.from ≡ s.from
  pub same : f.progress.args ≡ s.args
  pub so_far : f.progress.answer ≡ fold (answer_after e.merge) answer.NoHandler s.fired
  pub asked : f.asked ≡ s.asked
  pub due : IfSome (due_in e f) (λ n. IsDue u e s (Some n))

-- it began on these arguments, this was told, and it stands so
abbrev pub Stands : Units → EventType → Bound → List Value → List Told → Frame → Type 0
Stands u sig e args told f = AreTold u sig e (front args) told × Keeps u e (after_all u e (front args) told) f

-- a raise on these arguments in which nothing was told yet
abbrev pub Begins : List Value → Frame → Type 0
Begins args f = (u : Units) (sig : EventType) (e : Bound) → Stands u sig e args [] f

-- whatever was told, nothing more is told
abbrev pub Stays : Units → Bound → Frame → Frame → Type 0
Stays u e f f' = (sig : EventType) (args : List Value) (told : List Told) → Stands u sig e args told f → Stands u sig e args told f'

-- whatever was told, what is due is told now, has this fate, and gave what is appended
abbrev pub Tells : Units → EventType → Bound → Fate → Frame → Frame → List Item → List Item → Type 0
Tells u sig e fate f f' out out' =
    IsSomeAnd (due_in e f)
    (λ n. (out' ≡ out ++ flat_map items_by (fires u f.progress.args n fate))
    × ((args : List Value) (told : List Told) → Stands u sig e args told f
    → Stands u sig e args (told ++ record { next = n; saw = f.progress.args; fate = fate } ∷ []) f'))

-- whatever was told, the raise ends with this answer
abbrev pub Ends : Units → Bound → Frame → Answer → Type 0
Ends u e f a =
    (sig : EventType) (args : List Value) (told : List Told) → Stands u sig e args told f
    → IsOpenRaise u sig e args told a

-- why an answer isn't taken, by what is due
abbrev pub answer_fault : EventType → Option Next → List Given → Option AnswerFault
answer_fault sig None gift = Some fault.NotDue
answer_fault sig (Some n) gift = option_map fault.Refused (gift_fault sig (mode_of n) gift)

-- a raise after the binding at a position was answered
abbrev pub binding_settled : Merge → ℕ → Option ℕ → Frame → Frame
binding_settled m at word f =
    record f {
      progress = record { from = at + 1; answer = with_result m f.progress.answer word; args = f.progress.args };
      due = None;
    }

-- a raise after its default was answered
abbrev pub default_settled : Bound → Option ℕ → Frame → Frame
default_settled e word f =
    record f {
      progress = record { from = length e.bindings; answer = answer.Default word; args = f.progress.args };
      due = None;
      asked = true;
    }
