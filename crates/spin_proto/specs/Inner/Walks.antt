-- A raise under way, whose steps are noted one after another.
use Rattle.std.specs.Prelude.{ℕ, ◌+◌, ◌<◌, ◌≡◌, Bool, true, false, List, [], ◌∷◌, ◌++◌, map}
use Rattle.std.specs.Prelude.{Option, Some, None}
use Rattle.std.specs.List.{flat_map}
use Rattle.spin_objects.specs.declared.item.Item.{Item}
use Rattle.spin_raise.specs.declared.answer.Answer.{Answer}
use Rattle.spin_raise.specs.Firing.{Bound}
use Rattle.spin_table.specs.Setups.{SetupData}
use Rattle.spin_table.specs.States.{State}
use Rattle.spin_proto.specs.declared.walk.Upward.{Upward}
use Rattle.spin_proto.specs.declared.walk.Walk.{Walk}
use Rattle.spin_proto.specs.Whole.{Mark, Raised, step_of, calls_of, starts, marks_at, ups_of}
use Rattle.spin_proto.specs.Replies.{AreBounds}

-- it holds of the events as raises find them in this state
abbrev pub OnBounds : SetupData → State → (List Bound → Type 0) → Type 0
OnBounds d s P = (bounds : List Bound) → AreBounds d.events s.events bounds → P bounds

-- a walk that went over these steps
pub record Gained (marks : List Mark) (w w' : Walk) : Type 0 where
  pub trace : w'.trace ≡ w.trace ++ map step_of marks
  pub jobs : w'.jobs ≡ w.jobs ++ flat_map calls_of marks
  pub left : w'.left + starts marks ≡ w.left

-- it went over all of them, or they have more starts than were left
abbrev pub Spends : Bool → List Mark → Walk → Walk → Type 0
Spends true marks w w' = Gained marks w w'
Spends false marks w w' = w.left < starts marks

-- the same of a raise with its answer
abbrev pub Comes : Option Answer → Raised → Walk → Walk → Type 0
Comes None r w w' = w.left < starts r.marks
Comes (Some a) r w w' = (a ≡ r.answer) × Gained r.marks w w'

-- the items were noted and their raises upwards kept, or they have more starts than were left
abbrev pub Notes : Bool → List Upward → ℕ → List Item → Walk → Walk → Type 0
Notes false ups event given w w' = w.left < starts (flat_map (marks_at event) given)
Notes true ups event given w w' =
    (ups ≡ ups_of given) × Gained (flat_map (marks_at event) given) w w'

-- these raises upwards go to events after this one, of so many
abbrev pub UpsRise : ℕ → ℕ → List Upward → Type 0
UpsRise count event [] = Unit {0}
UpsRise count event (up ∷ ups) = (event < up.event) × (up.event < count) × UpsRise count event ups
